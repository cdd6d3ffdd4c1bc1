-- What an event makes of the room of a record and of how often each vertex was cancelled, and what these were before it.
use Rattle.std.proofs.Common.{◌≡◌, ◌≢◌, ℕ, zero, suc, ◌+◌, ◌-◌, ◌<◌, List, [], ◌∷◌, ◌++◌, length, Some, refl, sym, ap, ◌∙◌, arith, get_or}
use Rattle.std.specs.Prelude.{slice_get, slice_set}
use Rattle.std.proofs.lemmas.Option.{slice_get_within}
use Rattle.llb_loader.specs.declared.graph.Vertex.{Vertex}
use Rattle.llb_model.specs.Table.{cancel_reply}
use Rattle.llb_model.specs.Program.{Build}
use Rattle.llb_model.specs.State.{Waiting, State}
use Rattle.llb_events.specs.declared.event.Event.{Event}
use Rattle.llb_events.specs.declared.event.Event.TheVariants.{Claim, Cancel}
use Rattle.llb_model.specs.Table.{Reply, table}
use Rattle.llb_model.specs.EventBounds.{events_of, cancels_in, cancel_counts, owed_by, owed_at, room_taken}
use Rattle.llb_model.proofs.GrantedEvents.{Answer}
use Rattle.llb_model.proofs.Cancels.{counts_length, counts_at, counts_stay, counts_grow}
use Rattle.llb_board.specs.History.{Space, taken, taken_by, claimed, unclaimed, cancelled, uncancelled}

-- ---- after an event

pub record SpaceAfter (b : Build) (rs : List Reply) (e : Event) (r : Reply) (old new : Space) : Type 0 where
  pub room : new.room ≡ old.room + room_taken b rs e
  pub counted : new.cancels ≡ cancel_counts b (rs ++ r ∷ [])

-- an event that takes no room and is no cancel leaves both
pub space_stays : (b : Build) (s : State) (e : Event) (a : Answer) (rs : List Reply) (space : Space) → ((w : ℕ) → e ≢ Cancel w) → room_taken b rs e ≡ 0
    → table b s e ≡ Some a → space.cancels ≡ cancel_counts b rs → SpaceAfter b rs e a.1 space space
space_stays b s e a rs space goes_on none given counted = record {
  room = omega (arith, none);
  counted = counted ∙ sym (counts_stay b s e a rs goes_on given);
}

taken_owed : (x : Vertex) (n : ℕ) → taken (events_of x) n ≡ owed_by x Waiting n
taken_owed x zero = refl
taken_owed x (suc n) = refl

-- a claim takes what the vertex owes
pub claim_takes : (b : Build) (w v events : ℕ) (x : Vertex) (rs : List Reply) (space : Space) → slice_get b.graph.vertices v ≡ Some x → events ≡ events_of x
    → space.cancels ≡ cancel_counts b rs → taken_by v events space ≡ room_taken b rs (Claim w v)
claim_takes b w v events x rs space there is counted =
    (λ i. taken (is i) (get_or (counted i) v 0))
    ∙ ap (taken (events_of x)) (counts_at b v rs x there)
    ∙ taken_owed x (cancels_in v rs)
    ∙ ap (λ o. owed_at o (cancels_in v rs)) (sym there)

pub space_claimed : (b : Build) (s : State) (w v events : ℕ) (x : Vertex) (a : Answer) (rs : List Reply) (space : Space)
    → slice_get b.graph.vertices v ≡ Some x → events ≡ events_of x → table b s (Claim w v) ≡ Some a → space.cancels ≡ cancel_counts b rs
    → SpaceAfter b rs (Claim w v) a.1 space (claimed v events space)
space_claimed b s w v events x a rs space there is given counted = record {
  room = ap (λ n. space.room + n) (claim_takes b w v events x rs space there is counted);
  counted = counted ∙ sym (counts_stay b s (Claim w v) a rs (λ u e. cc) given);
}

-- a cancel is counted
pub space_cancelled : (b : Build) (w v n : ℕ) (x : Vertex) (rs : List Reply) (space : Space) → slice_get b.graph.vertices v ≡ Some x
    → space.cancels ≡ cancel_counts b rs → SpaceAfter b rs (Cancel w) (cancel_reply v n) space (cancelled v space)
space_cancelled b w v n x rs space there counted = record {
  room = omega arith;
  counted = ap (λ cs. slice_set cs v (get_or cs v 0 + 1)) counted ∙ sym (counts_grow b v n rs x there);
}

-- ---- before it

pub record SpaceBefore (b : Build) (rs : List Reply) (e : Event) (new old : Space) : Type 0 where
  pub room : old.room ≡ new.room - room_taken b rs e
  pub counted : old.cancels ≡ cancel_counts b rs

pub space_stayed : (b : Build) (s : State) (e : Event) (a : Answer) (rs : List Reply) (space : Space) → ((w : ℕ) → e ≢ Cancel w) → room_taken b rs e ≡ 0
    → table b s e ≡ Some a → space.cancels ≡ cancel_counts b (rs ++ a.1 ∷ []) → SpaceBefore b rs e space space
space_stayed b s e a rs space goes_on none given counted = record {
  room = omega (arith, none);
  counted = counted ∙ counts_stay b s e a rs goes_on given;
}

pub space_unclaimed : (b : Build) (s : State) (w v events : ℕ) (x : Vertex) (a : Answer) (rs : List Reply) (space : Space)
    → slice_get b.graph.vertices v ≡ Some x → events ≡ events_of x → table b s (Claim w v) ≡ Some a
    → space.cancels ≡ cancel_counts b (rs ++ a.1 ∷ []) → SpaceBefore b rs (Claim w v) space (unclaimed v events space)
space_unclaimed b s w v events x a rs space there is given counted =
    let same = counted ∙ counts_stay b s (Claim w v) a rs (λ u e. cc) given in
    record {
      room = ap (λ n. space.room - n) (claim_takes b w v events x rs space there is same);
      counted = same;
    }

one_back : (cs : List ℕ) (v : ℕ) → v < length cs
    → (let ds = slice_set cs v (get_or cs v 0 + 1) in slice_set ds v (get_or ds v 0 - 1) ≡ cs)
one_back [] v low = absurd (omega (arith, low))
one_back (c ∷ cs) zero low = ap (λ n. n ∷ cs) (same c)
  where
    same : (n : ℕ) → n + 1 - 1 ≡ n
    same n = omega arith
one_back (c ∷ cs) (suc v) low = ap (λ l. c ∷ l) (one_back cs v (omega (arith, low)))

pub space_uncancelled : (b : Build) (w v n : ℕ) (x : Vertex) (rs : List Reply) (space : Space) → slice_get b.graph.vertices v ≡ Some x
    → space.cancels ≡ cancel_counts b (rs ++ cancel_reply v n ∷ []) → SpaceBefore b rs (Cancel w) space (uncancelled v space)
space_uncancelled b w v n x rs space there counted =
    let low = slice_get_within b.graph.vertices v x there in
    let count = counts_length b.graph.vertices 0 rs in
    record {
      room = omega arith;
      counted = ap (λ cs. slice_set cs v (get_or cs v 0 - 1)) (counted ∙ counts_grow b v n rs x there)
          ∙ one_back (cancel_counts b rs) v (omega (arith, low, count));
    }
