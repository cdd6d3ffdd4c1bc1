-- How often each vertex was cancelled, and the room of a record, as events are done and taken back.
use Rattle.std.proofs.Common.{◌≡◌, ◌≢◌, ℕ, zero, suc, ◌+◌, ◌-◌, ◌≤◌, ◌*◌, List, [], ◌∷◌, ◌++◌, length, Some, refl, sym, ap, ◌∙◌, arith, get_or}
use Rattle.std.specs.Prelude.{slice_get, slice_set, replicate}
use Rattle.std.proofs.lemmas.Bool.{ne_eqb, eq-eqb}
use Rattle.std.proofs.lemmas.List.Sums.{sum_by-append, sum_by-cons}
use Rattle.std.specs.Prelude.{cond, Bool, true, false}
use Rattle.llb_loader.specs.declared.graph.Vertex.{Vertex}
use Rattle.llb_model.specs.Program.{Build}
use Rattle.llb_model.specs.State.{Status, Waiting, Running, Settled, State, Opening, opening}
use Rattle.llb_events.specs.declared.event.Event.{Event}
use Rattle.llb_events.specs.declared.event.Event.TheVariants.{Step, Cancel}
use Rattle.llb_model.specs.Table.{cancel_reply}
use Rattle.llb_model.specs.Table.{Reply, table}
use Rattle.llb_model.specs.Run.{run}
use Rattle.llb_model.specs.Landing.{steps_by}
use Rattle.llb_model.specs.EventBounds.{events_of, is_cancel_of, cancels_in, counts_from, cancel_counts, most_from, owed_by, owed_from, room_taken}
use Rattle.llb_model.specs.ConsistentStates.{IsConsistent}
use Rattle.llb_model.proofs.GrantedEvents.{Answer}
use Rattle.llb_model.proofs.RunExtension.{run_none, run_first}
use Rattle.llb_model.proofs.RemainingEvents.{cancels_same, no_cancel, most_counts, from_zero, run_has_few}
use Rattle.llb_model.proofs.RecordRoomBalance.{cancels_later, cancels_once_more, owed_counts, owed_few, event_owes, IsRoomy}

-- ---- by number

pub counts_length : (vs : List Vertex) (k : ℕ) (rs : List Reply) → length (counts_from k vs rs) ≡ length vs
counts_length [] k rs = refl
counts_length (y ∷ vs) k rs = ap suc (counts_length vs (k + 1) rs)

-- nobody was cancelled at first
pub counts_open : (vs : List Vertex) (k : ℕ) → counts_from k vs [] ≡ replicate (length vs) 0
counts_open [] k = refl
counts_open (y ∷ vs) k = ap (λ cs. 0 ∷ cs) (counts_open vs (k + 1))

counts_place : (vs : List Vertex) (k v : ℕ) (rs : List Reply) (x : Vertex) → slice_get vs v ≡ Some x → get_or (counts_from k vs rs) v 0 ≡ cancels_in (k + v) rs
counts_place [] k v rs x there = absurd cc
counts_place (y ∷ vs) k zero rs x there = ap (λ j. cancels_in j rs) (none k)
  where
    none : (n : ℕ) → n ≡ n + 0
    none n = omega arith
counts_place (y ∷ vs) k (suc v) rs x there = counts_place vs (k + 1) v rs x there ∙ ap (λ j. cancels_in j rs) (next k v)
  where
    next : (k v : ℕ) → k + 1 + v ≡ k + suc v
    next k v = omega arith

-- the count at a vertex is its own
pub counts_at : (b : Build) (v : ℕ) (rs : List Reply) (x : Vertex) → slice_get b.graph.vertices v ≡ Some x → get_or (cancel_counts b rs) v 0 ≡ cancels_in v rs
counts_at b v rs x there = counts_place b.graph.vertices 0 v rs x there ∙ ap (λ j. cancels_in j rs) (sym (from_zero v))

-- where each vertex was cancelled as often
counts_same : (vs : List Vertex) (k : ℕ) (rs qs : List Reply) → ((v : ℕ) → k ≤ v → cancels_in v qs ≡ cancels_in v rs)
    → counts_from k vs qs ≡ counts_from k vs rs
counts_same [] k rs qs same = refl
counts_same (y ∷ vs) k rs qs same =
    ap (λ n. n ∷ counts_from (k + 1) vs qs) (same k (omega arith))
    ∙ ap (λ cs. cancels_in k rs ∷ cs) (counts_same vs (k + 1) rs qs (λ v le. same v (omega (arith, le))))

-- where one vertex was cancelled once more
counts_more : (vs : List Vertex) (k v : ℕ) (rs qs : List Reply) → cancels_in (k + v) qs ≡ suc (cancels_in (k + v) rs)
    → ((u : ℕ) → u ≢ k + v → cancels_in u qs ≡ cancels_in u rs) → counts_from k vs qs ≡ slice_set (counts_from k vs rs) v (suc (cancels_in (k + v) rs))
counts_more [] k v rs qs more same = refl
counts_more (y ∷ vs) k zero rs qs more same =
    ap (λ j. cancels_in j qs ∷ counts_from (k + 1) vs qs) (none k)
    ∙ ap (λ n. n ∷ counts_from (k + 1) vs qs) more
    ∙ ap (λ cs. suc (cancels_in (k + 0) rs) ∷ cs) (counts_same vs (k + 1) rs qs (λ v le. same v (λ e. absurd (omega (arith, e, le)))))
  where
    none : (n : ℕ) → n ≡ n + 0
    none n = omega arith
counts_more (y ∷ vs) k (suc v) rs qs more same =
    ap (λ n. n ∷ counts_from (k + 1) vs qs) (same k (λ e. absurd (omega (arith, e))))
    ∙ ap (λ cs. cancels_in k rs ∷ cs) (counts_more vs (k + 1) v rs qs
    (sym (ap (λ j. cancels_in j qs) (next k v)) ∙ more ∙ ap (λ j. suc (cancels_in j rs)) (next k v)) (λ u apart. same u (λ e. apart (e ∙ next k v)))
    ∙ ap (λ j. slice_set (counts_from (k + 1) vs rs) v (suc (cancels_in j rs))) (sym (next k v)))
  where
    next : (k v : ℕ) → k + suc v ≡ k + 1 + v
    next k v = omega arith

-- ---- by the event

-- after an event that is no cancel the counts are the same
pub counts_stay : (b : Build) (s : State) (e : Event) (a : Answer) (rs : List Reply) → ((w : ℕ) → e ≢ Cancel w) → table b s e ≡ Some a
    → cancel_counts b (rs ++ a.1 ∷ []) ≡ cancel_counts b rs
counts_stay b s e a rs goes_on given =
    counts_same b.graph.vertices 0 rs (rs ++ a.1 ∷ []) (λ v le. cancels_later v rs a.1 (no_cancel b s e a goes_on given v))

-- after a cancel that of its vertex is one more
pub counts_grow : (b : Build) (v n : ℕ) (rs : List Reply) (x : Vertex) → slice_get b.graph.vertices v ≡ Some x
    → cancel_counts b (rs ++ cancel_reply v n ∷ []) ≡ slice_set (cancel_counts b rs) v (get_or (cancel_counts b rs) v 0 + 1)
counts_grow b v n rs x there =
    let qs = rs ++ cancel_reply v n ∷ [] in
    let one : cancels_in (0 + v) qs ≡ suc (cancels_in (0 + v) rs)
    = ap (λ j. cancels_in j qs) (sym (from_zero v)) ∙ cancels_once_more v rs (cancel_reply v n) (eq-eqb v v refl) ∙ ap (λ j. suc (cancels_in j rs))
    (from_zero v) in
    let others : (u : ℕ) → u ≢ 0 + v → cancels_in u qs ≡ cancels_in u rs
    = λ u apart. cancels_later u rs (cancel_reply v n) (ne_eqb v u (λ e. apart (sym e ∙ from_zero v))) in
    counts_more b.graph.vertices 0 v rs qs one others
    ∙ ap (slice_set (cancel_counts b rs) v) (ap suc (sym (counts_place b.graph.vertices 0 v rs x there)) ∙ next (get_or (cancel_counts b rs) v 0))
  where
    next : (n : ℕ) → suc n ≡ n + 1
    next n = omega arith

-- ---- at most one for each event

one_of : (v : ℕ) (r : Reply) → cond (is_cancel_of v r) 1 0 ≤ 1
one_of v r = go (is_cancel_of v r)
  where
    go : (t : Bool) → cond t 1 0 ≤ 1
    go true = omega arith
    go false = omega arith

cancels_fit : (b : Build) (v : ℕ) (s t : State) (es : List Event) (rs : List Reply) → run b s es ≡ Some (t, rs) → cancels_in v rs ≤ length es
cancels_fit b v s t [] rs given = let none = ap (cancels_in v) (run_none b s t rs given).1 in omega (arith, none)
cancels_fit b v s t (e ∷ es) rs given =
    let r = run_first b s e es t rs given in
    let all : cancels_in v rs ≡ cond (is_cancel_of v r.a.1) 1 0 + cancels_in v r.rest
    = ap (cancels_in v) r.replies ∙ sum_by-cons (λ q. cond (is_cancel_of v q) 1 0) r.a.1 r.rest in
    omega (arith, all, one_of v r.a.1, cancels_fit b v r.a.0 t es r.rest r.goes_on)

pub cancels_few : (b : Build) (v : ℕ) (x : Vertex) → slice_get b.graph.vertices v ≡ Some x → (s t : State) (es : List Event) (rs : List Reply)
    → run b s es ≡ Some (t, rs) → get_or (cancel_counts b rs) v 0 ≤ length es
cancels_few b v x there s t es rs given = omega (arith, counts_at b v rs x there, cancels_fit b v s t es rs given)

-- ---- a block of micro-steps

-- none of its replies is a cancel
pub steps_no_cancel : (b : Build) (w n : ℕ) (s t : State) (qs : List Reply) → run b s (steps_by w n) ≡ Some (t, qs) → (v : ℕ) → cancels_in v qs ≡ 0
steps_no_cancel b w zero s t qs given v = ap (cancels_in v) (run_none b s t qs given).1
steps_no_cancel b w (suc n) s t qs given v =
    let r = run_first b s (Step w) (steps_by w n) t qs given in
    ap (cancels_in v) r.replies
    ∙ cancels_same v r.a.1 r.rest (no_cancel b s (Step w) r.a (λ u e. cc) r.given v)
    ∙ steps_no_cancel b w n r.a.0 t r.rest r.goes_on v

later_same : (v : ℕ) (rs qs : List Reply) → cancels_in v qs ≡ 0 → cancels_in v (rs ++ qs) ≡ cancels_in v rs
later_same v rs qs none =
    let all = sum_by-append (λ q. cond (is_cancel_of v q) 1 0) rs qs in
    omega (arith, all, none)

-- so the counts are the same after it, and where statuses are the same the room is as it should be
pub steps_counts : (b : Build) (rs qs : List Reply) → ((v : ℕ) → cancels_in v qs ≡ 0) → cancel_counts b (rs ++ qs) ≡ cancel_counts b rs
steps_counts b rs qs none = counts_same b.graph.vertices 0 rs (rs ++ qs) (λ v le. later_same v rs qs (none v))

pub steps_roomy : (b : Build) (s t : State) (rs qs : List Reply) (room : ℕ) → ((v : ℕ) → cancels_in v qs ≡ 0) → t.statuses ≡ s.statuses
    → IsRoomy b s rs room → IsRoomy b t (rs ++ qs) room
steps_roomy b s t rs qs room none same roomy =
    let most = most_counts b.graph.vertices 0 rs (rs ++ qs) (λ v le. later_same v rs qs (none v)) in
    let owes = owed_counts b.graph.vertices t.statuses 0 rs (rs ++ qs) (λ v le. later_same v rs qs (none v)) in
    let stays : owed_from 0 b.graph.vertices t.statuses rs ≡ owed_from 0 b.graph.vertices s.statuses rs = ap (λ ss. owed_from 0 b.graph.vertices ss rs) same in
    omega (arith, most, owes, stays, roomy)

-- ---- room

-- a record fits its room
pub record_fits : (b : Build) (o : Opening) (s : State) (es : List Event) (rs : List Reply) (room : ℕ) → run b (opening b o) es ≡ Some (s, rs)
    → IsRoomy b s rs room → length es ≤ room
record_fits b o s es rs room leads roomy =
    omega (arith, run_has_few b o s es rs leads, owed_few b.graph.vertices s.statuses 0 rs, roomy)

owed_most : (vs : List Vertex) (ss : List Status) (k : ℕ) (rs : List Reply) → owed_from k vs ss rs ≤ most_from k vs rs
owed_most [] ss k rs = omega arith
owed_most (y ∷ vs) [] k rs = omega arith
owed_most (y ∷ vs) (s ∷ ss) k rs = omega (arith, owed_most vs ss (k + 1) rs, few s (cancels_in k rs))
  where
    few : (s : Status) (n : ℕ) → owed_by y s n ≤ events_of y * (1 + n)
    few Waiting zero = omega arith
    few Waiting (suc n) = more (events_of y) n
      where
        more : (e n : ℕ) → e ≤ e * (1 + suc n)
        more e n = omega arith
    few (Running w) n = omega arith
    few (Settled e) n = omega arith

-- what an event took of the room is given back where the event is taken back
pub event_returns : (b : Build) (s : State) (rs : List Reply) (room : ℕ) (e : Event) (a : Answer) → IsConsistent b s → table b s e ≡ Some a
    → IsRoomy b a.0 (rs ++ a.1 ∷ []) room → (room_taken b rs e ≤ room) × IsRoomy b s rs (room - room_taken b rs e)
event_returns b s rs room e a here given roomy =
    let owes = event_owes b s e a rs here given in
    let few = owed_most b.graph.vertices s.statuses 0 rs in
    let fits : room_taken b rs e ≤ room = omega (arith, owes, few, roomy) in
    (fits, omega (arith, owes, fits, roomy))
