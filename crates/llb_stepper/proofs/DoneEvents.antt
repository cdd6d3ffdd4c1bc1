-- The events that were done are the last of the record, each with its reply on the board before it.
use Rattle.std.proofs.Common.{◌≡◌, ℕ, zero, suc, ◌+◌, ◌-◌, ◌<◌, ◌≤◌, ◌&&◌, Bool, true, false, cond, List, [], ◌∷◌, ◌++◌, length, reverse, get_or}
use Rattle.std.proofs.Common.{Option, Some, None, option_map, refl, sym, ap, ◌∙◌, subst, arith}
use Rattle.std.proofs.lemmas.Bool.{le-leb}
use Rattle.std.proofs.lemmas.List.{get_or-reverse, length-append, length-reverse}
use Rattle.std.proofs.lemmas.Option.{slice_get-get_or, slice_get_past, slice_get_within}
use Rattle.std.specs.Prelude.{slice_get, nat_le}
use Rattle.llb_model.specs.State.{State}
use Rattle.llb_events.specs.declared.event.Event.{Event}
use Rattle.llb_model.specs.Table.{Reply, table}
use Rattle.llb_board.specs.BoardValue.{BoardValue, after_event}
use Rattle.llb_board.specs.UndoableEvents.{told, undone}
use Rattle.llb_board.specs.declared.board.undoable_event.Reply as short
use Rattle.llb_board.specs.declared.board.undoable_event.Walked.{Walked}
use Rattle.llb_stepper.specs.StepperInvariant.{past_of, AreWalked}
use Rattle.llb_stepper.specs.Records.{record_at, replied}
use Rattle.llb_stepper.specs.Stepping.{Stepping, answered}
use Rattle.llb_stepper.specs.UndoableEventReplies.{told_pair}

-- what is added at the end is the last item
pub at_end : {A : Type 0} (xs : List A) (y : A) → slice_get (xs ++ y ∷ []) (length xs) ≡ Some y
at_end [] y = refl
at_end (x ∷ xs) y = at_end xs y

pub in_front : {A : Type 0} (xs ys : List A) (i : ℕ) (x : A) → slice_get xs i ≡ Some x → slice_get (xs ++ ys) i ≡ Some x
in_front [] ys i x is = absurd (omega (arith, slice_get_within [] i x is))
in_front (z ∷ xs) ys zero x is = is
in_front (z ∷ xs) ys (suc i) x is = in_front xs ys i x is

-- an event is the last of the board's that it leaves
last_of : (before b : BoardValue) (e : Event) (r : Reply) → answered before e ≡ Some (b, r) → b.events ≡ before.events ++ e ∷ []
last_of before b e r given = by_table (table before.build before.state e) given
  where
    by_table : (o : Option (State × Reply)) → option_map {U = BoardValue × Reply} (λ a. (after_event before e a.0, a.1)) o ≡ Some (b, r) → b.events
        ≡ before.events ++ e ∷ []
    by_table None is = absurd cc
    by_table (Some a) is =
        let same : (let p : BoardValue × Reply = (after_event before e a.0, a.1) in p) ≡ (b, r) = cc in ap (λ (p : BoardValue × Reply). p.0.events) (sym same)

-- the event that k events follow
pub record IsRecorded (b : BoardValue) (us : List Walked) (k : ℕ) (q : short.Reply) : Type 0 where
  pub event : Event
  pub reply : Reply
  pub at : slice_get b.events (length b.events - (k + 1)) ≡ Some event
  pub given : replied (slice_get (past_of b us) k) (Some event) ≡ Some (event, reply)
  pub same : q ≡ told reply

abbrev by_answer : Event → Option (BoardValue × Reply) → Option (Event × Reply)
by_answer e o = option_map (λ (p : BoardValue × Reply). (e, p.1)) o

recorded_at : (us : List Walked) (b : BoardValue) (k : ℕ) (w : Walked) → AreWalked b us → slice_get us k ≡ Some w → IsRecorded b us k w.reply
recorded_at [] b k w are is = absurd (omega (arith, slice_get_within [] k w is))
recorded_at (u ∷ us) b zero w are is =
    let same : u ≡ w = cc in
    let f = are.1 in
    let before = undone u.undo b in
    let events = last_of before b f.event f.reply f.given in
    let count : length b.events ≡ length before.events + 1 = ap length events ∙ length-append before.events (f.event ∷ []) in
    let place : length b.events - (0 + 1) ≡ length before.events = omega (arith, count) in
    record {
      event = f.event;
      reply = f.reply;
      at = ap (slice_get b.events) place ∙ ap (λ es. slice_get es (length before.events)) events ∙ at_end before.events f.event;
      given = ap (by_answer f.event) f.given;
      same = ap (λ (x : Walked). x.reply) (sym same) ∙ f.same;
    }
recorded_at (u ∷ us) b (suc k) w are is =
    let f = are.1 in
    let before = undone u.undo b in
    let r = recorded_at us before k w are.2 is in
    let events = last_of before b f.event f.reply f.given in
    let count : length b.events ≡ length before.events + 1 = ap length events ∙ length-append before.events (f.event ∷ []) in
    let within = slice_get_within before.events (length before.events - (k + 1)) r.event r.at in
    let place : length b.events - (suc k + 1) ≡ length before.events - (k + 1) = omega (arith, count) in
    record {
      event = r.event;
      reply = r.reply;
      at = ap (slice_get b.events) place ∙ ap (λ es. slice_get es (length before.events - (k + 1))) events
          ∙ in_front before.events (f.event ∷ []) (length before.events - (k + 1)) r.event r.at;
      given = r.given;
      same = r.same;
    }

-- ---- as a stepper is seen

no_more : (s : Stepping) (i : ℕ) (o : Option Event) (t : Bool) → slice_get s.past (length s.board.events - i) ≡ None
    → cond t (replied (slice_get s.past (length s.board.events - i)) o) None ≡ None
no_more s i o true none = ap (λ p. replied p o) none
no_more s i o false none = refl

-- an event that the board had at first
pub not_done_here : (s : Stepping) (i : ℕ) → length s.past ≤ length s.board.events - i → record_at s i ≡ None
not_done_here s i short =
    no_more s i (slice_get s.board.events (i - 1)) (nat_le 1 i && nat_le i (length s.board.events)) (slice_get_past s.past (length s.board.events - i) short)

both : (a b : Bool) → a ≡ true → b ≡ true → (a && b) ≡ true
both true true p q = refl
both true false p q = absurd cc
both false b p q = absurd cc

pub done_here : (s : Stepping) (i : ℕ) (e : Event) (r : Reply) → 1 ≤ i → i ≤ length s.board.events → slice_get s.board.events (i - 1) ≡ Some e
    → replied (slice_get s.past (length s.board.events - i)) (Some e) ≡ Some (e, r) → record_at s i ≡ Some (e, r)
done_here s i e r low high at given =
    let test : (nat_le 1 i && nat_le i (length s.board.events)) ≡ true = both (nat_le 1 i) (nat_le i (length s.board.events)) (le-leb 1 i low) (le-leb i
    (length s.board.events) high) in
    ap (λ t. cond t (replied (slice_get s.past (length s.board.events - i)) (slice_get s.board.events (i - 1))) None) test
    ∙ ap (replied (slice_get s.past (length s.board.events - i))) at ∙ given

-- what was done is found by the place of its undo
pub told_here : (b : BoardValue) (ws : List Walked) (d : Walked) (s : Stepping) (i : ℕ) (e : Event) → AreWalked b (reverse ws) → b ≡ s.board
    → past_of b (reverse ws) ≡ s.past
    → 1 ≤ i → i ≤ length b.events → length b.events - i < length ws → slice_get b.events (i - 1) ≡ Some e
    → Some (e, (get_or ws (length ws - 1 - (length b.events - i)) d).reply) ≡ option_map told_pair (record_at s i)
told_here b ws d s i e are board past low high inside at =
    let k = length b.events - i in
    let turned : k < length (reverse ws) = omega (arith, inside, length-reverse ws) in
    let w = get_or ws (length ws - 1 - k) d in
    let found : slice_get (reverse ws) k ≡ Some w = slice_get-get_or (reverse ws) k d turned ∙ ap (λ x. Some x) (get_or-reverse ws k d inside) in
    let r = recorded_at (reverse ws) b k w are found in
    let place : length b.events - (k + 1) ≡ i - 1 = omega (arith, low, high) in
    let event : Some r.event ≡ Some e = sym r.at ∙ ap (slice_get b.events) place ∙ at in
    let is : r.event ≡ e = cc in
    let given : replied (slice_get s.past (length s.board.events - i)) (Some e) ≡ Some (e, r.reply) =
    ap (λ us. replied (slice_get us (length s.board.events - i)) (Some e)) (sym past) ∙ ap (λ (x : BoardValue). replied (slice_get (past_of b (reverse ws))
    (length x.events - i)) (Some e)) (sym board)
    ∙ subst (λ x. replied (slice_get (past_of b (reverse ws)) k) (Some x) ≡ Some (x, r.reply)) is r.given in
    let here : record_at s i ≡ Some (e, r.reply) =
    done_here s i e r.reply low (omega (arith, high, ap (λ (x : BoardValue). length x.events) board))
    (ap (λ (x : BoardValue). slice_get x.events (i - 1)) (sym board)
    ∙ at) given in
    ap (λ q. Some (e, q)) r.same ∙ sym (ap (option_map told_pair) here)

-- it is looked up at a place that is given otherwise
pub told_as : (b : BoardValue) (ws : List Walked) (d : Walked) (s : Stepping) (i : ℕ) (e : Event) (x : Walked) (j : ℕ) → x ≡ get_or ws j d → j
    ≡ length ws - 1 - (length b.events - i)
    → AreWalked b (reverse ws) → b ≡ s.board → past_of b (reverse ws) ≡ s.past → 1 ≤ i → i ≤ length b.events → length b.events - i < length ws
    → slice_get b.events (i - 1) ≡ Some e
    → Some (e, x.reply) ≡ option_map told_pair (record_at s i)
told_as b ws d s i e x j is place are board past low high inside at =
    let reply : x.reply ≡ (get_or ws (length ws - 1 - (length b.events - i)) d).reply = ap (λ (y : Walked). y.reply) (is ∙ ap (λ k. get_or ws k d) place) in
    ap (λ q. Some (e, q)) reply ∙ told_here b ws d s i e are board past low high inside at

-- a number other than 0 is at least 1
pub positive : (n : ℕ) → (n ≡ 0 → ⊥) → 1 ≤ n
positive zero none = absurd (none refl)
positive (suc n) none = omega arith
