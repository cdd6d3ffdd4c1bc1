-- The events of a board's record, done one by one on a board of its opening, lead to the board.
use Rattle.std.proofs.Common.{◌≡◌, ℕ, zero, suc, ◌+◌, ◌-◌, ◌≤◌, length, reverse, arith, List, [], ◌∷◌, ◌++◌, Option, Some, option_map, refl, sym, ap, ◌∙◌}
use Rattle.std.proofs.lemmas.List.{append-nil, length-append}
use Rattle.std.proofs.lemmas.Option.{slice_get_within}
use Rattle.llb_cache.specs.Caches.{Row}
use Rattle.llb_model.specs.Program.{Build}
use Rattle.llb_model.specs.State.{State, Opening, opening}
use Rattle.llb_events.specs.declared.event.Event.{Event}
use Rattle.llb_model.specs.Table.{Reply, worker_of, table}
use Rattle.llb_model.specs.Run.{run}
use Rattle.llb_model.proofs.RunExtension.{run_first}
use Rattle.std.specs.Prelude.{fold, take, slice_get}
use Rattle.llb_board.specs.BoardValue.{BoardValue, Replays, after_event, kept_along, kept_next}
use Rattle.llb_model.specs.TwoCacheModels.{rows_after}
use Rattle.llb_board.specs.UndoableEvents.{undone}
use Rattle.llb_board.specs.declared.board.undoable_event.Walked.{Walked}
use Rattle.llb_stepper.specs.StepperInvariant.{past_of, AreWalked}
use Rattle.llb_stepper.specs.Stepping.{Stepping, PastIsTheRecords, at_first, run_on, then_on}
use Rattle.llb_stepper.proofs.BoardAfterEvent.{Grew, grew, shifted}

abbrev Kept : Type 0
Kept = State × List Row

abbrev begun : Build → Opening → List Row → BoardValue
begun build o rows = record { build = build; opening = o; first = rows; state = opening build o; rows = rows; events = [] }

-- the board after events
abbrev later : BoardValue → State → List Row → List Event → BoardValue
later x t rows es = record x { state = t; rows = rows; events = es }

kept_inside : {x y : Kept} → ◌≡◌ {A = Option Kept} (Some x) (Some y) → x ≡ y
kept_inside e = cc

one : (x : BoardValue) (e : Event) (es : List Event) (a : State × Reply) → table x.build x.state e ≡ Some a → run_on x (e ∷ es)
    ≡ run_on (after_event x e a.0) es
unfolding run_on
one x e es a given =
    ap (λ (o : Option (State × Reply)). then_on (option_map {U = BoardValue × Reply} (λ (q : State × Reply). (after_event x e q.0, q.1)) o)
    (λ c. run_on c es)) given

none : (x : BoardValue) → run_on x [] ≡ Some x
unfolding run_on
none x = refl

-- what is kept along events, from what is kept so far
abbrev from_kept : BoardValue → List Event → Option Kept → Option Kept
from_kept x es o = fold (kept_next x.build) o es

-- the openings of a board and of the one before it are one
first_same : (before b : BoardValue) {e : Event} {r : Reply} → Grew before b e r → at_first b ≡ at_first before
first_same before b g = λ i. begun (g.build i) (g.opened i) (g.first i)

along : (es : List Event) (x : BoardValue) (t : State) (rs : List Reply) (rows : List Row) → run x.build x.state es ≡ Some (t, rs)
    → kept_along x.build x.state x.rows es ≡ Some (t, rows) → run_on x es ≡ Some (later x t rows (x.events ++ es))
along [] x t rs rows ran keeps =
    let same : ◌≡◌ {A = Kept} (x.state, x.rows) (t, rows) = kept_inside keeps in
    none x ∙ ap (λ (k : Kept). Some (later x k.0 k.1 x.events)) same ∙ ap (λ es. Some (later x t rows es)) (sym (append-nil x.events))
along (e ∷ es) x t rs rows ran keeps =
    let r = run_first x.build x.state e es t rs ran in
    let next = after_event x e r.a.0 in
    let first : option_map {U = Kept} (λ (a : State × Reply). (a.0, rows_after x.rows a.0 (worker_of e))) (table x.build x.state e)
    ≡ Some (r.a.0, rows_after x.rows r.a.0 (worker_of e)) =
    ap (λ (o : Option (State × Reply)). option_map {U = Kept} (λ (a : State × Reply). (a.0, rows_after x.rows a.0 (worker_of e))) o) r.given in
    let kept : kept_along x.build next.state next.rows es ≡ Some (t, rows) = sym (ap (from_kept x es) first) ∙ keeps in
    one x e es r.a r.given ∙ along es next t r.rest rows r.goes_on kept ∙ ap (λ l. Some (later x t rows l)) (shifted x.events e es)

-- the events of a record lead to its board
pub replayed : (b : BoardValue) → Replays b → run_on (at_first b) b.events ≡ Some b
replayed b here = along b.events (at_first b) b.state here.replies b.rows here.leads here.keeps

-- the events taken of a record without its last event are those taken of the record
taken : (xs : List Event) (e : Event) (n : ℕ) → n ≤ length xs → take n (xs ++ e ∷ []) ≡ take n xs
taken xs e zero le = refl
taken [] e (suc n) le = absurd (omega (arith, le))
taken (x ∷ xs) e (suc n) le = ap (λ l. x ∷ l) (taken xs e n (omega (arith, le)))

-- all of a list's events are taken
pub whole : (xs : List Event) → take (length xs) xs ≡ xs
whole [] = refl
whole (x ∷ xs) = ap (λ l. x ∷ l) (whole xs)

-- the board before one of the events that were done
before_at : (us : List Walked) (b : BoardValue) (k : ℕ) (c : BoardValue) → AreWalked b us → slice_get (past_of b us) k ≡ Some c
    → (k + 1 ≤ length b.events) × (run_on (at_first b) (take (length b.events - (k + 1)) b.events) ≡ Some c)
before_at [] b k c are is = absurd (omega (arith, slice_get_within [] k c is))
before_at (u ∷ us) b zero c are is =
    let before = undone u.undo b in
    let f = are.1 in
    let g = grew before b f.event f.reply f.given in
    let same : before ≡ c = cc in
    let count : length b.events ≡ length before.events + 1 = ap length g.events ∙ length-append before.events (f.event ∷ []) in
    let place : length b.events - (0 + 1) ≡ length before.events = omega (arith, count) in
    let events : take (length b.events - (0 + 1)) b.events ≡ before.events =
    ap (λ n. take n b.events) place ∙ ap (take (length before.events)) g.events ∙ taken before.events f.event (length before.events) (omega arith)
    ∙ whole before.events in (
      omega (arith, count),
      ap (λ x. run_on x (take (length b.events - (0 + 1)) b.events)) (first_same before b g) ∙ ap (run_on (at_first before)) events
          ∙ replayed before are.0.replays ∙ ap (λ x. Some x) same,
    )
before_at (u ∷ us) b (suc k) c are is =
    let before = undone u.undo b in
    let f = are.1 in
    let g = grew before b f.event f.reply f.given in
    let r = before_at us before k c are.2 is in
    let count : length b.events ≡ length before.events + 1 = ap length g.events ∙ length-append before.events (f.event ∷ []) in
    let n = length before.events - (k + 1) in
    let place : length b.events - (suc k + 1) ≡ n = omega (arith, count) in
    let events : take (length b.events - (suc k + 1)) b.events ≡ take n before.events =
    ap (λ m. take m b.events) place ∙ ap (take n) g.events ∙ taken before.events f.event n (omega arith) in (
      omega (arith, count, r.0),
      ap (λ x. run_on x (take (length b.events - (suc k + 1)) b.events)) (first_same before b g)
          ∙ ap (run_on (at_first before)) events ∙ r.1,
    )

pub past_is : (b : BoardValue) (ws : List Walked) (s : Stepping) → AreWalked b (reverse ws) → b ≡ s.board → past_of b (reverse ws) ≡ s.past → PastIsTheRecords s
past_is b ws s are board past k c is =
    ap (λ (x : BoardValue). run_on (at_first x) (take (length x.events - (k + 1)) x.events)) (sym board)
    ∙ (before_at (reverse ws) b k c are (ap (λ us. slice_get us k) past ∙ is)).1
