-- The replies that a stepper has for its record are those of the run of the record, since the boards before are those of the record.
use Rattle.std.proofs.Common.{◌≡◌, ℕ, zero, suc, ◌+◌, ◌-◌, ◌<◌, ◌≤◌, ◌&&◌, Bool, true, false, cond, List, [], ◌∷◌, ◌++◌, length, take, get_or}
use Rattle.std.proofs.Common.{Option, Some, None, option_map, refl, sym, ap, ◌∙◌, arith}
use Rattle.std.proofs.lemmas.Bool.{leb-true, and_parts}
use Rattle.std.proofs.lemmas.List.{append-nil}
use Rattle.std.proofs.lemmas.Option.{slice_get_within, slice_get-get_or}
use Rattle.std.specs.Prelude.{slice_get, nat_le}
use Rattle.llb_model.specs.Program.{Build}
use Rattle.llb_model.specs.State.{State, opening}
use Rattle.llb_events.specs.declared.event.Event.{Event}
use Rattle.llb_model.specs.Table.{Reply, table}
use Rattle.llb_model.specs.Run.{run}
use Rattle.llb_model.proofs.GrantedEvents.{Answer}
use Rattle.llb_model.proofs.Lists.{inside}
use Rattle.llb_model.proofs.RunExtension.{run_one, run_first, run_none}
use Rattle.llb_model.proofs.RunExtension as runs
use Rattle.llb_board.specs.BoardValue.{BoardValue, after_event}
use Rattle.llb_stepper.specs.Records.{record_at, replied, RecordIsTheRun}
use Rattle.llb_stepper.specs.Stepping.{Stepping, PastIsTheRecords, answered, at_first, run_on}
use Rattle.llb_stepper.proofs.DoneEvents.{done_here}
use Rattle.llb_stepper.proofs.BoardAfterEvent.{grew, shifted, went}

abbrev from_opening : BoardValue → List Event → Option (State × List Reply)
from_opening b es = run b.build (opening b.build b.opening) es

-- ---- boards and states

-- an event in front of a run
run_from : (b : Build) (s t : State) (e : Event) (es : List Event) (r : Reply) (u : State) (rs : List Reply) → table b s e ≡ Some (t, r)
    → run b t es ≡ Some (u, rs) → run b s (e ∷ es) ≡ Some (u, r ∷ rs)
run_from b s t e es r u rs given goes = runs.run_on b s t u (e ∷ []) es (r ∷ []) rs (run_one b s t e r given) goes

-- a board after events: the run leads to its state
pub record Reached (x y : BoardValue) (es : List Event) : Type 0 where
  pub replies : List Reply
  pub runs : run x.build x.state es ≡ Some (y.state, replies)
  pub build : y.build ≡ x.build
  pub opened : y.opening ≡ x.opening
  pub events : y.events ≡ x.events ++ es

pub reached : (es : List Event) (x y : BoardValue) → run_on x es ≡ Some y → Reached x y es
unfolding run_on run
reached [] x y leads =
    let same : x ≡ y = inside leads in
    record {
      replies = [];
      runs = ap (λ (z : BoardValue). Some (z.state, [])) same;
      build = ap (λ (z : BoardValue). z.build) (sym same);
      opened = ap (λ (z : BoardValue). z.opening) (sym same);
      events = ap (λ (z : BoardValue). z.events) (sym same) ∙ sym (append-nil x.events);
    }
reached (e ∷ es) x y leads =
    let p = went (answered x e) (λ z. run_on z es) y leads in
    let g = grew x p.0.0 e p.0.1 p.1 in
    let r = reached es p.0.0 y p.2 in
    record {
      replies = p.0.1 ∷ r.replies;
      runs = run_from x.build x.state p.0.0.state e es p.0.1 y.state r.replies g.granted (ap (λ b. run b p.0.0.state es) (sym g.build) ∙ r.runs);
      build = r.build ∙ g.build;
      opened = r.opened ∙ g.opened;
      events = r.events ∙ ap (λ l. l ++ es) g.events ∙ shifted x.events e es;
    }

-- the record of a board after more events
pub ran_on : (x y : BoardValue) (es : List Event) (rs : List Reply) → from_opening x x.events ≡ Some (x.state, rs) → run_on x es ≡ Some y
    → (replies : List Reply) × (from_opening y y.events ≡ Some (y.state, replies))
ran_on x y es rs ran leads =
    let r = reached es x y leads in (
      rs ++ r.replies,
      ap (λ b. run b (opening b y.opening) y.events) r.build ∙ ap (λ o. run x.build (opening x.build o) y.events) r.opened ∙ ap (from_opening x) r.events
          ∙ runs.run_on x.build (opening x.build x.opening) x.state y.state x.events es rs r.replies ran r.runs,
    )

-- event k of a run is granted where the events before it lead, with reply k
pub replied_at : (b : Build) (s t u : State) (es : List Event) (k : ℕ) (e : Event) (rs qs : List Reply) → run b s es ≡ Some (t, rs)
    → run b s (take k es) ≡ Some (u, qs) → slice_get es k ≡ Some e → (a : Answer) × (table b u e ≡ Some a) × (slice_get rs k ≡ Some a.1)
replied_at b s t u [] k e rs qs whole front at = absurd cc
replied_at b s t u (f ∷ es) zero e rs qs whole front at =
    let r = run_first b s f es t rs whole in
    let here : s ≡ u = (run_none b s u qs front).0 in
    let event : f ≡ e = cc in
    (r.a, ap (λ x. table b x e) (sym here) ∙ ap (table b s) (sym event) ∙ r.given, ap (λ l. slice_get l 0) r.replies)
replied_at b s t u (f ∷ es) (suc k) e rs qs whole front at =
    let r = run_first b s f es t rs whole in
    let q = run_first b s f (take k es) u qs front in
    let same : r.a ≡ q.a = inside (sym r.given ∙ q.given) in
    let next = replied_at b r.a.0 t u es k e r.rest q.rest r.goes_on (ap (λ (x : Answer). run b x.0 (take k es)) same ∙ q.goes_on) at in
    (next.0, next.1, ap (λ l. slice_get l (suc k)) r.replies ∙ next.2)

-- ---- as a stepper is seen

record Parts (o : Option BoardValue) (p : Option Event) (e : Event) (r : Reply) : Type 0 where
  board : BoardValue
  is : o ≡ Some board
  event : p ≡ Some e
  given : replied o (Some e) ≡ Some (e, r)

same_event : (x e : Event) (r : Reply) (q : Option (BoardValue × Reply)) → option_map {U = Event × Reply} (λ (p : BoardValue × Reply). (x, p.1)) q
    ≡ Some (e, r) → x ≡ e
same_event x e r None is = absurd cc
same_event x e r (Some p) is = let inner : ◌≡◌ {A = Event × Reply} (x, p.1) (e, r) = cc in ap (λ (q : Event × Reply). q.0) inner

parts_of : (o : Option BoardValue) (p : Option Event) (e : Event) (r : Reply) → replied o p ≡ Some (e, r) → Parts o p e r
parts_of None p e r is = absurd cc
parts_of (Some b) None e r is = absurd cc
parts_of (Some b) (Some x) e r is =
    let same = same_event x e r (answered b x) is in
    record {
      board = b;
      is = refl;
      event = ap (λ y. Some y) same;
      given = ap (λ y. replied (Some b) (Some y)) (sym same) ∙ is;
    }

one_reply : (e : Event) (x r : Reply) (o : Option (Event × Reply)) → o ≡ Some (e, x) → o ≡ Some (e, r) → x ≡ r
one_reply e x r o this that =
    let same : ◌≡◌ {A = Option (Event × Reply)} (Some (e, x)) (Some (e, r)) = sym this ∙ that in
    let inner : ◌≡◌ {A = Event × Reply} (e, x) (e, r) = cc in ap (λ (p : Event × Reply). p.1) inner

module _ (s : Stepping) (records : PastIsTheRecords s) where
  abbrev after_it : ℕ → ℕ
  after_it i = length s.board.events - i

  -- event i, which was done here, and its reply
  at_line : (i : ℕ) (e : Event) (t : State) (replies : List Reply) (c : BoardValue) → from_opening s.board s.board.events ≡ Some (t, replies) → 1 ≤ i
      → i ≤ length s.board.events → slice_get s.board.events (i - 1) ≡ Some e → slice_get s.past (after_it i) ≡ Some c
      → (q : Reply) × (replied (slice_get s.past (after_it i)) (Some e) ≡ Some (e, q)) × (slice_get replies (i - 1) ≡ Some q)
  at_line i e t replies c whole low high at found =
      let place : length s.board.events - (after_it i + 1) ≡ i - 1 = omega (arith, low, high) in
      let leads : run_on (at_first s.board) (take (i - 1) s.board.events) ≡ Some c =
      ap (λ n. run_on (at_first s.board) (take n s.board.events)) (sym place) ∙ records (after_it i) c found in
      let r = reached (take (i - 1) s.board.events) (at_first s.board) c leads in
      let q = replied_at s.board.build (opening s.board.build s.board.opening) t c.state s.board.events (i - 1) e replies r.replies whole r.runs at in
      let granted : table c.build c.state e ≡ Some q.0 = ap (λ b. table b c.state e) r.build ∙ q.1 in
      let given : replied (slice_get s.past (after_it i)) (Some e) ≡ Some (e, q.0.1) =
      ap (λ o. replied o (Some e)) found
      ∙ ap (λ (o : Option Answer). option_map {U = Event × Reply} (λ (p : BoardValue × Reply). (e, p.1)) (option_map {U = BoardValue × Reply} (λ (a : Answer).
      (after_event c e a.0, a.1)) o)) granted in
      (q.0.1, given, q.2)

  sound_at : (i : ℕ) (e : Event) (r : Reply) (t : State) (replies : List Reply) → from_opening s.board s.board.events ≡ Some (t, replies)
      → record_at s i ≡ Some (e, r) → (slice_get s.board.events (i - 1) ≡ Some e) × (slice_get replies (i - 1) ≡ Some r)
  sound_at i e r t replies whole told = by_test (nat_le 1 i && nat_le i (length s.board.events)) refl told
    where
      there : (nat_le 1 i && nat_le i (length s.board.events)) ≡ true
          → replied (slice_get s.past (after_it i)) (slice_get s.board.events (i - 1)) ≡ Some (e, r)
          → (slice_get s.board.events (i - 1) ≡ Some e) × (slice_get replies (i - 1) ≡ Some r)
      there test is =
          let low : 1 ≤ i = leb-true 1 i (and_parts (nat_le 1 i) (nat_le i (length s.board.events)) test).0 in
          let high : i ≤ length s.board.events = leb-true i (length s.board.events) (and_parts (nat_le 1 i) (nat_le i (length s.board.events)) test).1 in
          let p = parts_of (slice_get s.past (after_it i)) (slice_get s.board.events (i - 1)) e r is in
          let q = at_line i e t replies p.board whole low high p.event p.is in
          let reply : q.0 ≡ r = one_reply e q.0 r (replied (slice_get s.past (after_it i)) (Some e)) q.1 p.given in
          (p.event, q.2 ∙ ap (λ x. Some x) reply)

      by_test : (test : Bool) → (nat_le 1 i && nat_le i (length s.board.events)) ≡ test
          → cond test (replied (slice_get s.past (after_it i)) (slice_get s.board.events (i - 1))) None ≡ Some (e, r)
          → (slice_get s.board.events (i - 1) ≡ Some e) × (slice_get replies (i - 1) ≡ Some r)
      by_test true is given = there is given
      by_test false is given = absurd cc

  complete_at : (i : ℕ) (e : Event) (r : Reply) (t : State) (replies : List Reply) → from_opening s.board s.board.events ≡ Some (t, replies) → 1 ≤ i
      → length s.board.events < i + length s.past → slice_get s.board.events (i - 1) ≡ Some e → slice_get replies (i - 1) ≡ Some r
      → record_at s i ≡ Some (e, r)
  complete_at i e r t replies whole low here at there =
      let within = slice_get_within s.board.events (i - 1) e at in
      let high : i ≤ length s.board.events = omega (arith, low, within) in
      let inside : after_it i < length s.past = omega (arith, low, high, here) in
      let q = at_line i e t replies (get_or s.past (after_it i) s.board) whole low high at (slice_get-get_or s.past (after_it i) s.board inside) in
      let both : Some q.0 ≡ Some r = sym q.2 ∙ there in
      let reply : q.0 ≡ r = cc in
      done_here s i e r low high at (q.1 ∙ ap (λ x. Some (e, x)) reply)

  pub is_the_run : RecordIsTheRun s
  is_the_run = record { sound = sound_at; complete = complete_at }
