-- Events that are done one after another, and taken back.
use Rattle.std.proofs.Common.{◌≡◌, ℕ, zero, suc, ◌+◌, ◌-◌, ◌<◌, Bool, true, false, List, [], ◌∷◌, ◌++◌, length, map, take, drop, get_or, Option, Some}
use Rattle.std.proofs.Common.{None, option_map, refl, sym, ap, ◌∙◌, arith, subst, below_more, length-drop, length-append}
use Rattle.std.specs.Prelude.{slice_get, Result, Ok, Err, OnOk, OnErr}
use Rattle.std.specs.List.{list_any}
use Rattle.llb_model.specs.Run.{chosen}
use Rattle.llb_model.specs.EventBounds.{still_to_come}
use Rattle.llb_model.specs.State.{State}
use Rattle.llb_events.specs.declared.event.Event.{Event}
use Rattle.llb_model.specs.Table.{Reply, table}
use Rattle.llb_model.proofs.ChosenEventRuns.{chosen_comes_nearer}
use Rattle.llb_board.specs.BoardValue.{BoardValue, after_event}
use Rattle.llb_stepper.specs.declared.stop.Break.{Break}
use Rattle.llb_stepper.specs.declared.stop.Stop.{Stop}
use Rattle.llb_board.specs.UndoableEvents.{walk_of}
use Rattle.llb_events.specs.declared.event.Event as own
use Rattle.llb_board.specs.declared.fault.WalkFault.{WalkFault}
use Rattle.llb_board.specs.declared.board.undoable_event.Reply as short
use Rattle.llb_stepper.specs.declared.fault.StepperFault.{StepperFault}
use Rattle.llb_stepper.specs.declared.fault.StepperFault.TheVariants as fault
use Rattle.llb_stepper.specs.StepperResults.{IsRefusedAt, MeetsOn, done_by, done_of, stepper_memory}
use Rattle.llb_stepper.specs.Stepping.{Stepping, GoesBack, IsStop, IsGo, PastIsTheRecords, AreChosen, ChosenThen, answered, timeline, meets}
use Rattle.llb_stepper.specs.Stepping.{meets_by, meets_any, meets_at, meets_from, run_on, then_on}
use Rattle.llb_stepper.proofs.BoardAfterEvent.{went}
use Rattle.llb_stepper.proofs.RecordReplies.{reached}
use Rattle.llb_stepper.proofs.DoneEvents.{at_end}

abbrev Answer : Type 0
Answer = BoardValue × Reply

-- what a loop over events keeps: s at first, t after i of them
pub record GoneTo (s : Stepping) (es : List Event) (t : Stepping) (i : ℕ) : Type 0 where
  pub leads : run_on s.board (take i es) ≡ Some t.board
  pub past : drop i (timeline t) ≡ timeline s
  pub breaks : t.breaks ≡ s.breaks
  pub none : (k : ℕ) → k < i → meets_at s.breaks s.board es k ≡ false
  pub depth : length t.past ≡ length s.past + i

-- what a loop backwards keeps
pub record BackTo (s t : Stepping) (i : ℕ) : Type 0 where
  pub past : timeline t ≡ drop i (timeline s)
  pub build : t.board.build ≡ s.board.build
  pub breaks : t.breaks ≡ s.breaks

inside : {A : Type 0} {x y : A} → Some x ≡ Some y → x ≡ y
inside e = cc

-- one more event of the list is done
one_on : (b c d : BoardValue) (r : Reply) (es : List Event) (i : ℕ) (e : Event) → run_on b (take i es) ≡ Some c → slice_get es i ≡ Some e → answered c e
    ≡ Some (d, r)
    → run_on b (take (suc i) es) ≡ Some d
unfolding run_on
one_on b c d r [] i e leads at given = absurd cc
one_on b c d r (f ∷ es) zero e leads at given =
    let same : b ≡ c = inside leads in
    let event : f ≡ e = inside at in
    let here : answered b f ≡ Some (d, r) = ap (λ x. answered x f) same ∙ ap (answered c) event ∙ given in
    ap (λ o. then_on o (λ x. Some x)) here
one_on b c d r (f ∷ es) (suc i) e leads at given =
    let p = went (answered b f) (λ x. run_on x (take i es)) c leads in
    ap (λ o. then_on o (λ x. run_on x (take (suc i) es))) p.1 ∙ one_on p.0.0 c d r es i e p.2 at given

meets_here : (ks : List Break) (b c : BoardValue) (es : List Event) (i : ℕ) (e : Event) → run_on b (take i es) ≡ Some c → slice_get es i ≡ Some e
    → meets_at ks b es i ≡ meets_any ks c e
unfolding run_on meets_at
meets_here ks b c [] i e leads at = absurd cc
meets_here ks b c (f ∷ es) zero e leads at =
    let same : b ≡ c = inside leads in
    let event : f ≡ e = inside at in
    ap (λ x. meets_any ks x f) same ∙ ap (meets_any ks c) event
meets_here ks b c (f ∷ es) (suc i) e leads at =
    let p = went (answered b f) (λ x. run_on x (take i es)) c leads in
    ap (λ o. meets_from o (λ x. meets_at ks x es i)) p.1 ∙ meets_here ks p.0.0 c es i e p.2 at

pub drop_tail : {A : Type 0} (i : ℕ) (xs ys : List A) (x : A) → drop i xs ≡ x ∷ ys → drop (suc i) xs ≡ ys
drop_tail zero [] ys x e = absurd cc
drop_tail zero (z ∷ xs) ys x e = cc
drop_tail (suc i) [] ys x e = absurd cc
drop_tail (suc i) (z ∷ xs) ys x e = drop_tail i xs ys x e

-- steppers of one line of boards and one list of breakpoints are equal
pub same_stepping : (s t : Stepping) → timeline s ≡ timeline t → s.breaks ≡ t.breaks → s ≡ t
same_stepping s t e f =
    let p : s.board ≡ t.board = cc in
    let q : s.past ≡ t.past = cc in
    λ i. record { board = p i; past = q i; breaks = f i }

-- one more event is taken back
pub one_fewer : {A E : Type 0} (s t u : Stepping) (i : ℕ) (r : Result A E) → BackTo s t i → i < length s.past → OnOk r (GoesBack t u) → OnErr r (t.past
    ≡ []) → BackTo s u (i + 1)
one_fewer s t u i (Ok x) kept lt ok err =
    let n : i + 1 ≡ suc i = omega arith in
    let e : drop i (timeline s) ≡ t.board ∷ timeline u = sym kept.past ∙ ap (λ l. t.board ∷ l) ok.past in
    subst (BackTo s u) (sym n) (record {
      past = sym (drop_tail i (timeline s) (timeline u) t.board e);
      build = ok.build ∙ kept.build;
      breaks = ok.breaks ∙ kept.breaks;
    })
one_fewer s t u i (Err x) kept lt ok err =
    absurd (omega (arith, ap length kept.past, length-drop i (timeline s), ap length err))

met_by : (ks : List Break) (e : Event) (o : Option Answer) (d : BoardValue) (r : Reply) → o ≡ Some (d, r) → meets_by ks e o ≡ list_any (meets e r) ks
met_by ks e o d r is = ap (meets_by ks e) is

-- an event that was done, and whether it meets a breakpoint
gone_on : (s t u : Stepping) (es : List Event) (i : ℕ) (e : Event) (hit : Bool) → GoneTo s es t i → slice_get es i ≡ Some e → MeetsOn t e u hit
    → (run_on s.board (take (suc i) es) ≡ Some u.board) × (drop (suc i) (timeline u) ≡ timeline s) × (u.breaks ≡ s.breaks) × (length u.past
    ≡ length s.past + suc i) × (meets_at s.breaks s.board es i ≡ hit)
gone_on s t u es i e hit kept at met = (
  one_on s.board t.board met.0 met.1 es i e kept.leads at met.2 ∙ ap (λ (x : Stepping). Some x.board) (sym met.3),
  ap (λ x. drop (suc i) (timeline x)) met.3 ∙ kept.past,
  ap (λ (x : Stepping). x.breaks) met.3 ∙ kept.breaks,
  omega (arith, ap (λ (x : Stepping). length x.past) met.3, kept.depth),
  meets_here s.breaks s.board t.board es i e kept.leads at ∙ ap (λ ks. meets_any ks t.board e) (sym kept.breaks)
      ∙ met_by t.breaks e (answered t.board e) met.0 met.1 met.2 ∙ sym met.4,
)

-- before the first event of a list nothing was done, and no breakpoint was met
pub begun : (s : Stepping) (es : List Event) → GoneTo s es s 0
unfolding run_on
begun s es = record { leads = refl; past = refl; breaks = refl; none = λ k lt. absurd (omega arith); depth = omega arith }

-- one more event of the list is done, and meets no breakpoint
pub one_more : (s t u : Stepping) (es : List Event) (i : ℕ) (e : Event) → GoneTo s es t i → slice_get es i ≡ Some e → MeetsOn t e u false
    → GoneTo s es u (i + 1)
one_more s t u es i e kept at met =
    let n : i + 1 ≡ suc i = omega arith in
    let g = gone_on s t u es i e false kept at met in
    subst (GoneTo s es u) (sym n) (record {
      leads = g.0;
      past = g.1;
      breaks = g.2;
      none = λ k lt. below_more (λ j. meets_at s.breaks s.board es j ≡ false) i kept.none g.4 k (omega arith);
      depth = g.3;
    })

abbrev stop_at : ℕ → Bool → Stop
stop_at n hit = record { events = n; at_break = hit }

-- one more event of the list is done, and is the first that meets a breakpoint
pub stops : (s t u : Stepping) (es : List Event) (i n : ℕ) (e : Event) → n + length s.past ≡ length u.past → GoneTo s es t i → slice_get es i ≡ Some e
    → MeetsOn t e u true → PastIsTheRecords u
    → IsStop s es u (stop_at n true)
stops s t u es i n e count kept at met records =
    let g = gone_on s t u es i e true kept at met in
    let m : n ≡ suc i = omega (arith, count, g.3) in
    record {
      leads = ap (λ k. run_on s.board (take k es)) m ∙ g.0;
      past = ap (λ k. drop k (timeline u)) m ∙ g.1;
      build = (reached (take (suc i) es) s.board u.board g.0).build;
      records = records;
      breaks = g.2;
      shortest = λ k lt. kept.none k (omega (arith, m));
      ends = (i, (omega (arith, m), g.4));
    }

-- all events of the list were done, and none met a breakpoint
pub ends_all : (s t : Stepping) (es : List Event) (i n : ℕ) → n + length s.past ≡ length t.past → i ≡ length es → GoneTo s es t i
    → PastIsTheRecords t → IsStop s es t (stop_at n false)
ends_all s t es i n count all kept records =
    let m : n ≡ i = omega (arith, count, kept.depth) in
    record {
      leads = ap (λ k. run_on s.board (take k es)) m ∙ kept.leads;
      past = ap (λ k. drop k (timeline t)) m ∙ kept.past;
      build = (reached (take i es) s.board t.board kept.leads).build;
      records = records;
      breaks = kept.breaks;
      shortest = λ k lt. kept.none k (omega (arith, m));
      ends = (m ∙ all, λ k lt. kept.none k (omega (arith, m)));
    }

-- all that was done is taken back
pub undone_all : (s t u : Stepping) (es : List Event) (i n : ℕ) → GoneTo s es t i → n + length s.past ≡ length t.past → timeline u ≡ drop n (timeline t)
    → u.breaks ≡ t.breaks → u ≡ s
undone_all s t u es i n kept count boards breaks =
    let m : n ≡ i = omega (arith, count, kept.depth) in
    same_stepping u s (boards ∙ ap (λ k. drop k (timeline t)) m ∙ kept.past) (breaks ∙ kept.breaks)

-- ---- chosen events

-- what a loop over chosen events keeps
pub record Chosen (s t : Stepping) : Type 0 where
  pub events : List Event
  pub are : AreChosen s.board events
  pub gone : GoneTo s events t (length events)

chosen_then : (o : Option Answer) (p : Answer) (Are : BoardValue → Type 0) → o ≡ Some p → ChosenThen o Are → Are p.0
chosen_then o p Are is are = let h : ChosenThen (Some p) Are = subst (λ x. ChosenThen x Are) is are in h

then_chosen : (o : Option Answer) (p : Answer) (Are : BoardValue → Type 0) → o ≡ Some p → Are p.0 → ChosenThen o Are
then_chosen o p Are is are = subst (λ x. ChosenThen x Are) (sym is) are

are_more : (b c d : BoardValue) (r : Reply) (es : List Event) (e : Event) → AreChosen b es → run_on b es ≡ Some c → chosen c.build c.state ≡ Some e
    → answered c e ≡ Some (d, r) → AreChosen b (es ++ e ∷ [])
unfolding AreChosen run_on
are_more b c d r [] e are leads is given =
    let same : b ≡ c = inside leads in
    (ap (λ (x : BoardValue). chosen x.build x.state) same ∙ is, then_chosen (answered b e) (d, r) (λ x. Unit {0}) (ap (λ x. answered x e) same ∙ given) tt)
are_more b c d r (f ∷ es) e are leads is given =
    let p = went (answered b f) (λ x. run_on x es) c leads in (
      are.0,
      then_chosen (answered b f) p.0 (λ x. AreChosen x (es ++ e ∷ [])) p.1 (are_more p.0.0 c d r es e (chosen_then (answered b f) p.0 (λ x. AreChosen
          x es) p.1 are.1) p.2 is given),
    )

take_front : {A : Type 0} (xs ys : List A) → take (length xs) (xs ++ ys) ≡ take (length xs) xs
take_front [] [] = refl
take_front [] (y ∷ ys) = refl
take_front (x ∷ xs) ys = ap (λ l. x ∷ l) (take_front xs ys)

take_whole : {A : Type 0} (xs : List A) → take (length xs) xs ≡ xs
take_whole [] = refl
take_whole (x ∷ xs) = ap (λ l. x ∷ l) (take_whole xs)

same_from : (o : Option Answer) (f g : BoardValue → Bool) → ((c : BoardValue) → f c ≡ g c) → meets_from o f ≡ meets_from o g
same_from None f g same = refl
same_from (Some p) f g same = same p.0

meets_prefix : (ks : List Break) (b : BoardValue) (es fs : List Event) (k : ℕ) → k < length es → meets_at ks b (es ++ fs) k ≡ meets_at ks b es k
unfolding meets_at
meets_prefix ks b [] fs k lt = absurd (omega arith)
meets_prefix ks b (e ∷ es) fs zero lt = refl
meets_prefix ks b (e ∷ es) fs (suc k) lt =
    same_from (answered b e) (λ c. meets_at ks c (es ++ fs) k) (λ c. meets_at ks c es k) (λ c. meets_prefix ks c es fs k (omega (arith, lt)))

longer : (s t : Stepping) (es : List Event) (e : Event) → GoneTo s es t (length es) → GoneTo s (es ++ e ∷ []) t (length es)
longer s t es e g = record {
  leads = ap (run_on s.board) (take_front es (e ∷ [])) ∙ g.leads;
  past = g.past;
  breaks = g.breaks;
  none = λ k lt. meets_prefix s.breaks s.board es (e ∷ []) k lt ∙ g.none k lt;
  depth = g.depth;
}

all_of : (s t : Stepping) (es : List Event) → GoneTo s es t (length es) → run_on s.board es ≡ Some t.board
all_of s t es g = ap (run_on s.board) (sym (take_whole es)) ∙ g.leads

-- at first no chosen event was done
pub none_chosen : (s : Stepping) → Chosen s s
unfolding AreChosen
none_chosen s = record { events = []; are = tt; gone = begun s [] }

-- a chosen event that meets no breakpoint
pub one_chosen : (s t u : Stepping) (e : Event) → Chosen s t → chosen t.board.build t.board.state ≡ Some e → MeetsOn t e u false → Chosen s u
one_chosen s t u e c is met =
    let n : length (c.events ++ e ∷ []) ≡ length c.events + 1 = length-append c.events (e ∷ []) in
    record {
      events = c.events ++ e ∷ [];
      are = are_more s.board t.board met.0 met.1 c.events e c.are (all_of s t c.events c.gone) is met.2;
      gone = subst (GoneTo s (c.events ++ e ∷ []) u) (sym n) (one_more s t u (c.events ++ e ∷ []) (length c.events) e (longer s t c.events e c.gone)
          (at_end c.events e) met);
    }

-- one more chosen event is done, and meets a breakpoint
pub stops_chosen : (s t u : Stepping) (n : ℕ) (e : Event) → n + length s.past ≡ length u.past → Chosen s t → chosen t.board.build t.board.state ≡ Some e
    → MeetsOn t e u true → PastIsTheRecords u → IsGo s u (stop_at n true)
stops_chosen s t u n e count c is met records = record {
  events = c.events ++ e ∷ [];
  are = are_more s.board t.board met.0 met.1 c.events e c.are (all_of s t c.events c.gone) is met.2;
  stop = stops s t u (c.events ++ e ∷ []) (length c.events) n e count (longer s t c.events e c.gone) (at_end c.events e) met records;
  ends = λ no. absurd cc;
}

pub ends_chosen : (s t : Stepping) (n : ℕ) → n + length s.past ≡ length t.past → Chosen s t → chosen t.board.build t.board.state ≡ None
    → PastIsTheRecords t → IsGo s t (stop_at n false)
ends_chosen s t n count c none records = record {
  events = c.events;
  are = c.are;
  stop = ends_all s t c.events (length c.events) n count refl c.gone records;
  ends = λ no.
      none;
}

-- ---- counts, and boards that are looked at

-- what was done since a depth
pub done_since : (s t u : Stepping) (e : Event) (hit : Bool) (i before now : ℕ) → length t.past ≡ length s.past + i → MeetsOn t e u hit → before
    ≡ length s.past → now ≡ length u.past
    → now - before + length s.past ≡ length u.past
done_since s t u e hit i before now depth met from to = omega (arith, depth, ap (λ (x : Stepping). length x.past) met.3, from, to)

pub since : (s t : Stepping) (i before now : ℕ) → length t.past ≡ length s.past + i → before ≡ length s.past → now ≡ length t.past
    → now - before + length s.past ≡ length t.past
since s t i before now depth from to = omega (arith, depth, from, to)

-- what is chosen on a stepper's board is chosen on an equal one's
pub chosen_as : (s t : Stepping) (e : Event) → Some e ≡ chosen s.board.build s.board.state → s ≡ t → chosen t.board.build t.board.state ≡ Some e
chosen_as s t e is same = ap (λ (z : Stepping). chosen z.board.build z.board.state) (sym same) ∙ sym is

-- where an event of a list is refused
pub refused_at : (s t : Stepping) (es : List Event) (i : ℕ) (e : Event) (f : StepperFault) → GoneTo s es t i → slice_get es i ≡ Some e
    → (stepper_memory f ≡ false → done_of t e ≡ Err f)
    → IsRefusedAt s es f
refused_at s t es i e f kept at refused = record {
  count = i;
  board = t.board;
  leads = kept.leads;
  unmet = kept.none;
  event = e;
  at = at;
  refused = λ no. refused_so (record s { board = t.board }) refl (refused no);
}
  where
    refused_so : (x : Stepping) → x.board ≡ t.board → done_of t e ≡ Err f → done_of x e ≡ Err f
    refused_so x same is = by_walk (walk_of x.board e) (walk_of t.board e) (ap (λ b. walk_of b e) same) is
      where
        by_walk : (o p : Result (BoardValue × short.Reply) WalkFault) → o ≡ p → done_by t p ≡ Err f → done_by x o ≡ Err f
        by_walk (Ok a) (Ok b) same is = absurd cc
        by_walk (Ok a) (Err b) same is = absurd cc
        by_walk (Err a) (Ok b) same is = absurd cc
        by_walk (Err a) (Err b) same is = let faults : a ≡ b = cc in ap (λ g. Err (fault.Board g)) faults ∙ is

-- with a chosen event fewer events are still to come
pub nearer : (s t : Stepping) (e : Event) (met : Bool) → MeetsOn s e t met → chosen s.board.build s.board.state ≡ Some e
    → still_to_come t.board.build t.board.state < still_to_come s.board.build s.board.state
nearer s t e met on is =
    let near = answered_nearer s.board on.0 e on.1 is (table s.board.build s.board.state e) refl on.2 in
    let same = ap (λ (x : Stepping). still_to_come x.board.build x.board.state) on.3 in
    omega (arith, near, same)
  where
    answered_nearer : (b n : BoardValue) (e : Event) (r : Reply) → chosen b.build b.state ≡ Some e → (o : Option (State × Reply)) → table b.build b.state e ≡ o
        → option_map {U = BoardValue × Reply} (λ a. (after_event b e a.0, a.1)) o ≡ Some (n, r)
        → still_to_come n.build n.state < still_to_come b.build b.state
    answered_nearer b n e r is None given leads = absurd cc
    answered_nearer b n e r is (Some a) given leads =
        let same : (let p : BoardValue × Reply = (after_event b e a.0, a.1) in p) ≡ (n, r) = inside leads in
        let near = chosen_comes_nearer b.build b.state e a is given in
        let come = ap (λ (p : BoardValue × Reply). still_to_come p.0.build p.0.state) same in
        omega (arith, near, come)
