-- How long a run can go on without cancels, and that it ends in a complete state.
use Rattle.std.proofs.Common.{◌≡◌, ◌≢◌, ℕ, zero, suc, ◌+◌, ◌<◌, ◌≤◌, Bool, true, false, List, [], ◌∷◌, length, Option, Some, None, is_some, inl, inr}
use Rattle.std.proofs.Common.{refl, sym, ap, subst, ◌∙◌, arith}
use Rattle.std.specs.Prelude.{slice_get, slice_set, sum_by}
use Rattle.std.proofs.lemmas.List.Sums.{sum_by-cons}
use Rattle.llb_loader.specs.Graph.{IsGraph}
use Rattle.llb_loader.specs.declared.graph.Vertex.{Vertex}
use Rattle.llb_events.specs.declared.event.Event.{Event}
use Rattle.llb_events.specs.declared.event.Event.TheVariants.{Claim, Step, Settle, Cancel}
use Rattle.llb_model.specs.Program.{Build, program_at}
use Rattle.llb_model.specs.Outcome.{Outcome, outcome}
use Rattle.llb_model.specs.State.{Status, Waiting, Running, Settled, Execution, WorkerStatus, Idle, Runs, State, program_in}
use Rattle.llb_model.specs.Table.{Reply, table}
use Rattle.llb_model.specs.Run.{run, chosen, is_complete, StandsPlainly}
use Rattle.llb_model.specs.EventBounds.{events_of, to_come, all_to_come, all_left, still_to_come}
use Rattle.llb_model.specs.ConsistentStates.{IsConsistent}
use Rattle.llb_model.specs.WholeRunLaws.{HasNoCaches}
use Rattle.llb_model.proofs.Lists.{get_within, got_within, get_set_other, length_set}
use Rattle.llb_model.proofs.GrantedEvents.{Answer, workers_stay}
use Rattle.llb_model.proofs.RunExtension.{run_none, run_first, run_keeps}
use Rattle.llb_model.proofs.RemainingEvents.{come_set, event_room}
use Rattle.llb_model.proofs.ConsistencyPreservation.{event_consistent, run_consistent}
use Rattle.llb_model.proofs.RunCompletion.{none_is_complete}
use Rattle.llb_model.proofs.ChosenEventRuns.{chosen_goes_on, chosen_granted}
use Rattle.llb_progress.specs.Progress.{is_cancel, GoOnly, all_events, EachComesNearer, HasFewToCome, CanGoOn, EndsWithin, LongestAreComplete, EndAsOne}
use Rattle.llb_progress.proofs.Lists.{same_below}

-- ---- nearer

no_cancel : (e : Event) → is_cancel e ≡ false → (w : ℕ) → e ≢ Cancel w
no_cancel e is w same = let h : is_cancel e ≡ true = ap is_cancel same in cc

pub cancel_none : (e : Event) → ((w : ℕ) → e ≢ Cancel w) → is_cancel e ≡ false
cancel_none (Claim w v) none = refl
cancel_none (Step w) none = refl
cancel_none (Settle w) none = refl
cancel_none (Cancel w) none = absurd (none w refl)

pub comes_nearer : (b : Build) (s : State) → EachComesNearer b s
comes_nearer b s e t r goes given = event_room b s e (t, r) (no_cancel e goes) given

few : (b : Build) (s t : State) (es : List Event) (rs : List Reply) → GoOnly es → run b s es ≡ Some (t, rs) → still_to_come b t + length es ≤ still_to_come b s
few b s t [] rs goes leads =
    let same : still_to_come b s ≡ still_to_come b t = ap (still_to_come b) (run_none b s t rs leads).0 in
    omega (arith, same)
few b s t (e ∷ es) rs goes leads =
    let r = run_first b s e es t rs leads in
    omega (arith, event_room b s e r.a (no_cancel e goes.0) r.given, few b r.a.0 t es r.rest goes.1 r.goes_on)

-- ---- at most the events of all vertices

to_come_few : (y : Vertex) (r : Status) → to_come y r ≤ events_of y
to_come_few y Waiting = omega arith
to_come_few y (Running w) = omega arith
to_come_few y (Settled e) = omega arith

come_few : (vs : List Vertex) (ss : List Status) → all_to_come vs ss ≤ sum_by events_of vs
come_few [] ss = omega arith
come_few (y ∷ vs) [] = omega arith
come_few (y ∷ vs) (r ∷ ss) = omega (arith, to_come_few y r, come_few vs ss, sum_by-cons events_of y vs)

-- each running worker, numbered from `off`, runs a vertex whose status says so
abbrev AreAt : List Status → ℕ → List WorkerStatus → Type 0
AreAt ss off ws = (w : ℕ) (x : Execution) → slice_get ws w ≡ Some (Runs x) → slice_get ss x.vertex ≡ Some (Running (off + w))

running_number : (u w : ℕ) → ◌≡◌ {A = Option Status} (Some (Running u)) (Some (Running w)) → u ≡ w
running_number u w e = cc

left_few : (b : Build) (ws : List WorkerStatus) (off : ℕ) (ss : List Status) → length ss ≡ length b.graph.vertices → AreAt ss off ws
    → all_to_come b.graph.vertices ss + all_left b ws ≤ all_events b
left_few b [] off ss count at = omega (arith, come_few b.graph.vertices ss)
left_few b (Idle ∷ ws) off ss count at =
    let next : (w : ℕ) → off + suc w ≡ off + 1 + w = λ w. omega arith in
    let rest = left_few b ws (off + 1) ss count (λ w x there. at (suc w) x there ∙ ap (λ n. Some (Running n)) (next w)) in
    omega (arith, rest)
left_few b (Runs x ∷ ws) off ss count at =
    let own : slice_get ss x.vertex ≡ Some (Running (off + 0)) = at 0 x refl in
    let y = get_within b.graph.vertices x.vertex (omega (arith, got_within ss x.vertex (Running (off + 0)) own, count)) in
    let after = slice_set ss x.vertex Waiting in
    let more = come_set b.graph.vertices ss x.vertex y.0 (Running (off + 0)) Waiting y.1 own in
    let steps : length (program_in b x).steps ≡ length (program_at (Some y.0)).steps = ap (λ o. length (program_at o).steps) y.1 in
    let next : (w : ℕ) → off + suc w ≡ off + 1 + w = λ w. omega arith in
    let apart : (w : ℕ) (z : Execution) → slice_get ws w ≡ Some (Runs z) → z.vertex ≢ x.vertex =
    λ w z there same. let e = running_number (off + suc w) (off + 0) (sym (at (suc w) z there) ∙ ap (slice_get ss) same ∙ own) in omega (arith, e) in
    let rest = left_few b ws (off + 1) after (length_set ss x.vertex Waiting ∙ count)
    (λ w z there. get_set_other ss x.vertex Waiting z.vertex (apart w z there) ∙ at (suc w) z there ∙ ap (λ n. Some (Running n)) (next w)) in
    omega (arith, more, steps, rest)

pub few_to_come : (b : Build) (s : State) → IsConsistent b s → HasFewToCome b s
few_to_come b s here = record {
  most = left_few b s.workers 0 s.statuses here.count (λ w x there. here.working w x there ∙ ap (λ n. Some (Running n)) (omega arith));
  few = λ es t rs goes leads. few b s t es rs goes leads;
}

-- ---- the end

module _ (b : Build) (graph : IsGraph b.graph) where
  -- until a state is complete, the chosen event is granted, and is no cancel
  goes_on : (s : State) → IsConsistent b s → 0 < length s.workers → is_complete b s ≡ false → CanGoOn b s
  goes_on s here some open_ = by_choice (chosen b s) refl
    where
      by_choice : (o : Option Event) → chosen b s ≡ o → CanGoOn b s
      by_choice None is = absurd (let h = none_is_complete b graph s here is in cc)
      by_choice (Some e) is =
          let first = get_within s.workers 0 some in
          record {
            event = e;
            goes = cancel_none e (chosen_goes_on b s e is);
            granted = ap is_some (chosen_granted b s e first.0 first.1 is).given;
          }

  answer : (s : State) (g : CanGoOn b s) → (a : Answer) × (table b s g.event ≡ Some a)
  answer s g = by_answer (table b s g.event) refl g.granted
    where
      by_answer : (o : Option Answer) → table b s g.event ≡ o → is_some o ≡ true → (a : Answer) × (table b s g.event ≡ Some a)
      by_answer None is e = absurd cc
      by_answer (Some a) is e = (a, is)

  pub ends_within : (n : ℕ) (s : State) → IsConsistent b s → 0 < length s.workers → still_to_come b s ≤ n → EndsWithin b n s
  ends_within zero s here some low = by_test (is_complete b s) refl
    where
      by_test : (t : Bool) → is_complete b s ≡ t → is_complete b s ≡ true
      by_test true is = is
      by_test false is =
          let g = goes_on s here some is in
          let a = answer s g in
          absurd (let nearer = event_room b s g.event a.0 (no_cancel g.event g.goes) a.1 in omega (arith, nearer, low))
  ends_within (suc n) s here some low =
      by_test (is_complete b s) refl
      (λ e t r goes given. ends_within n t (event_consistent b s e (t, r) here given) (omega (arith, some, workers_stay b s e (t, r) given))
      (omega (arith, low, event_room b s e (t, r) (no_cancel e goes) given)))
    where
      by_test : (t : Bool) → is_complete b s ≡ t
          → ((e : Event) (t : State) (r : Reply) → is_cancel e ≡ false → table b s e ≡ Some (t, r) → EndsWithin b n t) → EndsWithin b (suc n) s
      by_test true is rest = inl is
      by_test false is rest = inr (goes_on s here some is, rest)

  pub longest_are_complete : (s : State) → IsConsistent b s → 0 < length s.workers → LongestAreComplete b s
  longest_are_complete s here some es t rs leads stuck = by_test (is_complete b t) refl
    where
      there : IsConsistent b t
      there = run_consistent b s t es rs here leads

      stays : 0 < length t.workers
      stays =
          run_keeps b (λ u. 0 < length u.workers) (λ u e a h given. omega (arith, h, workers_stay b u e a given)) s t es rs some leads

      by_test : (x : Bool) → is_complete b t ≡ x → is_complete b t ≡ true
      by_test true is = is
      by_test false is =
          let g = goes_on t there stays is in
          let a = answer t g in
          absurd (let h = stuck g.event g.goes in cc)

-- ---- one end

stand_as_one : (x y : Option Status) (o : Option Outcome) → StandsPlainly x o → StandsPlainly y o → x ≡ y
stand_as_one None y o h k = absurd h
stand_as_one (Some (Running w)) y o h k = absurd h
stand_as_one x None o h k = absurd k
stand_as_one x (Some (Running w)) o h k = absurd k
stand_as_one (Some Waiting) (Some Waiting) o h k = refl
stand_as_one (Some Waiting) (Some (Settled e)) o h k = absurd cc
stand_as_one (Some (Settled e)) (Some Waiting) o h k = absurd cc
stand_as_one (Some (Settled e)) (Some (Settled f)) o h k = cc

abbrev StandAll : Build → State → Type 0
StandAll b s = HasNoCaches b → is_complete b s ≡ true → (v : ℕ) → v < length b.graph.vertices → StandsPlainly (slice_get s.statuses v) (outcome b v)

pub end_as_one : (b c : Build) (s t : State) → IsConsistent b s → IsConsistent c t → StandAll b s → StandAll c t → EndAsOne b s c t
end_as_one b c s t here there mine theirs same bare done ended =
    let count : length b.graph.vertices ≡ length c.graph.vertices = ap (λ (m : Build). length m.graph.vertices) same in
    same_below s.statuses t.statuses (here.count ∙ count ∙ sym there.count)
    (λ k lt. stand_as_one (slice_get s.statuses k) (slice_get t.statuses k) (outcome b k) (mine bare done k (omega (arith, lt, here.count)))
    (subst (λ o. StandsPlainly (slice_get t.statuses k) o) (sym (ap (λ m. outcome m k) same))
    (theirs (subst HasNoCaches same bare) ended k (omega (arith, lt, here.count, count)))))
