-- How a driver's run ends: in one way only, and with a vertex that failed where the result is no tree.
use Rattle.std.proofs.Common.{◌≡◌, ℕ, zero, suc, ◌<◌, true, false, List, [], ◌∷◌, length, Option, Some, None, is_some, inl, inr, refl, sym}
use Rattle.std.proofs.Common.{ap, subst, ◌∙◌, arith}
use Rattle.std.specs.Prelude.{slice_get}
use Rattle.llb_loader.specs.declared.graph.Edge.{Edge}
use Rattle.llb_loader.specs.Graph.{Numbered, LeadsBelow, IsGraph}
use Rattle.llb_loader.specs.LocalSources.{Local}
use Rattle.llb_events.specs.declared.fault.VertexFault.{VertexFault}
use Rattle.llb_tree.specs.Tree.{TreeMap}
use Rattle.llb_model.specs.Caches.{no_instances}
use Rattle.llb_model.specs.TwoCacheModels.{store_of}
use Rattle.llb_model.specs.Program.{Build}
use Rattle.llb_model.specs.Outcome.{Done, Failed, Outcome, ending_in, outcome, output_in}
use Rattle.llb_model.specs.State.{Status, Waiting, Running, Settled, State, Opening, opening, ending_of, ending_at, is_done, is_stopped}
use Rattle.llb_events.specs.declared.event.Event.{Event}
use Rattle.llb_model.specs.Table.{Reply, table}
use Rattle.llb_model.specs.Run.{run, chosen, is_complete, StandsPlainly}
use Rattle.llb_model.specs.ConsistentStates.{IsConsistent}
use Rattle.llb_model.specs.WholeRunLaws.{HasNoCaches, AreChosen}
use Rattle.llb_model.proofs.Lists.{inside, get_within, any_true, some_with}
use Rattle.llb_model.proofs.GrantedEvents.{Answer}
use Rattle.llb_model.proofs.RunExtension.{run_none, run_first}
use Rattle.llb_model.proofs.Outcomes.{each_below, edge_there}
use Rattle.llb_model.proofs.ConsistencyPreservation.{opening_consistent, run_consistent}
use Rattle.llb_model.proofs.StoppedVertices.{stopped_there, stopped_cases, done_count, failed_is}
use Rattle.llb_model.proofs.RunCompletion.{is_over, over_by, each_true, complete_is_none}
use Rattle.llb_board.specs.BoardValue.{BoardValue, opened}
use Rattle.llb_commands.proofs.AllDoneIfResultTree.{none_fails}
use Rattle.llb_work.specs.SingleThreadDriver.{Goes, EndsInClaimOrder}
use Rattle.llb_work.specs.LockSharingWorkers.{GoesOn}
use Rattle.llb_commands.specs.ProgramOutput.{build_of, run_opening, plain_result, FailsBy}
use Rattle.llb_commands.specs.Running.{IsFinished}

-- ---- in one way only

-- two runs by chosen events, each until none is left, end in one state
one_way : (b : Build) (o s t : State) (es fs : List Event) (rs qs : List Reply) → run b o es ≡ Some (s, rs) → run b o fs ≡ Some (t, qs)
    → AreChosen b o es → AreChosen b o fs
    → chosen b s ≡ None → chosen b t ≡ None → s ≡ t
one_way b o s t [] [] rs qs first second all every left over = sym (run_none b o s rs first).0 ∙ (run_none b o t qs second).0
one_way b o s t [] (f ∷ fs) rs qs first second all every left over =
    let none : chosen b o ≡ None = ap (chosen b) (run_none b o s rs first).0 ∙ left in absurd (cc (none, every.0))
one_way b o s t (e ∷ es) [] rs qs first second all every left over =
    let none : chosen b o ≡ None = ap (chosen b) (run_none b o t qs second).0 ∙ over in absurd (cc (none, all.0))
one_way b o s t (e ∷ es) (f ∷ fs) rs qs first second all every left over =
    let same : e ≡ f = inside (sym all.0 ∙ every.0) in
    let x = run_first b o e es s rs first in
    let y = run_first b o f fs t qs second in
    let answer : x.a ≡ y.a = inside (sym x.given ∙ ap (table b o) same ∙ y.given) in
    let state : x.a.0 ≡ y.a.0 = ap (λ (a : Answer). a.0) answer in
    one_way b y.a.0 s t es fs x.rest y.rest (ap (λ (u : State). run b u es) (sym state) ∙ x.goes_on) y.goes_on
    (subst (λ (u : State). AreChosen b u es) state (all.1 x.a x.given)) (every.1 y.a y.given) left over

module _ (b : Build) (graph : IsGraph b.graph) where
  ended_consistent : (o : Opening) (es : List Event) (s : State) → EndsInClaimOrder b o es s → IsConsistent b s
  ended_consistent o es s ends = run_consistent b (opening b o) s es ends.replies (opening_consistent b o) ends.leads

  one_end : (o : Opening) (es fs : List Event) (s t : State) → EndsInClaimOrder b o es s → EndsInClaimOrder b o fs t → s ≡ t
  one_end o es fs s t x y =
      one_way b (opening b o) s t es fs x.replies y.replies x.leads y.leads x.chosen y.chosen
      (complete_is_none b graph s (ended_consistent o es s x) x.complete)
      (complete_is_none b graph t (ended_consistent o fs t y) y.complete)

-- no lists of instances are no instances
no_rows : store_of [] ≡ no_instances
unfolding store_of
no_rows = refl

abbrev IsPlain : Build → State → Type 0
IsPlain b s = HasNoCaches b → (v : ℕ) → v < length b.graph.vertices → StandsPlainly (slice_get s.statuses v) (outcome b v)

module _ (ls : List Local) (g : Numbered) (workers : ℕ) (old new : BoardValue) (fresh : old ≡ opened (build_of ls g) workers []) where
  fresh_build : new.build ≡ old.build → new.build ≡ build_of ls g
  fresh_build same = same ∙ ap (λ (x : BoardValue). x.build) fresh

  fresh_start : new.opening ≡ old.opening → new.opening ≡ run_opening workers
  fresh_start same = same ∙ ap (λ (x : BoardValue). x.opening) fresh ∙ ap (λ store. record { workers = workers; store = store }) no_rows

  fresh_state : old.state ≡ opening (build_of ls g) (run_opening workers)
  fresh_state = ap (λ (x : BoardValue). x.state) fresh ∙ ap (λ store. opening (build_of ls g) (record { workers = workers; store = store })) no_rows

-- where a run of a board that was just opened has ended
pub finishes : (ls : List Local) (g : Numbered) (old new : BoardValue) → IsGraph old.build.graph → old ≡ opened (build_of ls g) 1 [] → Goes old new
    → (old.events ≡ [] → EndsInClaimOrder new.build new.opening new.events new.state) → IsPlain new.build new.state → IsConsistent new.build new.state
    → IsFinished 1 ls g new
finishes ls g old new over fresh goes ends plain here =
    let same : old.build.graph ≡ g = ap (λ (x : BoardValue). x.build.graph) fresh in
    let graph : IsGraph g = subst IsGraph same over in
    let build = fresh_build ls g 1 old new fresh goes.build in
    let start = fresh_start ls g 1 old new fresh goes.opening in
    let ended = subst (λ x. EndsInClaimOrder x (run_opening 1) new.events new.state) build (subst
    (λ o. EndsInClaimOrder new.build o new.events new.state) start (ends (ap (λ (x : BoardValue). x.events) fresh))) in
    record {
      build = build;
      ended = record {
        events = new.events;
        replies = ended.replies;
        leads = ended.leads;
        complete = ended.complete;
        plain = subst (λ (x : Build). IsPlain x new.state) build plain;
        alone = λ _. record { ends = ended; only = λ es t other. one_end (build_of ls g) graph (run_opening 1) es new.events t new.state other ended };
      };
      here = subst (λ (x : Build). IsConsistent x new.state) build here;
    }

-- a run by several workers has finished where it has gone on to a board on which every vertex is over
pub finishes_by : (ls : List Local) (g : Numbered) (workers : ℕ) (old new : BoardValue) → (workers ≡ 1 → ⊥) → old ≡ opened (build_of ls g) workers []
    → GoesOn old new
    → is_complete new.build new.state ≡ true → IsPlain new.build new.state → IsConsistent new.build new.state → IsFinished workers ls g new
finishes_by ls g workers old new several fresh goes complete plain here =
    let build = fresh_build ls g workers old new fresh goes.build in
    record {
      build = build;
      ended = record {
        events = goes.more;
        replies = goes.replies;
        leads = subst (λ (s : State). run (build_of ls g) s goes.more ≡ Some (new.state, goes.replies)) (fresh_state ls g workers old new fresh)
            (subst (λ (x : Build). run x old.state goes.more ≡ Some (new.state, goes.replies)) (ap (λ (x : BoardValue). x.build) fresh) goes.leads);
        complete = subst (λ (x : Build). is_complete x new.state ≡ true) build complete;
        plain = subst (λ (x : Build). IsPlain x new.state) build plain;
        alone = λ one. absurd (several one);
      };
      here = subst (λ (x : Build). IsConsistent x new.state) build here;
    }

-- ---- where the result is no tree

-- what is stopped has failed, or a vertex before it has
stopped_fails : (b : Build) → IsGraph b.graph → (s : State) (n k : ℕ) → k < n → is_stopped b s.statuses k ≡ true → FailsBy s k
stopped_fails b graph s zero k lt stop = absurd (omega arith)
stopped_fails b graph s (suc n) k lt stop =
    let v = get_within b.graph.vertices k (stopped_there b s.statuses k stop) in
    elim (stopped_cases b graph s.statuses k v.0 v.1 stop) [
      | inl h ↦ let f = failed_is (ending_at s.statuses k) h in record { vertex = k; before = omega arith; fault = f.0; failed = f.1 }
      | inr h ↦
          some_with (λ (e : Edge). is_stopped b s.statuses e.vertex ≡ true) (LeadsBelow b.graph.vertices k) (FailsBy s k) v.0.inputs
          (any_true (λ (e : Edge). is_stopped b s.statuses e.vertex) v.0.inputs h) (each_below b.graph graph k v.0 v.1) (λ e stops leads.
          let f = stopped_fails b graph s n e.vertex (omega (arith, leads.lower)) stops in
          record { vertex = f.vertex; before = omega (arith, f.before, leads.lower); fault = f.fault; failed = f.failed })
    ]

module _ (b : Build) (graph : IsGraph b.graph) (s : State) (here : IsConsistent b s) (complete : is_complete b s ≡ true) where
  -- on a complete board what is not done has failed, or is after a vertex that has
  undone_fails : (k : ℕ) → k < length b.graph.vertices → is_done (ending_at s.statuses k) ≡ false → FailsBy s k
  undone_fails k lt undone = by_status (slice_get s.statuses k) refl
    where
      over : is_over b s k ≡ true
      over = each_true (is_over b s) 0 (length b.graph.vertices) complete k (omega arith) (omega arith)

      by_status : (o : Option Status) → slice_get s.statuses k ≡ o → FailsBy s k
      by_status None is = absurd (cc (over_by b graph s here k None is, over))
      by_status (Some Waiting) is = stopped_fails b graph s (suc k) k (omega arith) (sym (over_by b graph s here k (Some Waiting) is) ∙ over)
      by_status (Some (Running w)) is = absurd (cc (over_by b graph s here k (Some (Running w)) is, over))
      by_status (Some (Settled (Failed f))) is = record { vertex = k; before = omega arith; fault = f; failed = ap ending_of is }
      by_status (Some (Settled (Done trees))) is = let done : is_done (ending_at s.statuses k) ≡ true =
          ap (λ o. is_done (ending_of o)) is in absurd (cc (done, undone))

  -- if the result is no tree, the run fails at a vertex
  no_result_fails : output_in (ending_at s.statuses b.graph.result.vertex) b.graph.result.index ≡ None → FailsBy s b.graph.result.vertex
  no_result_fails none =
      undone_fails b.graph.result.vertex graph.result.lower
      (sym (edge_there b.graph (ending_at s.statuses) (done_count b graph s here) (length b.graph.vertices)
      (omega arith) b.graph.result graph.result) ∙ ap is_some none)

-- on a complete board whose result is no tree, the result's vertex or one before it has failed
pub result_fails : (b : Build) → IsGraph b.graph → (s : State) → IsConsistent b s → is_complete b s ≡ true
    → output_in (ending_at s.statuses b.graph.result.vertex) b.graph.result.index ≡ None → FailsBy s b.graph.result.vertex
result_fails b graph s here complete none = no_result_fails b graph s here complete none

-- if the result is a tree, no vertex has failed
pub tree_fails_none : (b : Build) → IsGraph b.graph → (s : State) → IsConsistent b s → (t : TreeMap)
    → output_in (ending_at s.statuses b.graph.result.vertex) b.graph.result.index ≡ Some t → (v : ℕ) (f : VertexFault) → ending_at s.statuses v ≡ Some
    (Failed f) → ⊥
tree_fails_none b graph s here = none_fails b s here graph

-- an output of a vertex in a complete run is that of its plain outcome
stands_plainly : (o : Option Status) (p : Option Outcome) (i : ℕ) (t : TreeMap) → StandsPlainly o p → output_in (ending_of o) i ≡ Some t
    → output_in (ending_in p) i ≡ Some t
stands_plainly (Some (Settled e)) p i t stands is = ap (λ q. output_in (ending_in q) i) stands ∙ is
stands_plainly (Some Waiting) p i t stands is = absurd cc
stands_plainly (Some (Running w)) p i t stands is = absurd stands
stands_plainly None p i t stands is = absurd stands

-- if the result is a tree and there are no caches, it is the result of the plain outcomes
pub plain_tree : (b : Build) → IsGraph b.graph → (s : State) → IsPlain b s → (t : TreeMap)
    → output_in (ending_at s.statuses b.graph.result.vertex) b.graph.result.index ≡ Some t → HasNoCaches b → plain_result b ≡ Some t
plain_tree b graph s plain t is none =
    stands_plainly (slice_get s.statuses b.graph.result.vertex) (outcome b b.graph.result.vertex) b.graph.result.index t
    (plain none b.graph.result.vertex graph.result.lower) is
