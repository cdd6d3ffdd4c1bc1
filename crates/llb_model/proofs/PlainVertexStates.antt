-- Whatever events were granted: where no cache is at or before a vertex, its state is by its plain outcome.
use Rattle.std.proofs.Common.{◌≡◌, ℕ, suc, ◌+◌, true, List, [], length, Option, Some, None, inl, inr, refl, sym, ap, subst, ◌∙◌, arith}
use Rattle.std.specs.Prelude.{slice_get}
use Rattle.std.proofs.lemmas.List.{nil_from_length}
use Rattle.llb_loader.specs.Graph.{IsGraph}
use Rattle.llb_tree.specs.Tree.{TreeMap}
use Rattle.llb_events.specs.declared.fault.VertexFault.{VertexFault}
use Rattle.llb_model.specs.Caches.{trees_at}
use Rattle.llb_model.specs.Program.{Build, Program, Workspace, Work, Left, Start, program_of, program_at, start_with, begin, step_on, unless_faulted, go_on}
use Rattle.llb_model.specs.Program.{part}
use Rattle.llb_model.specs.Outcome.{Ending, Ended, ending, ending_in, outcome_on, outcome, is_plain}
use Rattle.llb_model.specs.State.{Status, Waiting, Running, Settled, Execution, Idle, Runs, State, Opening, opening, ending_of, ending_at}
use Rattle.llb_model.specs.State.{program_in, work_of, is_finished, ending_from, held, places_for, begin_at}
use Rattle.llb_events.specs.declared.event.Event.{Event}
use Rattle.llb_events.specs.declared.event.Event.TheVariants.{Claim, Step, Settle, Cancel}
use Rattle.llb_model.specs.Table.{Reply, execution_on, with_step, table}
use Rattle.llb_model.specs.Run.{run}
use Rattle.llb_model.specs.PlainVertices.{left_of, IsUnderWay, StandsByOutcomes}
use Rattle.llb_model.proofs.Lists.{some_of, inside, got_set, got_replicate}
use Rattle.llb_model.proofs.ProgramPrefixes.{is_over_at, finished_whole, IsNextStep, next_step_is, step_keeps}
use Rattle.llb_model.proofs.GrantedEvents.{Answer, IsReady, IsStep, IsSettle, claim_places, claim_is, step_is, settle_is, cancel_is}
use Rattle.llb_model.proofs.RunExtension.{run_keeps}
use Rattle.llb_model.proofs.Outcomes.{inputs_mono, plain, outcome_is, plain_needs, plain_inputs}

-- at first nothing runs and nothing has ended, so nothing is other than its plain outcome
pub opening_plain : (b : Build) (o : Opening) → StandsByOutcomes b (opening b o)
opening_plain b o = record {
  settled = λ v e is there. absurd (let h : Settled e ≡ Waiting = got_replicate (length b.graph.vertices) Waiting v (Settled e) there in cc);
  working = λ w x is there. absurd (let h : Runs x ≡ Idle = got_replicate o.workers Idle w (Runs x) there in cc);
}

-- what a status says of an ending
pub ending_settled : (o : Option Status) (e : Ending) → ending_of o ≡ Some e → o ≡ Some (Settled e)
ending_settled None e h = absurd cc
ending_settled (Some Waiting) e h = absurd cc
ending_settled (Some (Running w)) e h = absurd cc
ending_settled (Some (Settled x)) e h = ap (λ y. some_of (Settled y)) (inside h)

-- a work that holds no instances
bare_work : (s : State) (x : Execution) → x.places ≡ [] → work_of s x ≡ record { own = x.own; trees = [] }
bare_work s x bare = ap (λ ps. work_with x.own (trees_at s.store ps)) bare
  where
    work_with : Workspace → List TreeMap → Work
    work_with own trees = record { own = own; trees = trees }

module _ (b : Build) (graph : IsGraph b.graph) (s : State) (stands : StandsByOutcomes b s) where
  -- a vertex with no cache mount at or before it ends, if it has ended, as its plain outcome says
  pub ending_plain : (j : ℕ) (e : Ending) → is_plain b j ≡ true → ending_at s.statuses j ≡ Some e → plain b j ≡ Some e
  ending_plain j e is there = ap ending_in (stands.settled j e is (ending_settled (slice_get s.statuses j) e there))

  begun : (v : ℕ) (start : Start) → IsReady b s.statuses v start → is_plain b v ≡ true
      → IsUnderWay b (execution_on v (begin_at b s.store start (claim_places s start)) (claim_places s start))
  unfolding part
  begun v start ready is = record {
    vertex = start.vertex;
    trees = start.inputs;
    there = ready.there;
    inputs = inputs_mono (λ j. is_plain b j ≡ true) (ending_at s.statuses) (plain b) ending_plain start.vertex.inputs
        (plain_inputs b graph v start.vertex ready.there is) start.inputs ready.inputs;
    so_far = refl;
    bare = ap (places_for (held s.workers)) (plain_needs b graph v start.vertex ready.there is);
  }

  further : (w : ℕ) (a : Answer) (c : IsStep b s w a) → is_plain b c.x.vertex ≡ true
      → IsUnderWay b (with_step c.x (step_on c.x.done (Some c.step) (work_of s c.x)))
  unfolding part
  further w a c is = record {
    vertex = old.vertex;
    trees = old.trees;
    there = old.there;
    inputs = old.inputs;
    so_far =
        ap (part (program_of old.vertex).steps (begin b (start_with old.vertex old.trees) [])) (add_one c.x.done)
        ∙ ap (go_on (program_of old.vertex).steps c.x.done) old.so_far
        ∙ ap (λ (o : Option VertexFault). unless_faulted o (left_of c.x)
        (step_on c.x.done (slice_get (program_of old.vertex).steps c.x.done) (left_of c.x).work)) next.clean
        ∙ ap (λ (m : Work). step_on c.x.done (slice_get (program_of old.vertex).steps c.x.done) m) (sym (bare_work s c.x old.bare))
        ∙ ap (λ (p : Program). step_on c.x.done (slice_get p.steps c.x.done) (work_of s c.x)) (sym (ap program_at old.there))
        ∙ ap (λ m. step_on c.x.done m (work_of s c.x)) next.there
        ∙ ap (left_with left) (nil_from_length left.work.trees (step_keeps c.x.done (Some c.step) (work_of s c.x)
        ∙ ap (λ (m : Work). length m.trees) (bare_work s c.x old.bare)));
    bare = old.bare;
  }
    where
      old : IsUnderWay b c.x
      old = stands.working w c.x is c.there

      next : IsNextStep (program_in b c.x).steps c.x c.step
      next = next_step_is (program_in b c.x).steps c.x c.step c.next

      left : Left
      left = step_on c.x.done (Some c.step) (work_of s c.x)

      left_with : Left → List TreeMap → Left
      left_with left trees = record { work = record { own = left.work.own; trees = trees }; fault = left.fault }

      add_one : (n : ℕ) → n + 1 ≡ suc n
      add_one n = omega arith

  ends : (w : ℕ) (a : Answer) (c : IsSettle b s w a) → is_plain b c.x.vertex ≡ true → outcome b c.x.vertex ≡ Some (Ended (ending_from (program_in b c.x) c.x))
  ends w a c is =
      let program : program_in b c.x ≡ program_of old.vertex = ap program_at old.there in
      let start = begin b (start_with old.vertex old.trees) [] in
      let over : is_over_at (program_of old.vertex).steps (part (program_of old.vertex).steps start c.x.done) c.x.done ≡ true =
      ap (λ (l : Left). is_over_at (program_of old.vertex).steps l c.x.done) old.so_far
      ∙ ap (λ (p : Program). is_finished p.steps c.x) (sym program) ∙ c.finished in
      outcome_is b graph c.x.vertex old.vertex old.there ∙ ap (λ ts. some_of (outcome_on b old.vertex ts)) old.inputs
      ∙ ap (λ l. some_of (Ended (ending (program_of old.vertex) l))) (finished_whole (program_of old.vertex).steps start c.x.done over ∙ old.so_far)
      ∙ ap (λ (p : Program). some_of (Ended (ending_from p c.x))) (sym program)
    where
      old : IsUnderWay b c.x
      old = stands.working w c.x is c.there

pub event_plain : (b : Build) → IsGraph b.graph → (s : State) (e : Event) (a : Answer) → StandsByOutcomes b s → table b s e ≡ Some a → StandsByOutcomes b a.0
event_plain b graph s (Claim w v) a stands given =
    let c = claim_is b s w v a given in
    let z = execution_on v (begin_at b s.store c.start (claim_places s c.start)) (claim_places s c.start) in
    subst (λ (t : Answer). StandsByOutcomes b t.0) (sym c.gives) (record {
      settled = λ k e is there. elim (got_set s.statuses v (Running w) k (Settled e) there) [ inl h ↦ absurd (cc (h.1)) | inr h ↦ stands.settled k e is h.1 ];
      working = λ u x is there. elim (got_set s.workers w (Runs z) u (Runs x) there) [
        | inl h ↦
            let same : z ≡ x = cc (h.1) in
            subst (IsUnderWay b) same (begun b graph s stands v c.start c.begins (subst (λ (y : Execution). is_plain b y.vertex ≡ true) (sym same) is))
        | inr h ↦ stands.working u x is h.1
      ];
    })
event_plain b graph s (Step w) a stands given =
    let c = step_is b s w a given in
    let z = with_step c.x (step_on c.x.done (Some c.step) (work_of s c.x)) in
    subst (λ (t : Answer). StandsByOutcomes b t.0) (sym c.gives) (record {
      settled = stands.settled;
      working = λ u x is there. elim (got_set s.workers w (Runs z) u (Runs x) there) [
        | inl h ↦
            let same : z ≡ x = cc (h.1) in
            subst (IsUnderWay b) same (further b graph s stands w a c (subst (λ (y : Execution). is_plain b y.vertex ≡ true) (sym same) is))
        | inr h ↦ stands.working u x is h.1
      ];
    })
event_plain b graph s (Settle w) a stands given =
    let c = settle_is b s w a given in
    let end = ending_from (program_in b c.x) c.x in
    subst (λ (t : Answer). StandsByOutcomes b t.0) (sym c.gives) (record {
      settled = λ k e is there. elim (got_set s.statuses c.x.vertex (Settled end) k (Settled e) there) [
        | inl h ↦
            let same : end ≡ e = cc (h.1) in
            ap (outcome b) h.0 ∙ ends b graph s stands w a c (subst (λ n. is_plain b n ≡ true) h.0 is) ∙ ap (λ y. some_of (Ended y)) same
        | inr h ↦ stands.settled k e is h.1
      ];
      working = λ u x is there. elim (got_set s.workers w Idle u (Runs x) there) [ inl h ↦ absurd (cc (h.1)) | inr h ↦ stands.working u x is h.1 ];
    })
event_plain b graph s (Cancel w) a stands given =
    let c = cancel_is b s w a given in
    subst (λ (t : Answer). StandsByOutcomes b t.0) (sym c.gives) (record {
      settled = λ k e is there.
          elim (got_set s.statuses c.x.vertex Waiting k (Settled e) there) [ inl h ↦ absurd (cc (h.1)) | inr h ↦ stands.settled k e is h.1 ];
      working = λ u x is there. elim (got_set s.workers w Idle u (Runs x) there) [ inl h ↦ absurd (cc (h.1)) | inr h ↦ stands.working u x is h.1 ];
    })

-- what is by the plain outcomes still is after any list of granted events
pub run_plain : (b : Build) → IsGraph b.graph → (s t : State) (es : List Event) (rs : List Reply) → StandsByOutcomes b s
    → run b s es ≡ Some (t, rs) → StandsByOutcomes b t
run_plain b graph = run_keeps b (StandsByOutcomes b) (event_plain b graph)
