-- What a worker that has done no micro-step has to do, at a vertex with no cache mount at or before it.
use Rattle.std.proofs.Common.{◌≡◌, ℕ, true, List, [], map, None, sym, ap, ◌∙◌}
use Rattle.std.specs.List.{list_any}
use Rattle.std.specs.Prelude.{option_map}
use Rattle.llb_model.specs.Caches.{Instance, trees_at}
use Rattle.llb_loader.specs.Graph.{IsGraph}
use Rattle.llb_model.specs.Program.{Build, Program, Workspace, Left, Start, Need, needs_of, program_of, program_at, start_with, begin, part}
use Rattle.llb_model.specs.Outcome.{is_plain}
use Rattle.llb_model.specs.State.{Execution, State, program_in, ending_at, held, places_for, first_trees}
use Rattle.llb_model.specs.Table.{Job, Reply, Claimed, job_on}
use Rattle.llb_model.specs.PlainVertices.{left_of, IsUnderWay, StandsByOutcomes}
use Rattle.llb_model.proofs.Lists.{some_of, inside}
use Rattle.llb_model.proofs.GrantedEvents.{claim_places, claim_is}
use Rattle.llb_model.proofs.Outcomes as outcomes
use Rattle.llb_model.proofs.Outcomes.{inputs_mono, plain_needs, plain_inputs}
use Rattle.llb_model.proofs.PlainVertexStates.{ending_plain}
use Rattle.llb_execution.specs.ModelValues.{work_with}
use Rattle.llb_board.specs.BoardValue.{BoardValue}
use Rattle.llb_board.specs.Jobs.{is_shared}
use Rattle.llb_board.specs.PlainVertexJobs.{plain_start, job_from, IsBegunPlainly, BegunArePlain, ClaimsArePlain, KnownLand}

module _ (b : BoardValue) (w : ℕ) (x : Execution) (under : IsUnderWay b.build x) (first : x.done ≡ 0) where
  at_first : record { work = begin b.build (start_with under.vertex under.trees) []; fault = None } ≡ left_of x
  unfolding part
  at_first = ap (part (program_of under.vertex).steps (begin b.build (start_with under.vertex under.trees) [])) (sym first) ∙ under.so_far

  abbrev job_with : Program → ℕ → Workspace → List Instance → Job
  job_with p done view ps = record {
    worker = w;
    vertex = x.vertex;
    program = p;
    done = done;
    work = work_with view (trees_at b.state.store ps);
    instances = map (λ (p : Instance). p.number) ps;
  }

  by_job : (p q : Program) (d e : ℕ) (v u : Workspace) (ps qs : List Instance) → p ≡ q → d ≡ e → v ≡ u → ps ≡ qs → job_with p d v ps ≡ job_with q e u qs
  by_job p q d e v u ps qs one two three four = ap (λ y. job_with y d v ps) one ∙ ap (λ y. job_with q y v ps) two ∙ ap (λ y. job_with q e y ps) three
      ∙ ap (job_with q e u) four

  begun_plainly : IsBegunPlainly b w x
  begun_plainly = record {
    clean = sym (ap (λ (l : Left). l.fault) at_first);
    bare = under.bare;
    job =
        ap (λ o. option_map (job_from b.build w x.vertex) (plain_start b.build o)) under.there
        ∙ ap (λ o. option_map (job_from b.build w x.vertex) (option_map (start_with under.vertex) o)) under.inputs
        ∙ ap (λ j. some_of j) (by_job (program_of under.vertex) (program_in b.build x) 0 x.done
        (begin b.build (start_with under.vertex under.trees) []).own x.own [] x.places
        (sym (ap program_at under.there)) (sym first) (ap (λ (l : Left). l.work.own) at_first) (sym under.bare));
  }

pub begun_are_plain : (b : BoardValue) → StandsByOutcomes b.build b.state → BegunArePlain b
begun_are_plain b stands w x is there first = begun_plainly b w x (stands.working w x is there) first

pub known_land : (b : BoardValue) → StandsByOutcomes b.build b.state → KnownLand b
known_land b stands w job known =
    let begun = begun_are_plain b stands w known.x known.plain known.runs known.first in
    record {
      x = known.x;
      runs = known.runs;
      alone = ap (list_any (λ (p : Instance). is_shared p.key.mode)) begun.bare;
      own = record { clean = begun.clean; same = inside (sym known.same ∙ begun.job) };
    }

-- the job that a claim hands out
abbrev job_in : Job → Reply → Job
job_in other (Claimed job) = job
job_in other r = other

abbrev job_at : Build → State → ℕ → ℕ → Start → List Instance → List Need → Job
job_at b s w v start ps needs = job_on w v start.vertex (begin b start (first_trees s.store start.inputs ps needs)) ps

pub claims_are_plain : (b : BoardValue) → IsGraph b.build.graph → StandsByOutcomes b.build b.state → ClaimsArePlain b
unfolding job_in
claims_are_plain b graph stands w v t job is given =
    let c = claim_is b.build b.state w v (t, Claimed job) given in
    let start = c.start in
    let none = plain_needs b.build graph v start.vertex c.begins.there is in
    let bare : claim_places b.state start ≡ [] = ap (places_for (held b.state.workers)) none in
    let inputs = inputs_mono (λ j. is_plain b.build j ≡ true) (ending_at b.state.statuses) (outcomes.plain b.build)
    (ending_plain b.build graph b.state stands) start.vertex.inputs (plain_inputs b.build graph v start.vertex c.begins.there is)
    start.inputs c.begins.inputs in
    ap (λ o. option_map (job_from b.build w v) (plain_start b.build o)) c.begins.there
    ∙ ap (λ o. option_map (job_from b.build w v) (option_map (start_with start.vertex) o)) inputs
    ∙ ap (λ j. some_of j) (sym (
    ap (λ (a : State × Reply). job_in job a.1) c.gives
    ∙ ap (λ ps. job_at b.build b.state w v start ps (needs_of start.vertex)) bare
    ∙ ap (job_at b.build b.state w v start []) none
    ))
