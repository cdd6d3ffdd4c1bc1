-- What a claim, a step, a settle and a cancel do to the worker of the event and to the caches; or, as a fault, the first cause why the event is refused.
use Rattle.std.specs.Prelude.{ℕ, List, Option, Some, None, Result, Ok, Err, if◌then◌else◌}
use Rattle.llb_loader.specs.declared.graph.Vertex.{Vertex}
use Rattle.llb_tree.specs.Tree.{TreeMap}
use Rattle.llb_cache.specs.declared.lease_needs.Need as cache_need
use Rattle.llb_cache.specs.Caches.{CachesValue, Row}
use Rattle.llb_model.specs.Caches.{Instance, trees_at}
use Rattle.llb_model.specs.TwoCacheModels.{store_of, asked, put_each, places_taken}
use Rattle.llb_model.specs.Program.{Build, MicroStep, Left, needs_of, start_with, step_on}
use Rattle.llb_model.specs.State.{Status, Settled, WorkerStatus, Idle, Runs, Execution, program_in, is_finished, next_step, ending_from, begin_at}
use Rattle.llb_model.specs.Table.{Reply, Claimed, execution_on, job_on}
use Rattle.llb_model.specs.Table.{with_step, step_reply}
use Rattle.llb_execution.specs.ModelValues.{work_with}
use Rattle.llb_events.specs.declared.refusal.ClaimFault.{ClaimFault}
use Rattle.llb_events.specs.declared.refusal.ClaimFault.TheVariants as claim
use Rattle.llb_events.specs.declared.refusal.StepFault.{StepFault}
use Rattle.llb_events.specs.declared.refusal.StepFault.TheVariants as step
use Rattle.llb_events.specs.declared.refusal.SettleFault.{SettleFault}
use Rattle.llb_events.specs.declared.refusal.SettleFault.TheVariants as settle
use Rattle.llb_events.specs.declared.refusal.CancelFault.{CancelFault}
use Rattle.llb_events.specs.declared.refusal.CancelFault.TheVariants as cancel

-- ---- the result of a claim

-- what a claim begins: the worker's execution, the reply, and the needs for which instances are to be leased
pub record Begun : Type 0 where
  pub execution : Execution
  pub reply : Reply
  pub needs : List cache_need.Need

-- the result of a claim, given the trees of the inputs and the instances that the claim takes
abbrev pub begun_at : Build → CachesValue → ℕ → ℕ → Vertex → List TreeMap → List Instance → Begun
begun_at b c w v vertex trees ps = record {
  execution = execution_on v (begin_at b (store_of c.rows) (start_with vertex trees) ps) ps;
  reply = Claimed (job_on w v vertex (begin_at b (store_of c.rows) (start_with vertex trees) ps) ps);
  needs = asked trees (needs_of vertex);
}

-- the result of a claim or, if the tree of an input is missing, the refusal `NotReady`
abbrev pub begun : Build → CachesValue → ℕ → ℕ → Vertex → Option (List TreeMap) → Result Begun ClaimFault
begun b c w v vertex (Some trees) = Ok (begun_at b c w v vertex trees (places_taken c.out (needs_of vertex)))
begun b c w v vertex None = Err claim.NotReady

-- ---- the result of a step

-- the result of a micro-step: the execution, the trees of its instances, and the reply
pub record Worked : Type 0 where
  pub execution : Execution
  pub trees : List TreeMap
  pub reply : Reply

-- the result of micro-step m, given the work and the fault after m (`left`)
abbrev pub worked_to : Execution → MicroStep → Left → Worked
worked_to x m left = record { execution = with_step x left; trees = left.work.trees; reply = step_reply x.done m x.own left }

-- the result of a micro-step on these trees of the instances or, if no micro-step is left, the refusal `NothingLeft`
abbrev pub worked_by : Execution → List TreeMap → Option MicroStep → Result Worked StepFault
worked_by x trees None = Err step.NothingLeft
worked_by x trees (Some m) = Ok (worked_to x m (step_on x.done (Some m) (work_with x.own trees)))

-- the result of the next micro-step of an execution whose instances have these trees
abbrev pub worked : List MicroStep → Execution → List TreeMap → Result Worked StepFault
worked steps x trees = worked_by x trees (next_step steps x)

-- the result of a micro-step, as `Worked` has it, but with the rows of all caches instead of only the trees of the execution's instances
abbrev pub Written : Type 0
Written = Execution × List Row × Reply

-- the result of a micro-step, with the rows of all caches after the trees that it left in the execution's instances, `ps`, are written to them
abbrev pub written_by : List Row → List Instance → Result Worked StepFault → Result Written StepFault
written_by rows ps (Ok w) = Ok (w.execution, put_each rows ps w.trees, w.reply)
written_by rows ps (Err e) = Err e

-- the result of the next micro-step of an execution, on the trees that the rows of the caches have for its instances
abbrev pub worked_in : Build → List Row → Execution → Result Written StepFault
worked_in b rows x = written_by rows x.places (worked (program_in b x).steps x (trees_at (store_of rows) x.places))

-- ---- the result of a settle

-- the vertex of the worker that settles, and the vertex's status after the settle; or why the settle is refused
abbrev pub left_at : Build → Option WorkerStatus → Result (ℕ × Status) SettleFault
left_at b None = Err settle.NoWorker
left_at b (Some Idle) = Err settle.NotRunning
left_at b (Some (Runs x)) = if is_finished (program_in b x).steps x then Ok (x.vertex, Settled (ending_from (program_in b x) x)) else Err settle.NotFinished

-- ---- the result of a cancel

-- the vertex of the worker that cancels, and how many micro-steps of it were done; or why the cancel is refused
abbrev pub given_up_at : Option WorkerStatus → Result (ℕ × ℕ) CancelFault
given_up_at None = Err cancel.NoWorker
given_up_at (Some Idle) = Err cancel.NotRunning
given_up_at (Some (Runs x)) = Ok (x.vertex, x.done)
