-- The transition table: for a state and an event the next state and the reply, or the first reason why the event is refused.
use Rattle.std.specs.Prelude.{ℕ, ◌+◌, List, map, Option, Some, None, slice_get, slice_set, Result, Ok, Err, if◌then◌else◌}
use Rattle.std.specs.Result.{result_ok}
use Rattle.llb_cache.specs.declared.key.Key.{Key}
use Rattle.llb_loader.specs.declared.graph.Vertex.{Vertex}
use Rattle.llb_events.specs.declared.event.Event.{Event}
use Rattle.llb_events.specs.declared.event.Event.TheVariants.{Claim, Step, Settle, Cancel}
use Rattle.llb_events.specs.declared.event.Stepped as of_step
use Rattle.llb_events.specs.declared.event.Stepped.TheVariants as did
use Rattle.llb_events.specs.declared.event.Settled as of_settle
use Rattle.llb_events.specs.declared.event.Settled.TheVariants as ended
use Rattle.llb_events.specs.declared.event.Cancelled as of_cancel
use Rattle.llb_events.specs.declared.fault.VertexFault.{VertexFault}
use Rattle.llb_model.specs.Caches.{Instance, put_all}
use Rattle.llb_model.specs.Program.{Build, MicroStep, ReadLocal, Act, LayInput, Run, Program, Workspace, Work, Left, Start, program_of, needs_of, step_on}
use Rattle.llb_model.specs.Program.{last_of, is_run}
use Rattle.llb_model.specs.Outcome.{Ending, Done, Failed}
use Rattle.llb_model.specs.State.{Status, Waiting, Running, Settled, Execution, WorkerStatus, Idle, Runs, State, start_from, program_in, work_of, is_finished}
use Rattle.llb_model.specs.State.{next_step, ending_from, held, places_for, held_key, begin_at}
use Rattle.llb_events.specs.declared.refusal.ClaimFault.{ClaimFault}
use Rattle.llb_events.specs.declared.refusal.ClaimFault.TheVariants as claim
use Rattle.llb_events.specs.declared.refusal.StepFault.{StepFault}
use Rattle.llb_events.specs.declared.refusal.StepFault.TheVariants as step
use Rattle.llb_events.specs.declared.refusal.SettleFault.{SettleFault}
use Rattle.llb_events.specs.declared.refusal.SettleFault.TheVariants as settle
use Rattle.llb_events.specs.declared.refusal.CancelFault.{CancelFault}
use Rattle.llb_events.specs.declared.refusal.CancelFault.TheVariants as cancel

-- the worker of an event
abbrev pub worker_of : Event → ℕ
worker_of (Claim w v) = w
worker_of (Step w) = w
worker_of (Settle w) = w
worker_of (Cancel w) = w

-- what a claim hands out: the worker, the vertex and its program, how many micro-steps are done, the work (with the trees that the vertex's cache instances
-- have at the claim), and the numbers of these instances in the order of the vertex's needs
pub record Job : Type 0 where
  pub worker : ℕ
  pub vertex : ℕ
  pub program : Program
  pub done : ℕ
  pub work : Work
  pub instances : List ℕ

-- the reply to an event
pub data Reply : Type 0 where
  Claimed : Job → Reply
  HasStepped : of_step.Stepped → Reply
  HasSettled : of_settle.Settled → Reply
  HasCancelled : of_cancel.Cancelled → Reply

-- ---- a claim

-- the value if there is one, else the refusal that the vertex is not Ready
abbrev pub or_not_ready : {A : Type 0} → Option A → Result A ClaimFault
or_not_ready (Some x) = Ok x
or_not_ready None = Err claim.NotReady

-- what the work on vertex v begins with, if the worker that claims v is idle and v is Ready; else the first reason why the claim is refused
abbrev pub claim_start : List Status → ℕ → Option WorkerStatus → Option Vertex → Result Start ClaimFault
claim_start statuses v None vertex = Err claim.NoWorker
claim_start statuses v (Some (Runs x)) vertex = Err claim.Busy
claim_start statuses v (Some Idle) None = Err claim.NoVertex
claim_start statuses v (Some Idle) (Some vertex) = or_not_ready (start_from statuses (slice_get statuses v) (Some vertex))

-- a worker's execution of vertex v before any micro-step
abbrev pub execution_on : ℕ → Work → List Instance → Execution
execution_on v work ps = record { vertex = v; done = 0; fault = None; own = work.own; places = ps }

-- the job of a claim, before any micro-step
abbrev pub job_on : ℕ → ℕ → Vertex → Work → List Instance → Job
job_on w v vertex work ps =
    record { worker = w; vertex = v; program = program_of vertex; done = 0; work = work; instances = map (λ (p : Instance). p.number) ps }

-- the state after a claim: the worker runs the vertex, and each instance of the claim that did not exist is made in the caches
abbrev pub after_claim : State → ℕ → ℕ → Work → List Instance → State
after_claim s w v work ps = record {
  statuses = slice_set s.statuses v (Running w);
  workers = slice_set s.workers w (Runs (execution_on v work ps));
  store = put_all s.store ps work.trees;
}

-- the state and the reply after a claim that takes these instances and begins with this work
abbrev pub claim_with : State → ℕ → ℕ → Vertex → Work → List Instance → State × Reply
claim_with s w v vertex work ps = (after_claim s w v work ps, Claimed (job_on w v vertex work ps))

-- the state and the reply after a claim that takes these instances
abbrev pub claim_at : Build → State → ℕ → ℕ → Start → List Instance → State × Reply
claim_at b s w v start ps = claim_with s w v start.vertex (begin_at b s.store start ps) ps

-- the result of a claim, given the first locked key of the vertex's needs whose instance a running worker holds; if there is one, the claim is refused
abbrev pub claim_unless : Build → State → ℕ → ℕ → Start → Option Key → Result (State × Reply) ClaimFault
claim_unless b s w v start (Some k) = Err (claim.Held k)
claim_unless b s w v start None = Ok (claim_at b s w v start (places_for (held s.workers) (needs_of start.vertex)))

-- the result of a claim, given either what the work on its vertex begins with or the reason why the claim is refused
abbrev pub claimed : Build → State → ℕ → ℕ → Result Start ClaimFault → Result (State × Reply) ClaimFault
claimed b s w v (Ok start) = claim_unless b s w v start (held_key (held s.workers) (needs_of start.vertex))
claimed b s w v (Err cause) = Err cause

-- the result of the claim of vertex v by worker w: the next state and the reply, or why it is refused
abbrev pub claim_grant : Build → State → ℕ → ℕ → Result (State × Reply) ClaimFault
claim_grant b s w v = claimed b s w v (claim_start s.statuses v (slice_get s.workers w) (slice_get b.graph.vertices v))

-- ---- a step

-- the execution after one more micro-step
abbrev pub with_step : Execution → Left → Execution
with_step x left = record x { done = x.done + 1; fault = left.fault; own = left.work.own }

-- what the reply to a micro-step says: the micro-step's fault if there is one, else what the micro-step did
abbrev pub unless_failed : Option VertexFault → of_step.Stepped → of_step.Stepped
unless_failed None done = done
unless_failed (Some f) done = did.Fault f

-- what the reply to micro-step k says, given the workspace before it and its result; for a command that ran: the status, also if the exec fails by it
abbrev pub step_done : ℕ → MicroStep → Workspace → Left → of_step.Stepped
step_done k ReadLocal before left = unless_failed left.fault did.Read
step_done k (Act action) before left = unless_failed left.fault (did.Acted k)
step_done k (LayInput i) before left = unless_failed left.fault (did.Merged k)
step_done k (Run setting command ends) before left =
    if is_run command.join (last_of before) then did.Ran k (last_of left.work.own) else did.Skipped k

-- the reply to micro-step k
abbrev pub step_reply : ℕ → MicroStep → Workspace → Left → Reply
step_reply k m before left = HasStepped (step_done k m before left)

-- the state after a step: the trees that the step wrote are in the caches at once, and stay there even if a later micro-step faults
abbrev pub after_step : State → ℕ → Execution → Left → State
after_step s w x left = record s { workers = slice_set s.workers w (Runs (with_step x left)); store = put_all s.store x.places left.work.trees }

-- the state and the reply after micro-step m with this result
abbrev pub step_by : State → ℕ → Execution → MicroStep → Left → State × Reply
step_by s w x m left = (after_step s w x left, step_reply x.done m x.own left)

-- the result of a step, given the next micro-step; the step is refused if there is no next micro-step
abbrev pub step_with : State → ℕ → Execution → Option MicroStep → Result (State × Reply) StepFault
step_with s w x None = Err step.NothingLeft
step_with s w x (Some m) = Ok (step_by s w x m (step_on x.done (Some m) (work_of s x)))

-- the result of a step, given what the worker does; the step is refused if there is no such worker, or if the worker is idle, or if its execution is finished
abbrev pub stepped : Build → State → ℕ → Option WorkerStatus → Result (State × Reply) StepFault
stepped b s w None = Err step.NoWorker
stepped b s w (Some Idle) = Err step.NotRunning
stepped b s w (Some (Runs x)) = step_with s w x (next_step (program_in b x).steps x)

-- the result of the step of worker w: the next state and the reply, or why it is refused
abbrev pub step_grant : Build → State → ℕ → Result (State × Reply) StepFault
step_grant b s w = stepped b s w (slice_get s.workers w)

-- ---- the end of a worker's run, by a settle or a cancel

-- the state after a worker ends its run of a vertex: the vertex has this status, and the worker is idle, so it holds no instances
abbrev pub after_end : State → ℕ → ℕ → Status → State
after_end s w v status = record s { statuses = slice_set s.statuses v status; workers = slice_set s.workers w Idle }

-- ---- a settle

-- what the reply to a settle of vertex v says: the vertex is done, or it failed
abbrev pub settle_done : ℕ → Ending → of_settle.Settled
settle_done v (Done trees) = ended.Done v
settle_done v (Failed f) = ended.Failed v

-- the reply to a settle of vertex v
abbrev pub settle_reply : ℕ → Ending → Reply
settle_reply v e = HasSettled (settle_done v e)

-- the state after a settle of vertex v
abbrev pub after_settle : State → ℕ → ℕ → Ending → State
after_settle s w v e = after_end s w v (Settled e)

-- the state and the reply after a settle of vertex v with this ending
abbrev pub settle_with : State → ℕ → ℕ → Ending → State × Reply
settle_with s w v e = (after_settle s w v e, settle_reply v e)

-- the result of a settle, given what the worker does; the settle is refused unless the worker runs an execution that is finished
abbrev pub settled : Build → State → ℕ → Option WorkerStatus → Result (State × Reply) SettleFault
settled b s w None = Err settle.NoWorker
settled b s w (Some Idle) = Err settle.NotRunning
settled b s w (Some (Runs x)) =
    if is_finished (program_in b x).steps x then Ok (settle_with s w x.vertex (ending_from (program_in b x) x)) else Err settle.NotFinished

-- the result of the settle of worker w: the next state and the reply, or why it is refused
abbrev pub settle_grant : Build → State → ℕ → Result (State × Reply) SettleFault
settle_grant b s w = settled b s w (slice_get s.workers w)

-- ---- a cancel

-- the reply to a cancel of vertex v of which k micro-steps were done
abbrev pub cancel_reply : ℕ → ℕ → Reply
cancel_reply v k = HasCancelled (record { vertex = v; done = k })

-- the state and the reply after a cancel: the vertex waits again, and the caches keep what the vertex's micro-steps have written
abbrev pub cancel_with : State → ℕ → ℕ → ℕ → State × Reply
cancel_with s w v k = (after_end s w v Waiting, cancel_reply v k)

-- the result of a cancel, given what the worker does; the cancel is refused unless the worker runs an execution
abbrev pub cancelled : State → ℕ → Option WorkerStatus → Result (State × Reply) CancelFault
cancelled s w None = Err cancel.NoWorker
cancelled s w (Some Idle) = Err cancel.NotRunning
cancelled s w (Some (Runs x)) = Ok (cancel_with s w x.vertex x.done)

-- the result of the cancel of worker w: the next state and the reply, or why the cancel is refused
abbrev pub cancel_grant : State → ℕ → Result (State × Reply) CancelFault
cancel_grant s w = cancelled s w (slice_get s.workers w)

-- ---- the table

-- the transition table: the next state and the reply if the event is granted, nothing if it is refused
unfoldable pub table : Build → State → Event → Option (State × Reply)
table b s (Claim w v) = result_ok (claim_grant b s w v)
table b s (Step w) = result_ok (step_grant b s w)
table b s (Settle w) = result_ok (settle_grant b s w)
table b s (Cancel w) = result_ok (cancel_grant s w)
