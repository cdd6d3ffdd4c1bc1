-- The job that remains for a worker, and the worker's seat (what the worker runs) after the job's micro-steps.
use Rattle.std.specs.Prelude.{◌≡◌, ℕ, ◌+◌, Bool, true, false, map, Option, Some, None}
use Rattle.std.specs.List.{list_any}
use Rattle.llb_cache.specs.declared.key.Mode.{Mode}
use Rattle.llb_cache.specs.declared.key.Mode.TheVariants.{Shared, Private, Locked}
use Rattle.llb_model.specs.Caches.{Instance, Store, trees_at}
use Rattle.llb_events.specs.declared.fault.VertexFault.{VertexFault}
use Rattle.llb_model.specs.Program.{Build, Workspace}
use Rattle.llb_model.specs.State.{Execution, program_in}
use Rattle.llb_model.specs.Table.{Job}
use Rattle.llb_execution.specs.ModelValues.{work_with}
use Rattle.llb_board.specs.declared.workers.running_workers.Seat.{Seat}
use Rattle.llb_board.specs.declared.workers.running_workers.Seat.TheVariants as seat

-- whether several leases can hold one instance of a cache of this mode at once
abbrev pub is_shared : Mode → Bool
is_shared Shared = true
is_shared Private = false
is_shared Locked = false

-- whether an execution holds an instance of a shared cache, which other executions may hold at the same time
abbrev pub has_shared : Execution → Bool
has_shared x = list_any (λ (p : Instance). is_shared p.key.mode) x.places

-- the job that remains for a worker: the worker's present work, in the form in which a claim hands out a job
abbrev pub job_now : Build → Store → ℕ → Execution → Job
job_now b store w x = record {
  worker = w;
  vertex = x.vertex;
  program = program_in b x;
  done = x.done;
  work = work_with x.own (trees_at store x.places);
  instances = map (λ (p : Instance). p.number) x.places;
}

-- the job has the number of worker w, the vertex that w runs, and the count of micro-steps that w has done; and no micro-step that w has done faulted
pub record IsBegun (w : ℕ) (x : Execution) (job : Job) : Type 0 where
  pub worker : job.worker ≡ w
  pub vertex : job.vertex ≡ x.vertex
  pub done : job.done ≡ x.done
  pub clean : x.fault ≡ None

-- the job is what now remains of the job that worker w works on (`job_now`), and no micro-step of w has faulted
pub record IsRunOf (b : Build) (store : Store) (w : ℕ) (x : Execution) (job : Job) : Type 0 where
  pub clean : x.fault ≡ None
  pub same : job ≡ job_now b store w x

-- the `Seat` of a worker (what the worker runs) after n more micro-steps, which left this fault and this workspace
abbrev pub seat_left : ℕ → Option VertexFault → Workspace → Option Seat → Seat
seat_left n fault view (Some (seat.Runs l x)) = seat.Runs l (record x { done = x.done + n; fault = fault; view = view })
seat_left n fault view (Some seat.Idle) = seat.Idle
seat_left n fault view None = seat.Idle
