-- The values of the model that represent what the code keeps for a worker.
use Rattle.std.specs.Prelude.{ℕ, Option, Some, None}
use Rattle.llb_model.specs.State as model
use Rattle.llb_board.specs.declared.workers.running_workers.Seat.{Seat}
use Rattle.llb_board.specs.declared.workers.running_workers.Seat.TheVariants as seat
use Rattle.llb_board.specs.declared.workers.running_workers.Execution.{Execution}

-- the model's execution for an execution of the code
abbrev pub execution_of : Execution → model.Execution
execution_of x = record { vertex = x.vertex; done = x.done; fault = x.fault; own = x.view; places = x.places.items }

-- the model's status of a worker with this seat (the code's value for what the worker runs)
abbrev pub at_of : Seat → model.WorkerStatus
at_of seat.Idle = model.Idle
at_of (seat.Runs l x) = model.Runs (execution_of x)

-- the worker with this seat (the code's value for what the worker runs) runs a vertex
abbrev pub IsRunning : Option Seat → Type 0
IsRunning (Some (seat.Runs l x)) = Unit {0}
IsRunning (Some seat.Idle) = ⊥
IsRunning None = ⊥

-- the number of the lease of a worker's instances, if the worker has a lease
abbrev pub leased_by : Seat → Option ℕ
leased_by seat.Idle = None
leased_by (seat.Runs l x) = l
