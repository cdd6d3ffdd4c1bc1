-- What is kept of a worker before its settle or cancel, and the worker's seat (what the worker runs) after a micro-step is taken back.
use Rattle.std.specs.Prelude.{◌-◌, Option, Some, None}
use Rattle.llb_execution.specs.SavedWorkspaces.{Saved, put_back}
use Rattle.llb_model.specs.State.{Execution}
use Rattle.llb_board.specs.RunningWorkerSupplies.{Supplies, supplies_of}
use Rattle.llb_board.specs.WorkerModelValues.{execution_of}
use Rattle.llb_board.specs.declared.workers.running_workers.Seat.{Seat}
use Rattle.llb_board.specs.declared.workers.running_workers.Seat.TheVariants as seat
use Rattle.llb_board.specs.declared.workers.running_workers.Execution as own

-- what a worker held before its settle or its cancel
pub record Left : Type 0 where
  pub execution : Execution
  pub supplies : Supplies

-- what contracts see of an execution that is kept after its worker's settle or cancel: the execution and its supplies
abbrev pub left_in : own.Execution → Left
left_in x = record { execution = execution_of x; supplies = supplies_of x }

-- what a worker ran before its last micro-step: one micro-step fewer is done, there is no fault, and the copies in `saved` are back in the workspace
abbrev pub seat_before : Saved → Option Seat → Seat
seat_before saved (Some (seat.Runs l x)) = seat.Runs l (record x { done = x.done - 1; fault = None; view = put_back saved x.view })
seat_before saved (Some seat.Idle) = seat.Idle
seat_before saved None = seat.Idle
