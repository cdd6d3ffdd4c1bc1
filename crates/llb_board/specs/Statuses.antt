-- The statuses of vertices and workers as callers see them, computed from the state of the machine.
use Rattle.std.specs.Prelude.{ℕ, Bool, List, Option, Some, None, option_map, slice_get, if◌then◌else◌}
use Rattle.llb_model.specs.Program.{Build}
use Rattle.llb_model.specs.Outcome.{Done, Failed}
use Rattle.llb_events.specs.declared.fault.VertexFault.{VertexFault}
use Rattle.llb_model.specs.State as model
use Rattle.llb_board.specs.declared.status.Status.{Status}
use Rattle.llb_board.specs.declared.status.Status.TheVariants as seen
use Rattle.llb_board.specs.declared.status.WorkerStatus.{WorkerStatus}
use Rattle.llb_board.specs.declared.status.WorkerStatus.TheVariants as worker

-- ---- what callers see

-- what callers see of a vertex with this status: a waiting vertex is seen as Ready if `ready` holds, else as Blocked if `blocked` holds, else as Waiting
abbrev pub look : Bool → Bool → model.Status → Status
look ready blocked model.Waiting = if ready then seen.Ready else if blocked then seen.Blocked else seen.Waiting
look ready blocked (model.Running w) = seen.Running w
look ready blocked (model.Settled (Done trees)) = seen.Done
look ready blocked (model.Settled (Failed f)) = seen.Failed f

-- what callers see of vertex v, given the statuses of all vertices
abbrev pub look_in : Build → List model.Status → ℕ → Option Status
look_in b statuses v = option_map (look (model.is_ready b statuses v) (model.is_blocked b statuses v)) (slice_get statuses v)

-- what callers see of vertex v in a state
abbrev pub look_at : Build → model.State → ℕ → Option Status
look_at b s v = look_in b s.statuses v

-- what callers see of a worker with this status: that the worker is idle; or its vertex, how many micro-steps are done, and whether the vertex is finished
abbrev pub look_of : Build → model.WorkerStatus → WorkerStatus
look_of b model.Idle = worker.Idle
look_of b (model.Runs x) = worker.Runs x.vertex x.done (model.is_finished (model.program_in b x).steps x)

-- what callers see of worker w in a state
abbrev pub worker_look : Build → model.State → ℕ → Option WorkerStatus
worker_look b s w = option_map (look_of b) (slice_get s.workers w)
