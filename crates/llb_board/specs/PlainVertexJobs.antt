-- The job of a worker at a vertex with no cache mount at or before it. The build (the graph and the local trees), the worker and the vertex determine this job.
use Rattle.std.specs.Prelude.{◌≡◌, ℕ, true, [], Option, Some, None, option_map, slice_get}
use Rattle.llb_loader.specs.declared.graph.Vertex.{Vertex}
use Rattle.llb_model.specs.Program.{Build, Start, start_with, begin}
use Rattle.llb_model.specs.Outcome.{outcome, ending_in, inputs_from, is_plain}
use Rattle.llb_model.specs.State.{Execution, Runs, State}
use Rattle.llb_events.specs.declared.event.Event.TheVariants.{Claim}
use Rattle.llb_model.specs.Table.{Job, Claimed, job_on, table}
use Rattle.llb_board.specs.BoardValue.{BoardValue}
use Rattle.llb_board.specs.Jobs.{job_now}
use Rattle.llb_board.specs.Landing.{CanLand}

-- what the work on a vertex begins with: the vertex, and each input's tree by the plain outcome of the input's vertex; nothing if one of these trees is missing
abbrev pub plain_start : Build → Option Vertex → Option Start
plain_start b None = None
plain_start b (Some vertex) = option_map (start_with vertex) (inputs_from (λ k. ending_in (outcome b k)) vertex.inputs)

-- the job of worker w at vertex v, if the vertex mounts no cache; `start` has the vertex and the trees of its inputs
abbrev pub job_from : Build → ℕ → ℕ → Start → Job
job_from b w v start = job_on w v start.vertex (begin b start []) []

-- the plain job: the job of worker w at vertex v if no cache mount is at or before v; this job depends on the build, w and v alone
abbrev pub plain_job : Build → ℕ → ℕ → Option Job
plain_job b w v = option_map (job_from b w v) (plain_start b (slice_get b.graph.vertices v))

-- a worker's execution has no fault and holds no instances, and its remaining job is `plain_job`: the one that the build, the worker and the vertex determine
pub record IsBegunPlainly (b : BoardValue) (w : ℕ) (x : Execution) : Type 0 where
  pub clean : x.fault ≡ None
  pub bare : x.places ≡ []
  pub job : plain_job b.build w x.vertex ≡ Some (job_now b.build b.state.store w x)

-- if no cache mount is at or before a running vertex, and no micro-step of it is done, its worker has no fault and no instances, and its job is the `plain_job`
abbrev pub BegunArePlain : BoardValue → Type 0
BegunArePlain b = (w : ℕ) (x : Execution) → is_plain b.build x.vertex ≡ true → slice_get b.state.workers w ≡ Some (Runs x) → x.done ≡ 0 → IsBegunPlainly b w x

-- a claim of a vertex with no cache mount at or before it hands out a job (`plain_job`) that depends on the build, the worker and the vertex alone
abbrev pub ClaimsArePlain : BoardValue → Type 0
ClaimsArePlain b = (w v : ℕ) (t : State) (job : Job) → is_plain b.build v ≡ true → table b.build b.state (Claim w v) ≡ Some (t, Claimed job)
    → plain_job b.build w v ≡ Some job

-- worker w runs a vertex with no cache mount at or before it, and no micro-step of it is done yet; the job is the `plain_job` of w and the vertex
pub record IsKnown (b : BoardValue) (w : ℕ) (job : Job) : Type 0 where
  pub x : Execution
  pub plain : is_plain b.build x.vertex ≡ true
  pub runs : slice_get b.state.workers w ≡ Some (Runs x)
  pub first : x.done ≡ 0
  pub same : plain_job b.build w x.vertex ≡ Some job

-- if `IsKnown` holds of a worker and a job, the worker can land the outcome of the job
abbrev pub KnownLand : BoardValue → Type 0
KnownLand b = (w : ℕ) (job : Job) → IsKnown b w job → CanLand b w job
