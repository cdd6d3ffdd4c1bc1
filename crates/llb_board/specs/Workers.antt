-- The workers, as contracts see them, and what holds of the workers.
use Rattle.std.specs.Prelude.{◌≡◌, ℕ, ◌+◌, ◌<◌, ◌≤◌, List, map, length, Option, Some, None, slice_get, slice_set, Result, Ok, Err}
use Rattle.llb_cache.specs.declared.lease_needs.Need as cache_need
use Rattle.llb_cache.specs.Caches.{Row, Leases}
use Rattle.llb_loader.specs.declared.graph.Vertex.{Vertex}
use Rattle.llb_tree.specs.Tree.{TreeMap}
use Rattle.llb_model.specs.Caches.{put_all}
use Rattle.llb_model.specs.TwoCacheModels.{store_of, AreLeased, asked}
use Rattle.llb_model.specs.Program.{Build, needs_of, start_with}
use Rattle.llb_model.specs.State.{State, Running, Execution, WorkerStatus, Idle, Runs, held, held_key, places_for}
use Rattle.llb_model.specs.Table.{Job, Reply, Claimed, claim_start, claim_at, claim_grant, step_grant}
use Rattle.llb_events.specs.declared.refusal.ClaimFault.{ClaimFault}
use Rattle.llb_events.specs.declared.refusal.StepFault.{StepFault}
use Rattle.llb_board.specs.Jobs.{IsRunOf}
use Rattle.llb_execution.specs.Jobs.{OutcomeValue}
use Rattle.llb_board.specs.RunningWorkerSupplies.{Supplies, supplies_for, needed}
use Rattle.llb_board.specs.WorkerRules.{Begun}
use Rattle.llb_board.specs.Vertices.{VerticesValue}

-- what contracts see of the workers: what each worker does, the rows of the caches, and the supplies of each worker (what a worker has while it runs a vertex)
pub record WorkersValue : Type 0 where
  pub workers : List WorkerStatus
  pub rows : List Row
  pub supplies : List Supplies

-- there are 1 to 64 workers, and each worker that holds instances has a lease of exactly these instances
pub record IsCrew (workers : List WorkerStatus) (out : Leases) (leases : List (Option ℕ)) : Type 0 where
  pub some : 0 < length workers
  pub few : length workers ≤ 64
  pub leased : AreLeased out workers leases

-- each worker has the supplies that are needed for what it runs
abbrev pub Fits : Build → WorkersValue → Type 0
Fits b ws = ws.supplies ≡ map (needed b) ws.workers

-- the machine's state that the values of the vertices and of the workers make up
abbrev pub state_in : VerticesValue → WorkersValue → State
state_in vs ws = record { statuses = vs.statuses; workers = ws.workers; store = store_of ws.rows }

-- the table's result of a claim of vertex v by worker w on this state
abbrev pub claim_in : VerticesValue → WorkersValue → ℕ → ℕ → Result (State × Reply) ClaimFault
claim_in vs ws w v = (claim_grant vs.build (state_in vs ws) w v)

-- the table's result of a step of worker w on this state
abbrev pub step_in : VerticesValue → WorkersValue → ℕ → Result (State × Reply) StepFault
step_in vs ws w = (step_grant vs.build (state_in vs ws) w)

-- the table's result of an event without the new state: the reply, or the refusal
abbrev pub reply_of : {S E : Type 0} → Result (S × Reply) E → Result Reply E
reply_of (Ok p) = Ok p.1
reply_of (Err e) = Err e

-- worker w runs a vertex, and this job is the work that remains for w
pub record RunsJob (vs : VerticesValue) (ws : WorkersValue) (w : ℕ) (job : Job) : Type 0 where
  pub x : Execution
  pub runs : slice_get ws.workers w ≡ Some (Runs x)
  pub own : IsRunOf vs.build (store_of ws.rows) w x job

-- a worker's status after the micro-steps of outcome o: o's micro-steps are added to the count, and the fault and the workspace are o's; idle if nothing ran
abbrev pub steps_left : OutcomeValue → Option WorkerStatus → WorkerStatus
steps_left o (Some (Runs x)) = Runs (record x { done = x.done + o.count; fault = o.left.fault; own = o.left.work.own })
steps_left o (Some Idle) = Idle
steps_left o None = Idle

-- what a claim prepares: the job, the worker's execution and supplies, and the needs for which instances are to be leased
pub record BegunValue : Type 0 where
  pub job : Job
  pub execution : Execution
  pub supplies : Supplies
  pub needs : List cache_need.Need

-- b is a prepared claim of vertex v by worker w: on this state the table grants the claim, with the execution, the job and the needs that b has
pub record IsBegunAt (vs : VerticesValue) (ws : WorkersValue) (w v : ℕ) (b : BegunValue) : Type 0 where
  pub vertex : Vertex
  pub inputs : List TreeMap
  pub there : slice_get vs.build.graph.vertices v ≡ Some vertex
  pub starts : claim_start vs.statuses v (slice_get ws.workers w) (Some vertex) ≡ Ok (start_with vertex inputs)
  pub free : held_key (held ws.workers) (needs_of vertex) ≡ None
  pub grants : claim_at vs.build (state_in vs ws) w v (start_with vertex inputs) (places_for (held ws.workers) (needs_of vertex))
      ≡ (
        record {
          statuses = slice_set vs.statuses v (Running w);
          workers = slice_set ws.workers w (Runs b.execution);
          store = put_all (store_of ws.rows) b.execution.places b.job.work.trees;
        },
        Claimed b.job,
      )
  pub supplied : b.supplies ≡ supplies_for (Some vertex)
  pub asks : b.needs ≡ asked inputs (needs_of vertex)

-- b is a prepared claim on this state, of the vertex and by the worker that b's job names
abbrev pub IsBegunOn : VerticesValue → WorkersValue → BegunValue → Type 0
IsBegunOn vs ws b = IsBegunAt vs ws b.job.worker b.job.vertex b

-- the part of a prepared claim that is in the result of a claim (`Begun`): the execution, the reply and the needs
abbrev pub rule_of : BegunValue → Begun
rule_of b = record { execution = b.execution; reply = Claimed b.job; needs = b.needs }
