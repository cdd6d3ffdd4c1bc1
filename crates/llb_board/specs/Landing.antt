-- The result of a landing: the worker's remaining steps and its settle are done, or the landing is refused with the first cause that applies.
use Rattle.std.specs.Prelude.{◌≡◌, ℕ, Bool, true, false, List, [], ◌∷◌, ◌++◌, Option, Some, None, slice_get, is_ok}
use Rattle.llb_model.specs.State.{Execution, WorkerStatus, Idle, Runs}
use Rattle.llb_model.specs.Table.{Job, Reply, settle_grant}
use Rattle.llb_model.specs.Run.{run}
use Rattle.llb_model.specs.Landing.{steps_by, landing}
use Rattle.llb_board.specs.BoardValue.{BoardValue, kept_along}
use Rattle.llb_execution.specs.Jobs.{OutcomeValue}
use Rattle.llb_board.specs.Jobs.{has_shared, IsRunOf}
use Rattle.llb_board.specs.declared.fault.LandFault.{LandFault}
use Rattle.llb_board.specs.declared.fault.LandFault.TheVariants as fault
use Rattle.llb_board.specs.declared.board.landing.LandCause.{LandCause}
use Rattle.llb_board.specs.declared.board.landing.LandCause.TheVariants as cause

-- ---- which outcomes land

-- whether what a worker runs holds an instance of a shared cache
abbrev pub runs_shared : Option WorkerStatus → Bool
runs_shared (Some (Runs x)) = has_shared x
runs_shared (Some Idle) = false
runs_shared None = false

-- `job` is what now remains of the job that worker w works on (`IsRunOf`), and w holds no instance of a shared cache
pub record CanLand (b : BoardValue) (w : ℕ) (job : Job) : Type 0 where
  pub x : Execution
  pub runs : slice_get b.state.workers w ≡ Some (Runs x)
  pub alone : has_shared x ≡ false
  pub own : IsRunOf b.build b.state.store w x job

-- worker w runs a vertex and holds no instance of a shared cache, but `job` is not what now remains of the job that w works on (`IsRunOf`)
pub record RunsAlone (b : BoardValue) (w : ℕ) (job : Job) : Type 0 where
  pub x : Execution
  pub runs : slice_get b.state.workers w ≡ Some (Runs x)
  pub alone : has_shared x ≡ false
  pub other : IsRunOf b.build b.state.store w x job → ⊥

-- worker w runs a vertex and holds an instance of a shared cache
pub record RunsShared (b : BoardValue) (w : ℕ) : Type 0 where
  pub x : Execution
  pub runs : slice_get b.state.workers w ≡ Some (Runs x)
  pub shared : has_shared x ≡ true

-- this cause prevents worker w from landing the outcome of the job, and no earlier cause applies
abbrev pub StandsInWay : BoardValue → ℕ → Job → LandCause → Type 0
StandsInWay b w job cause.NoWorker = slice_get b.state.workers w ≡ None
StandsInWay b w job cause.NotRunning = slice_get b.state.workers w ≡ Some Idle
StandsInWay b w job cause.HasShared = RunsShared b w
StandsInWay b w job cause.Stranger = RunsAlone b w job

-- the fault for a cause; the fault holds the outcome
abbrev pub land_fault : LandCause → OutcomeValue → LandFault
land_fault cause.NoWorker o = fault.NoWorker o
land_fault cause.NotRunning o = fault.NotRunning o
land_fault cause.HasShared o = fault.HasShared o
land_fault cause.Stranger o = fault.Stranger o

-- e is the fault for the first cause that prevents worker w from landing outcome o
pub record IsRefused (b : BoardValue) (w : ℕ) (o : OutcomeValue) (e : LandFault) : Type 0 where
  pub cause : LandCause
  pub stands : StandsInWay b w o.job cause
  pub is : e ≡ land_fault cause o

-- ---- what a landing does

-- `new` is board b after `count` steps of worker w are done and recorded
pub record Steps (b : BoardValue) (w : ℕ) (count : ℕ) (new : BoardValue) : Type 0 where
  pub replies : List Reply
  pub runs : run b.build b.state (steps_by w count) ≡ Some (new.state, replies)
  pub rows : kept_along b.build b.state b.rows (steps_by w count) ≡ Some (new.state, new.rows)
  pub recorded : new ≡ record b { state = new.state; rows = new.rows; events = b.events ++ steps_by w count }

-- `new` is board b after all remaining steps of worker w and its settle are done and recorded; `reply` is the reply to the settle
pub record Lands (b : BoardValue) (w : ℕ) (o : OutcomeValue) (new : BoardValue) (reply : Reply) : Type 0 where
  pub can : CanLand b w o.job
  pub replies : List Reply
  pub runs : run b.build b.state (landing w o.count) ≡ Some (new.state, replies ++ reply ∷ [])
  pub rows : kept_along b.build b.state b.rows (landing w o.count) ≡ Some (new.state, new.rows)
  pub recorded : new ≡ record b { state = new.state; rows = new.rows; events = b.events ++ landing w o.count }

-- `new` is board b after `count` steps of worker w; after these steps the vertex that w runs is finished
pub record IsThrough (b : BoardValue) (w : ℕ) (count : ℕ) (new : BoardValue) : Type 0 where
  pub steps : Steps b w count new
  pub finished : is_ok (settle_grant new.build new.state w) ≡ true
