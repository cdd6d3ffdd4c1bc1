-- The jobs of vertices with the same digest: they differ only in the numbers of worker and vertex, and so do the outcomes of these jobs.
use Rattle.std.specs.Prelude.{◌≡◌, ℕ, true, List, Some, option_map, slice_get}
use Rattle.llb_loader.specs.Graph.{Numbered}
use Rattle.llb_loader.specs.LocalSources.{Local}
use Rattle.llb_model.specs.Outcome.{is_plain}
use Rattle.llb_model.specs.State.{Execution, Runs}
use Rattle.llb_model.specs.Table.{Job}
use Rattle.llb_execution.specs.Jobs.{OutcomeValue, IsOutcome}
use Rattle.llb_board.specs.BoardValue.{BoardValue}
use Rattle.llb_board.specs.PlainVertexJobs.{plain_job, IsKnown}
use Rattle.llb_board.specs.Landing.{CanLand}
use Rattle.llb_laws.specs.Digests.{HaveOneDigest, HaveSameSources}

-- a job with its numbers of worker and vertex replaced by these
abbrev pub given_to : ℕ → ℕ → Job → Job
given_to w v job = record job { worker = w; vertex = v }

-- an outcome with the numbers of worker and vertex of its job replaced by these
abbrev pub credited_to : ℕ → ℕ → OutcomeValue → OutcomeValue
credited_to w v o = record o { job = given_to w v o.job }

-- the jobs without caches (`plain_job`) of vertices with the same digest differ only in worker and vertex, if the sources at or before them have equal trees
abbrev pub ShareJobs : Numbered → Numbered → Type 0
ShareJobs g h = (ls ms : List Local) (v u a w : ℕ) → HaveOneDigest g v h u → HaveSameSources g v ls ms
    → plain_job (record { graph = h; locals = ms }) w u ≡ option_map (given_to w u) (plain_job (record { graph = g; locals = ls }) a v)

-- `o` is the outcome of the job without caches (`plain_job`) of vertex v over graph g and these local trees. On board b, worker w runs a vertex with the same
-- digest, and has done no micro-step of it. No cache mount is at or before that vertex, and the sources at or before the two vertices have the same trees.
pub record IsWorkedElsewhere (g : Numbered) (ls : List Local) (v : ℕ) (b : BoardValue) (w : ℕ) (x : Execution) (o : OutcomeValue) : Type 0 where
  pub worker : ℕ
  pub job : plain_job (record { graph = g; locals = ls }) worker v ≡ Some o.job
  pub whole : IsOutcome o.job o.count o.left
  pub digests : HaveOneDigest g v b.build.graph x.vertex
  pub sources : HaveSameSources g v ls b.build.locals
  pub plain : is_plain b.build x.vertex ≡ true
  pub runs : slice_get b.state.workers w ≡ Some (Runs x)
  pub first : x.done ≡ 0

-- the outcome, with its numbers of worker and vertex replaced by w and w's vertex, can be landed on board b, and is the only outcome of w's job there
pub record LandsHere (b : BoardValue) (w : ℕ) (x : Execution) (o : OutcomeValue) : Type 0 where
  pub known : IsKnown b w (given_to w x.vertex o.job)
  pub can : CanLand b w (given_to w x.vertex o.job)
  pub whole : IsOutcome (given_to w x.vertex o.job) o.count o.left
  pub only : (p : OutcomeValue) → p.job ≡ given_to w x.vertex o.job → IsOutcome p.job p.count p.left → p ≡ credited_to w x.vertex o

-- an outcome that was computed over graph g can be landed on board b (`LandsHere`), if `IsWorkedElsewhere` holds of the outcome
abbrev pub WorkedElsewhereLands : Numbered → BoardValue → Type 0
WorkedElsewhereLands g b = (ls : List Local) (v w : ℕ) (x : Execution) (o : OutcomeValue) → IsWorkedElsewhere g ls v b w x o → LandsHere b w x o
