-- What a worker is to do next, and what it reports when it takes the lock.
use Rattle.std.specs.Prelude.{◌≡◌, ℕ, Bool, true, Some}
use Rattle.llb_model.specs.Table.{Job}
use Rattle.llb_model.specs.Outcome.{is_plain}
use Rattle.llb_board.specs.BoardValue.{BoardValue}
use Rattle.llb_board.specs.PlainVertexJobs.{plain_job}
use Rattle.llb_work.specs.RunEnds.{is_of, may_be}
use Rattle.llb_work.specs.declared.shared_board.Task.{Task}
use Rattle.llb_work.specs.declared.shared_board.Task.TheVariants.{Work, Pass, Again, Next, Wait, End}
use Rattle.llb_work.specs.declared.shared_board.Report.{Report}
use Rattle.llb_work.specs.declared.shared_board.Report.TheVariants.{Nothing, Number, Empty, Outcome, Fault}

-- worker w and vertex v exist on the board, and the job has their numbers; if no cache mount is at or before v, the job is v's `plain_job` (llb_board)
pub record IsClaimed (b : BoardValue) (w v : ℕ) (job : Job) : Type 0 where
  pub worker : job.worker ≡ w
  pub vertex : job.vertex ≡ v
  pub has : is_of b w v ≡ true
  pub plain : is_plain b.build v ≡ true → plain_job b.build w v ≡ Some job

-- what holds of a worker's task: if the task is a job, `IsClaimed` holds for the job; if the task is to pass the gate for a vertex, worker and vertex exist
abbrev pub IsHere : BoardValue → ℕ → Task → Type 0
IsHere b w (Work job) = IsClaimed b w job.vertex job
IsHere b w (Pass v) = is_of b w v ≡ true
IsHere b w Again = Unit {0}
IsHere b w Next = Unit {0}
IsHere b w (Wait seen) = Unit {0}
IsHere b w End = Unit {0}

-- what holds of a worker's report: if an outcome is reported, `IsClaimed` holds for the outcome's job; if a stop is reported, the gate may cause that stop
abbrev pub IsReport : (ℕ → ℕ → Bool) → BoardValue → ℕ → Report → Type 0
IsReport may_stop b w Nothing = Unit {0}
IsReport may_stop b w (Number v) = Unit {0}
IsReport may_stop b w (Empty seen) = Unit {0}
IsReport may_stop b w (Outcome o) = IsClaimed b w o.job.vertex o.job
IsReport may_stop b w (Fault noted) = may_be may_stop b (Some noted) ≡ true
