-- Jobs, which workers take away from a board, and outcomes, which workers bring back to the board.
use Rattle.std.specs.Prelude.{◌≡◌, ℕ, ◌+◌, ◌<◌, ◌^◌, length, None}
use Rattle.std.specs.List.{All}
use Rattle.llb_model.specs.Caches.{Distinct}
use Rattle.llb_model.specs.Program.{Program, Work, Left}
use Rattle.llb_model.specs.Table.{Job}
use Rattle.llb_model.specs.Landing.{AreLeft, further}
use Rattle.llb_execution.specs.ModelValues.{mounts_in, shown_in}

-- the micro-steps of a program can be done on this work: the numbers of the mounts that show caches are distinct, and each is the number of a mount; there is a
-- tree for each of these mounts; and there are fewer than 2^32 micro-steps
pub record IsWorkable (p : Program) (work : Work) : Type 0 where
  pub apart : Distinct (shown_in work.own)
  pub within : All (λ n. n < mounts_in work.own) (shown_in work.own)
  pub count : length work.trees ≡ length (shown_in work.own)
  pub few : length p.steps < 2 ^ 32

-- an outcome: the job, how many micro-steps the work on the job did, and their result
pub record OutcomeValue : Type 0 where
  pub job : Job
  pub count : ℕ
  pub left : Left

-- what there is before the first remaining micro-step of a job: the job's work, and no fault
abbrev pub begun_on : Job → Left
begun_on j = record { work = j.work; fault = None }

-- exactly `count` micro-steps, from number `j.done` on, can be done, and `left` is their result; the number of mounts and the cache mounts are as before
pub record IsOutcome (j : Job) (count : ℕ) (left : Left) : Type 0 where
  pub few : j.done + count < 2 ^ 32
  pub all : AreLeft j.program.steps j.done (begun_on j) count
  pub leaves : left ≡ further j.program.steps j.done (begun_on j) count
  pub mounts : mounts_in left.work.own ≡ mounts_in j.work.own
  pub shown : shown_in left.work.own ≡ shown_in j.work.own
