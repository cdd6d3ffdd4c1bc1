use Rattle.std.proofs.Common.{ℕ, ◌<◌, [], get_or}
use Rattle.llb_laws.specs.CopiedPaths.{AgreeBelow}
use Rattle.llb_laws.proofs.copies.agree_below_each.Given as goal

abbrev pub invariant-loop-path : goal.invariant-loop-path
invariant-loop-path l = (k : ℕ) → k < l.path-index → AgreeBelow l.first l.second (get_or l.paths k [])
