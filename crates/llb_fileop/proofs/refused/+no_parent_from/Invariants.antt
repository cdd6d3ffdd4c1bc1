use Rattle.std.proofs.Common.{length}
use Rattle.llb_fileop.proofs.refused.+no_parent_from.Given as goal

abbrev pub decreases-no_parent_from : goal.decreases-no_parent_from
decreases-no_parent_from l = length l.names.now
