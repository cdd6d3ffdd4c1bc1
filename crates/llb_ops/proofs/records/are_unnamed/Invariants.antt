use Rattle.std.proofs.Common.{◌≡◌, length}
use Rattle.llb_ops.specs.CanonicalFields.{are_unnamed}
use Rattle.llb_ops.proofs.records.are_unnamed.Given as goal

abbrev pub invariant-loop-front : goal.invariant-loop-front
invariant-loop-front l = are_unnamed l.fn.message l.bytes ≡ are_unnamed l.fn.message l.rest

abbrev pub decreases-loop-front : goal.decreases-loop-front
decreases-loop-front l = length l.rest
