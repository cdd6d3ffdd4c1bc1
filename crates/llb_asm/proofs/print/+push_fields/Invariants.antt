use Rattle.std.proofs.Common.{length}
use Rattle.llb_asm.proofs.PrintingInvariant.{Keeps}
use Rattle.llb_asm.proofs.print.+push_fields.Given as goal

abbrev pub decreases-push_fields : goal.decreases-push_fields
decreases-push_fields l = length l.bytes.now

abbrev pub invariant-loop-front : goal.invariant-loop-front
invariant-loop-front l = Keeps l.labels l.depth l.message l.bytes l.rest l.out.items l.initial.out.items

abbrev pub decreases-loop-front : goal.decreases-loop-front
decreases-loop-front l = length l.rest
