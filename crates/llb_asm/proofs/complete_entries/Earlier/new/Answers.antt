use Rattle.llb_asm.proofs.DigestsAndByteCount.{kept_none}
use Rattle.llb_asm.proofs.complete_entries.Earlier.new.Goals as goal

pub invariant_of-result : goal.invariant_of-result
invariant_of-result c = kept_none c.new.result.items c.new-2.result.items c.new.ensures.items c.new-2.ensures.items
