-- Of two texts that agree up to the end of one, the one that ends comes first.
use Rattle.std.proofs.Common.{refl, arith}
use Rattle.llb_treetext.proofs.SlashedNames.{longer, ended}
use Rattle.llb_treetext.proofs.line_check.is_before.Goals as goal

pub returns-then-at-second : goal.returns-then-at-second
returns-then-at-second c = longer c.args.first.now c.args.second.now c.loop-at.at c.loop-at.invariant.1 (omega arith) (omega arith)

pub returns : goal.returns
returns c = ended c.args.first.now c.args.second.now c.loop-at.at c.loop-at.invariant.1 (omega arith) _ refl
