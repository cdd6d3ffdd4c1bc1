use Rattle.std.proofs.Common.{◌≡◌, take, map}
use Rattle.llb_loader.specs.Rules.{output_count}
use Rattle.llb_loader.proofs.reached_row_checks.counts_of.Given as goal

abbrev pub invariant-loop-op : goal.invariant-loop-op
invariant-loop-op l = l.counts.items ≡ map output_count (take l.op-index l.ops)
