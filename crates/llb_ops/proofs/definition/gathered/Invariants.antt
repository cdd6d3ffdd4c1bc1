use Rattle.std.proofs.Common.{◌≡◌, length}
use Rattle.llb_ops.specs.Definition.{entries_in}
use Rattle.llb_ops.proofs.EntryReadingLoop.{behind}
use Rattle.llb_ops.proofs.definition.gathered.Given as goal

abbrev pub invariant-loop-entries : goal.invariant-loop-entries
invariant-loop-entries l = behind l.entries.items (entries_in l.rest) ≡ entries_in l.bytes

abbrev pub decreases-loop-entries : goal.decreases-loop-entries
decreases-loop-entries l = length l.rest
