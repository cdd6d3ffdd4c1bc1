use Rattle.std.proofs.Common.{◌≡◌, fold}
use Rattle.llb_ops.specs.Attributes.{put, settled}
use Rattle.llb_ops.proofs.source.Attributes.settled.Given as goal

abbrev pub invariant-loop-entry : goal.invariant-loop-entry
invariant-loop-entry l = fold put l.held.entries l.entry-iterator.rest.items ≡ settled l.fn.entries
