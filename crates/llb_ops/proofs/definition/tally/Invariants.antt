use Rattle.std.proofs.Common.{◌≡◌, ◌+◌, ◌≤◌, length}
use Rattle.llb_ops.specs.Definition.{entries_in, counted}
use Rattle.llb_ops.proofs.EntryReadingLoop.{tallied}
use Rattle.llb_ops.proofs.definition.tally.Given as goal

abbrev pub invariant-loop-front : goal.invariant-loop-front
invariant-loop-front l = record {
  so_far : tallied (l.count, l.short) (entries_in l.rest) ≡ counted (entries_in l.bytes);
  few : l.count + length l.rest ≤ 67_108_864;
}

abbrev pub decreases-loop-front : goal.decreases-loop-front
decreases-loop-front l = length l.rest
