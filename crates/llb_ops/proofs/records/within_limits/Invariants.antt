use Rattle.std.proofs.Common.{◌≡◌, drop}
use Rattle.llb_ops.specs.Records.{views, within_limits}
use Rattle.llb_ops.proofs.records.within_limits.Given as goal

abbrev pub invariant-loop-number : goal.invariant-loop-number
invariant-loop-number l = within_limits (drop l.number-index l.repeated) (views l.records) ≡ within_limits l.repeated (views l.records)
