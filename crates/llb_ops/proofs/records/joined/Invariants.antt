use Rattle.std.proofs.Common.{◌≡◌, take}
use Rattle.llb_ops.specs.Records.{views, all, joined}
use Rattle.llb_ops.proofs.records.joined.Given as goal

abbrev pub invariant-loop-record : goal.invariant-loop-record
invariant-loop-record l = l.out.items ≡ joined (all l.number (views (take l.record-index l.records)))
