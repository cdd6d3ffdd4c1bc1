use Rattle.std.proofs.Common.{◌≡◌, take}
use Rattle.llb_ops.specs.Records.{views, all, payloads}
use Rattle.llb_ops.proofs.records.each_text.Given as goal

abbrev pub invariant-loop-record : goal.invariant-loop-record
invariant-loop-record l = l.items.items ≡ payloads (all l.number (views (take l.record-index l.records)))
