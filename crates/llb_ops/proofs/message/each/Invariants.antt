use Rattle.std.proofs.Common.{◌≡◌}
use Rattle.llb_ops.specs.Records.{message_of, views, all, each}
use Rattle.llb_ops.proofs.NestedMessageLoop.{behind, field_from}
use Rattle.llb_ops.proofs.message.each.Given as goal

abbrev pub invariant-loop-part : goal.invariant-loop-part
invariant-loop-part g l = behind l.messages.items (each (message_of g.M.Message.shape g.M.Message.reading)
    (field_from l.number l.records l.part-index)) ≡ each (message_of g.M.Message.shape g.M.Message.reading) (all l.number (views l.records))
