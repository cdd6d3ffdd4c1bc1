use Rattle.std.proofs.Common.{◌≡◌, ◌++◌, take}
use Rattle.llb_ops.specs.Writing.{messages_field}
use Rattle.llb_ops.proofs.writing.put_messages.Given as goal

abbrev pub invariant-loop-message : goal.invariant-loop-message
invariant-loop-message g l = l.out.items ≡ l.fn.out.items ++ messages_field g.M.Message.writing l.number (take l.message-index l.messages)
