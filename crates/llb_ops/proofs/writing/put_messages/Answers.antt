use Rattle.std.proofs.Common.{sym, ap, ◌∙◌}
use Rattle.std.proofs.lemmas.List.{append-nil}
use Rattle.llb_ops.specs.Writing.{messages_field}
use Rattle.llb_ops.proofs.ConsecutiveMessages.{put_more}
use Rattle.llb_ops.proofs.writing.put_messages.Goals as goal

pub loop-message-init : goal.loop-message-init
unfolding messages_field
loop-message-init g c = sym (append-nil c.args.out.now.items)

pub loop-message-preserved : goal.loop-message-preserved
loop-message-preserved g c =
    let ms = c.args.messages.now in
    let i = c.loop-message.message-index in
    put_more g.M.Message.writing c.args.number ms i c.message-item.result c.args.out.now.items c.loop-message.out.items
    c.put_set_bytes.new.out.items c.deref.result.now c.loop-message-test.true c.loop-message.invariant
    (c.deref.ensures.value ∙ c.in_ok-bytes.ensures ∙ ap g.M.Message.writing c.message-item.is) c.in_ok-put_set_bytes.ensures
