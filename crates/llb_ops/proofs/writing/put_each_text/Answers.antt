use Rattle.std.proofs.Common.{sym, ◌∙◌}
use Rattle.std.proofs.lemmas.List.{append-nil}
use Rattle.llb_ops.specs.Writing.{each_field}
use Rattle.llb_ops.proofs.ConsecutiveMessages.{put_each_more}
use Rattle.llb_ops.proofs.writing.put_each_text.Goals as goal

pub loop-text-init : goal.loop-text-init
unfolding each_field
loop-text-init c = sym (append-nil c.args.out.now.items)

pub loop-text-preserved : goal.loop-text-preserved
loop-text-preserved c =
    let items = c.args.items.now in
    let i = c.loop-text.text-index in
    put_each_more c.args.number items i c.text-item.result c.args.out.now.items c.loop-text.out.items c.put_set_bytes.new.out.items
    c.as_bytes.result.now c.loop-text-test.true c.loop-text.invariant
    (c.as_bytes.ensures.value ∙ c.as_str.ensures.value ∙ c.text-item.is) c.in_ok-put_set_bytes.ensures
