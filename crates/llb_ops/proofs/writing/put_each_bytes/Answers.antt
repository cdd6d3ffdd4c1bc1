use Rattle.std.proofs.Common.{sym, ◌∙◌}
use Rattle.std.proofs.lemmas.List.{append-nil}
use Rattle.llb_ops.specs.Writing.{each_field}
use Rattle.llb_ops.proofs.ConsecutiveMessages.{put_each_more}
use Rattle.llb_ops.proofs.writing.put_each_bytes.Goals as goal

pub loop-bytes-init : goal.loop-bytes-init
unfolding each_field
loop-bytes-init c = sym (append-nil c.args.out.now.items)

pub loop-bytes-preserved : goal.loop-bytes-preserved
loop-bytes-preserved c =
    let items = c.args.items.now in
    let i = c.loop-bytes.bytes-index in
    put_each_more c.args.number items i c.bytes-item.result c.args.out.now.items c.loop-bytes.out.items c.put_set_bytes.new.out.items
    c.as_slice.result.now c.loop-bytes-test.true c.loop-bytes.invariant
    (c.as_slice.ensures ∙ c.bytes-item.is) c.in_ok-put_set_bytes.ensures
