use Rattle.std.proofs.Common.{sym, ap, ◌∙◌, map, ◌++◌}
use Rattle.std.proofs.lemmas.List.{append-nil}
use Rattle.llb_ops.specs.Attributes.{entry_of}
use Rattle.llb_ops.specs.Writing.{attribute_entry_bytes, messages_field}
use Rattle.llb_ops.proofs.ConsecutiveMessages.{put_next}
use Rattle.llb_ops.proofs.source.put_attributes.Goals as goal

pub loop-key-init : goal.loop-key-init
loop-key-init c = ap (λ xs. c.args.out.now.items ++ messages_field attribute_entry_bytes 2 (map entry_of xs))
    (c.into_iter-key-iterator.ensures.into_iter_gives ∙ c.iter-key-items.ensures.rest ∙ c.attrs.view_is)

pub loop-key-preserved : goal.loop-key-preserved
loop-key-preserved c =
    put_next attribute_entry_bytes 2 (entry_of (c.in-Some.key.now, c.in-Some.attribute.now)) (map entry_of c.loop-key.key-iterator)
    (map entry_of c.next.new.self) _ c.loop-key.out.items c.put_set_bytes.new.out.items c.deref.result.now
    (ap (map entry_of) c.in-Some.ensures.steps) c.loop-key.invariant (c.deref.ensures.value ∙ c.in_ok-bytes.ensures) c.in_ok-put_set_bytes.ensures

pub returns : goal.returns
unfolding messages_field
returns c = sym (append-nil c.loop-key.out.items)
    ∙ ap (λ xs. c.loop-key.out.items ++ messages_field attribute_entry_bytes 2 (map entry_of xs)) (sym c.in-None.ensures.steps.0) ∙ c.loop-key.invariant
