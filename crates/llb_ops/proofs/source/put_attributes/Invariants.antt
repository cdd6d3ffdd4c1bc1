use Rattle.std.proofs.Common.{◌≡◌, ◌++◌, map}
use Rattle.llb_ops.specs.Attributes.{entry_of}
use Rattle.llb_ops.specs.Writing.{attribute_entry_bytes, messages_field}
use Rattle.llb_ops.proofs.source.put_attributes.Given as goal

abbrev pub invariant-loop-key : goal.invariant-loop-key
invariant-loop-key l = l.out.items ++ messages_field attribute_entry_bytes 2 (map entry_of l.key-iterator) ≡ l.fn.out.items
    ++ messages_field attribute_entry_bytes 2 (map entry_of l.attrs)
