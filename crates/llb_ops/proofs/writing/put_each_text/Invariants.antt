use Rattle.std.proofs.Common.{◌≡◌, ◌++◌, take}
use Rattle.llb_ops.specs.Writing.{each_field}
use Rattle.llb_ops.proofs.writing.put_each_text.Given as goal

abbrev pub invariant-loop-text : goal.invariant-loop-text
invariant-loop-text l = l.out.items ≡ l.fn.out.items ++ each_field l.number (take l.text-index l.items)
