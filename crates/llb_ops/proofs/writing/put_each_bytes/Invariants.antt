use Rattle.std.proofs.Common.{◌≡◌, ◌++◌, take}
use Rattle.llb_ops.specs.Writing.{each_field}
use Rattle.llb_ops.proofs.writing.put_each_bytes.Given as goal

abbrev pub invariant-loop-bytes : goal.invariant-loop-bytes
invariant-loop-bytes l = l.out.items ≡ l.fn.out.items ++ each_field l.number (take l.bytes-index l.items)
