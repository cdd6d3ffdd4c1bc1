use Rattle.std.proofs.Common.{ℕ, ◌+◌, ◌*◌, ◌++◌, ap, ◌∙◌}
use Rattle.llb_wire.specs.Spelling.{varint_text}
use Rattle.llb_asm.proofs.WireRecords.{with_record}
use Rattle.llb_asm.proofs.line.put_bytes.Goals as goal

pub returns : goal.returns
returns c = with_record c.args.out.now.items c.write_varint.new.out.items c.write_varint-2.new.out.items c.extend_from_slice.new.self.items
    c.args.number c.args.bytes.now
    (c.in_ok-write_varint.ensures.ok ∙ ap (λ (n : ℕ). c.args.out.now.items ++ varint_text (8 * n + 2)) c.from.ensures)
    c.in_ok-write_varint-2.ensures.ok c.in_ok-extend_from_slice.ensures.items
