use Rattle.llb_asm.proofs.StringSpelling.{string_more, string_done}
use Rattle.llb_asm.proofs.values.push_string.Goals as goal

pub loop-byte-preserved : goal.loop-byte-preserved
loop-byte-preserved c =
    string_more c.args.out.now.items c.loop-byte.out.items c.push_escaped.new.out.items c.args.string.now c.loop-byte.byte-index c.loop-byte.invariant
    c.loop-byte-test.true c.in_ok-push_escaped.ensures

pub returns : goal.returns
returns c =
    string_done c.args.out.now.items c.loop-byte.out.items c.push-2.new.self.items c.args.string.now c.loop-byte.byte-index c.loop-byte.invariant
    c.loop-byte-test.false c.in_ok-push-2.ensures.items
