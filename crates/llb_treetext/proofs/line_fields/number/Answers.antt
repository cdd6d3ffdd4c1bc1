-- One digit is taken from the start of those that are left.
use Rattle.std.proofs.Common.{sym, ap, ◌∙◌, arith}
use Rattle.llb_treetext.specs.LineFields.{number_from}
use Rattle.llb_treetext.proofs.Numbers.{number_next, number_stops, number_end}
use Rattle.llb_treetext.proofs.line_fields.number.Goals as goal

pub returns-then-value : goal.returns-then-value
returns-then-value c =
    sym (number_stops c.loop-byte.number c.loop-byte.byte-index c.saturating_sub.result c.as_bytes-byte-items.result.now
    c.loop-byte-test.true c.saturating_sub.ensures (omega arith))
    ∙ c.loop-byte.invariant ∙ ap (number_from 0) c.as_bytes-byte-items.ensures.value

pub loop-byte-preserved : goal.loop-byte-preserved
loop-byte-preserved c =
    sym (number_next c.loop-byte.number c.loop-byte.byte-index c.saturating_sub.result c.as_bytes-byte-items.result.now
    c.loop-byte-test.true c.saturating_sub.ensures (omega arith))
    ∙ c.loop-byte.invariant

pub returns : goal.returns
returns c =
    sym (number_end c.loop-byte.number c.loop-byte.byte-index c.as_bytes-byte-items.result.now c.loop-byte-test.false)
    ∙ c.loop-byte.invariant ∙ ap (number_from 0) c.as_bytes-byte-items.ensures.value
