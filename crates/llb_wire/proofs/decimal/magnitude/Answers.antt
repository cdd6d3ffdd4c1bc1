use Rattle.std.proofs.Common.{◌≡◌, ◌<◌, length, true, sym, ◌∙◌, arith, get_or}
use Rattle.llb_wire.specs.Decimal.{is_digit}
use Rattle.llb_wire.proofs.DecimalDigits.{digits_more, value_more}
use Rattle.llb_wire.proofs.decimal.magnitude.Goals as goal

pub loop-byte-preserved : goal.loop-byte-preserved
loop-byte-preserved c =
    let inside : c.loop-byte.byte-index < length c.args.text.now = omega arith in
    let digit : is_digit (get_or c.args.text.now c.loop-byte.byte-index 0) ≡ true = sym c.is_ascii_digit.ensures.value ∙ c.if-not-is_ascii_digit.false in
    record {
      digits = digits_more _ _ inside digit c.loop-byte.invariant.digits;
      value =
          value_more _ _ inside digit _ _ _ _ c.loop-byte.invariant.value c.saturating_mul.ensures c.from.ensures c.saturating_add-number.ensures;
    }
