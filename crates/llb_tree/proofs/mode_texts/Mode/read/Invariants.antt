use Rattle.std.proofs.Common.{◌≡◌, ◌<◌, ◌^◌, ◌+◌, ◌*◌, ◌-◌, drop, fold}
use Rattle.std.specs.List.{list_all}
use Rattle.llb_tree.specs.ModeTexts.{is_octal_digit, octal}
use Rattle.llb_tree.proofs.mode_texts.Mode.read.Given as goal

abbrev pub invariant-loop-digit : goal.invariant-loop-digit
invariant-loop-digit l = record {
  small : l.bits < 8 ^ l.digit-index;
  number : fold (λ n b. 8 * n + (b - 48)) l.bits (drop l.digit-index l.digits) ≡ octal l.digits;
  digits : list_all is_octal_digit (drop l.digit-index l.digits) ≡ list_all is_octal_digit l.digits;
}
