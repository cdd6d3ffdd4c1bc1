use Rattle.std.proofs.Common.{◌≡◌, true, take}
use Rattle.std.specs.List.{list_all}
use Rattle.std.specs.Str.Parse.{digits_value}
use Rattle.llb_wire.specs.Decimal.{capped, is_digit}
use Rattle.llb_wire.proofs.decimal.magnitude.Given as goal

abbrev pub invariant-loop-byte : goal.invariant-loop-byte
invariant-loop-byte l = record {
  digits : list_all is_digit (take l.byte-index l.text) ≡ true;
  value : l.number ≡ capped (digits_value 10 (take l.byte-index l.text));
}
