-- Numbers of every kind are read again.
use Rattle.std.proofs.Common.{◌≡◌, ℕ, ℤ, ◌%◌, ◌^◌, ◌<◌, Bool, true, false, refl, ap, ◌∙◌, arith}
use Rattle.std.proofs.lemmas.Int.{ints, of_z-to_z}
use Rattle.std.specs.Prelude.{FitsSigned}
use Rattle.std.specs.Int.{w32, w64, cast_signed, cast_unsigned}
use Rattle.llb_ops.specs.Records.{int32, int64, flag}
use Rattle.llb_ops.specs.Writing.{bit}

-- what is read of a number is written as a number of 64 bits, of which the same is read
pub record Recodes {A : Type 0} (decode : ℕ → A) (encode : A → ℕ) : Type 0 where
  pub small : (v : ℕ) → encode (decode v) < 2 ^ 64
  pub same : (v : ℕ) → decode (encode (decode v)) ≡ decode v

abbrev pub from_signed : ℤ → ℕ
from_signed z = cast_unsigned w64 z

int64_code : (u : ℕ) → u < 2 ^ 64 → cast_unsigned w64 (cast_signed w64 u) ≡ u
int64_code u h = of_z-to_z w64 u h

-- what is read of a number as an int64 is written in 64 bits, of which the same is read
pub int64_recodes : Recodes int64 from_signed
int64_recodes = record {
  small = λ v. let fits : v % 2 ^ 64 < 2 ^ 64 = omega arith in rw (int64_code (v % 2 ^ 64) fits) fits;
  same = λ v.
      let fits : v % 2 ^ 64 < 2 ^ 64 = omega arith in
      let again : (v % 2 ^ 64) % 2 ^ 64 ≡ v % 2 ^ 64 = omega arith in
      ap int64 (int64_code (v % 2 ^ 64) fits) ∙ ap (cast_signed w64) again;
}

int32_fits : (u : ℕ) → u < 2 ^ 32 → FitsSigned w32 (cast_signed w32 u)
int32_fits u h = omega (arith, ints)

int32_again : (z : ℤ) → FitsSigned w32 z → cast_signed w32 (cast_unsigned w64 z % 2 ^ 32) ≡ z
int32_again z h = grind (arith, ints)

int32_wide : (z : ℤ) → FitsSigned w32 z → cast_unsigned w64 z < 2 ^ 64
int32_wide z h = omega (arith, ints)

-- what is read of a number as an int32 or an enum is written in 64 bits, of which the same is read
pub int32_recodes : Recodes int32 from_signed
int32_recodes = record {
  small = λ v. int32_wide (int32 v) (int32_fits (v % 2 ^ 32) (omega arith));
  same = λ v. int32_again (int32 v) (int32_fits (v % 2 ^ 32) (omega arith));
}

bit_small : (b : Bool) → bit b < 2 ^ 64
bit_small true = omega arith
bit_small false = omega arith

flag_bit : (b : Bool) → flag (bit b) ≡ b
flag_bit true = refl
flag_bit false = refl

-- what is read of a number as a flag is written as 0 or 1, of which the same is read
pub flag_recodes : Recodes flag bit
flag_recodes = record {
  small = λ v. bit_small (flag v);
  same = λ v. flag_bit (flag v);
}
