-- The number of a text, and the result of reading it.
use Rattle.std.proofs.Common.{◌≡◌, ◌<◌, ◌^◌, ℕ, Bool, true, false, cond, List, Option, Some, None, arith, refl, sym, ap, ◌∙◌}
use Rattle.std.specs.Prelude.{Result, option_and_then}
use Rattle.std.specs.Str.Parse.{ExplainsUnsignedError, HasUnsignedDigitsIfOk, IsNumeral, ParsesUnsigned, digits_value, without_leading_plus}
use Rattle.std.specs.declared.num.ParseIntError.{ParseIntError}
use Rattle.clap.specs.ValueTests.{is_unsigned_in}
use Rattle.clap.specs.Words.{ReadsOne, Text}
use Rattle.clap.specs.declared.builder.value_parser.ValueParser.TheVariants.{Unsigned}
use Rattle.clap.proofs.ValueTestLemmas.{accepts-Accepts, Accepts-accepts}
use Rattle.llb_commands.specs.CommandLine.{number_of}

-- what `parse` says of a number of 32 bits
abbrev IsParse : List ℕ → Result ℕ ParseIntError → Type 0
IsParse bs r = ParsesUnsigned 32 10 bs r × ExplainsUnsignedError 10 bs r × HasUnsignedDigitsIfOk bs r

abbrev IsNumber : Text → Type 0
IsNumber t = IsNumeral 10 (without_leading_plus t) × (digits_value 10 (without_leading_plus t) < 2 ^ 32)

abbrev chosen : Text → Bool → Option ℕ
chosen t b = cond b (Some (digits_value 10 (without_leading_plus t))) None

number_some : (t : Text) → IsNumber t → number_of t ≡ Some (digits_value 10 (without_leading_plus t))
number_some t h = ap (chosen t) (Accepts-accepts false (Unsigned 0 4294967295) t (h.0, omega arith, omega arith, omega arith))

number_none : (t : Text) → (IsNumber t → ⊥) → number_of t ≡ None
number_none t fails = go (is_unsigned_in 0 4294967295 t) refl
  where
    go : (b : Bool) → is_unsigned_in 0 4294967295 t ≡ b → chosen t b ≡ None
    go true e = let h = accepts-Accepts false (Unsigned 0 4294967295) t e in absurd (fails (h.0, omega arith))
    go false e = refl

one_number : (t : Text) (r : Option ℕ) → ReadsOne IsParse t r → r ≡ number_of t
one_number t (Some n) h = ap Some h.0.1 ∙ sym (number_some t h.0.0)
one_number t None h = sym (number_none t h.1.0)

-- the number that is read of a word that may be there
pub number_read : (o : Option Text) (r : Option ℕ) → (o ≡ None → r ≡ None) → ((t : Text) → o ≡ Some t → ReadsOne IsParse t r) → r ≡ option_and_then number_of o
number_read None r none value = none refl
number_read (Some t) r none value = one_number t r (value t refl)
