-- Whether bytes are UTF-8.
use Rattle.std.proofs.Common.{◌≡◌, ℕ, Bool, true, false, List, refl}
use Rattle.std.specs.Str.{IsUtf8, is_utf8}
use Rattle.std.proofs.lemmas.Str.{IsUtf8-from_is_utf8, is_utf8-from_IsUtf8}

-- bytes that are UTF-8 pass the test for it
pub utf8_true : (bytes : List ℕ) → IsUtf8 bytes → is_utf8 bytes ≡ true
utf8_true bytes h = is_utf8-from_IsUtf8 bytes h

-- bytes that are not UTF-8 fail the test for it
pub utf8_false : (bytes : List ℕ) → ¬ (IsUtf8 bytes) → is_utf8 bytes ≡ false
utf8_false bytes h = go (is_utf8 bytes) refl where
  go : (b : Bool) → is_utf8 bytes ≡ b → is_utf8 bytes ≡ false
  go true e = absurd (h (IsUtf8-from_is_utf8 bytes e))
  go false e = e
