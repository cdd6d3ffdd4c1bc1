-- What a line asks for, by whether it is UTF-8.
use Rattle.std.proofs.Common.{◌≡◌, ℕ, Bool, true, false, cond, List, None, refl}
use Rattle.std.specs.Str.{IsUtf8, is_utf8}
use Rattle.std.proofs.lemmas.Str.{IsUtf8-from_is_utf8, is_utf8-from_IsUtf8}
use Rattle.llb_session.specs.declared.request.Looks.{Looks}
use Rattle.llb_session.specs.Request.{request_in, asked_in}

-- a line that is UTF-8 asks for what its text asks for
pub of_text : (looks : Looks) (line : List ℕ) → IsUtf8 line → asked_in looks line ≡ request_in looks line
of_text looks line is = rw (is_utf8-from_IsUtf8 line is) refl

-- a line that is not UTF-8 asks for nothing
pub of_none : (looks : Looks) (line : List ℕ) → (IsUtf8 line → ⊥) → None ≡ request_in looks line
of_none looks line none = by_test (is_utf8 line) refl
  where
    by_test : (b : Bool) → is_utf8 line ≡ b → None ≡ cond b (asked_in looks line) None
    by_test true is = absurd (none (IsUtf8-from_is_utf8 line is))
    by_test false is = refl
