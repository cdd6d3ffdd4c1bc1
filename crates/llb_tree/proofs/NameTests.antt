-- What a name is not, test by test, and what the code finds out about a text that may be one.
use Rattle.std.proofs.Common.{◌≡◌, ℕ, ◌≤◌, ◌==◌, nat_le, Bool, true, false, not, ◌&&◌, List, length, refl, sym, ◌∙◌}
use Rattle.std.proofs.lemmas.Bool.{leb-true, le-leb, and_parts}
use Rattle.std.proofs.lemmas.Str.{is_utf8-from_IsUtf8, IsUtf8-from_is_utf8}
use Rattle.std.specs.List.{list_all}
use Rattle.std.specs.Str.{IsUtf8, is_utf8}
use Rattle.llb_tree.specs.Path.{is_dot, is_dots, is_name, is_name_byte}

-- a text that passes the other tests is a name where its bytes are those of a name
pub name_by_bytes : (part : List ℕ) (plain : Bool) → (length part == 0) ≡ false → length part ≤ 255 → is_dot part ≡ false
    → is_dots part ≡ false → plain ≡ list_all is_name_byte part → IsUtf8 part → plain ≡ is_name part
name_by_bytes part plain some short dot dots is text =
    is ∙ sym (and_true (list_all is_name_byte part))
    ∙ sym (λ i. not (some i) && le-leb _ _ short i && not (dot i) && not (dots i) && list_all is_name_byte part && is_utf8-from_IsUtf8 part text i)
  where
    and_true : (b : Bool) → b && true ≡ b
    and_true true = refl
    and_true false = refl

untrue : (b : Bool) → not b ≡ true → b ≡ false
untrue true e = sym e
untrue false e = refl

-- the tests that a name has passed
pub record PassesTests (name : List ℕ) : Type 0 where
  pub some : (length name == 0) ≡ false
  pub dot : is_dot name ≡ false
  pub dots : is_dots name ≡ false
  pub plain : list_all is_name_byte name ≡ true
  pub text : is_utf8 name ≡ true

-- a name has passed each test by itself
pub passes_tests : (name : List ℕ) → is_name name ≡ true → PassesTests name
passes_tests name is =
    let text = and_parts _ (is_utf8 name) is in
    let all = and_parts _ (list_all is_name_byte name) text.0 in
    let dots = and_parts _ (not (is_dots name)) all.0 in
    let dot = and_parts _ (not (is_dot name)) dots.0 in
    let some = and_parts (not (length name == 0)) _ dot.0 in
    record { some = untrue _ some.0; dot = untrue _ dot.1; dots = untrue _ dots.1; plain = all.1; text = text.1 }

-- no byte of a name is a `/`
pub no_slash : (b : ℕ) → is_name_byte b ≡ true → (b == 47) ≡ false
no_slash b is = untrue _ (and_parts (nat_le 32 b && not (b == 127)) _ is).1

-- no byte of a name is below a space
pub from_space : (b : ℕ) → is_name_byte b ≡ true → 32 ≤ b
from_space b is = leb-true 32 b (and_parts (nat_le 32 b) _ (and_parts (nat_le 32 b && not (b == 127)) _ is).0).0

-- a name is a text
pub name-IsUtf8 : (name : List ℕ) → is_name name ≡ true → IsUtf8 name
name-IsUtf8 name is = IsUtf8-from_is_utf8 name (passes_tests name is).text
