-- Lines that bytes spell: more lines after them, one more byte, and how many they are.
use Rattle.std.proofs.Common.{◌≡◌, ◌≢◌, ℕ, ◌+◌, ◌≤◌, List, [], ◌∷◌, ◌++◌, length, refl, sym, ap, ◌∙◌, append_assoc, append-nil, length-append, arith}
use Rattle.std.proofs.lemmas.List.Elements.{All-nil, All-cons, All-push, All-append}
use Rattle.llb_session.specs.Conversation.{IsLine, with_line_ends, Spelled}

pub with_line_ends-append : (ls ms : List (List ℕ)) → with_line_ends (ls ++ ms) ≡ with_line_ends ls ++ with_line_ends ms
with_line_ends-append [] ms = refl
with_line_ends-append (l ∷ ls) ms = ap (λ e. l ++ 10 ∷ e) (with_line_ends-append ls ms) ∙ sym (append_assoc l (10 ∷ with_line_ends ls) (with_line_ends ms))

-- what is begun after some lines is ended and begun anew by more bytes
pub Spelled-more : (ls ms : List (List ℕ)) (line rest bytes more : List ℕ)
    → Spelled ls line bytes → Spelled ms rest (line ++ more) → Spelled (ls ++ ms) rest (bytes ++ more)
Spelled-more ls ms line rest bytes more a b = record {
  are =
      ap (λ x. x ++ more) a.are ∙ append_assoc (with_line_ends ls) line more ∙ ap (λ x. with_line_ends ls ++ x) b.are
      ∙ sym (append_assoc (with_line_ends ls) (with_line_ends ms) rest)
      ∙ ap (λ x. x ++ rest) (sym (with_line_ends-append ls ms));
  each = All-append IsLine ls ms a.each b.each;
  begun = b.begun;
}

-- no byte more
pub Spelled-none : (line : List ℕ) → IsLine line → Spelled [] line (line ++ [])
Spelled-none line is = record { are = append-nil line; each = All-nil IsLine; begun = is }

-- a byte that does not end the line
pub Spelled-byte : (line : List ℕ) (b : ℕ) → IsLine line → b ≢ 10 → Spelled [] (line ++ b ∷ []) (line ++ b ∷ [])
Spelled-byte line b is other = record { are = refl; each = All-nil IsLine; begun = All-push (λ x. x ≢ 10) line b is other }

-- a byte that does
pub Spelled-end : (line : List ℕ) → IsLine line → Spelled (line ∷ []) [] (line ++ 10 ∷ [])
Spelled-end line is = record {
  are = sym (append-nil (line ++ 10 ∷ []));
  each = All-cons IsLine line [] is (All-nil IsLine);
  begun = All-nil (λ x. x ≢ 10);
}

few_with_ends : (ls : List (List ℕ)) → length ls ≤ length (with_line_ends ls)
few_with_ends [] = omega arith
few_with_ends (l ∷ ls) = omega (arith, few_with_ends ls, length-append l (10 ∷ with_line_ends ls))

-- no more lines than bytes
pub few_lines : (ls : List (List ℕ)) (rest bytes : List ℕ) → Spelled ls rest bytes → length ls + length rest ≤ length bytes
few_lines ls rest bytes a = omega (arith, few_with_ends ls, ap length a.are, length-append (with_line_ends ls) rest)
