-- A line without blanks at its ends, a byte at a time.
use Rattle.std.proofs.Common.{◌≡◌, ℕ, true, false, List, [], ◌∷◌, ◌++◌, refl, sym, ap, ◌∙◌}
use Rattle.std.specs.Prelude.{reverse}
use Rattle.std.proofs.lemmas.List.{reverse-append, reverse-reverse}
use Rattle.llb_asm.specs.ItemLines.{is_blank, without_front, without_end}

-- a blank at the start of a line goes, and then the others after it
pub front_blank : (b : ℕ) (line : List ℕ) → is_blank b ≡ true → without_front (b ∷ line) ≡ without_front line
front_blank b line e = rw e refl

-- a line that begins with no blank loses nothing at its start
pub front_kept : (b : ℕ) (line : List ℕ) → is_blank b ≡ false → without_front (b ∷ line) ≡ b ∷ line
front_kept b line e = rw e refl

turned : (line : List ℕ) (b : ℕ) → reverse (line ++ b ∷ []) ≡ b ∷ reverse line
turned line b = reverse-append line (b ∷ [])

-- a blank at the end of a line goes, and then the others before it
pub end_blank : (line : List ℕ) (b : ℕ) → is_blank b ≡ true → without_end (line ++ b ∷ []) ≡ without_end line
end_blank line b e = ap (λ x. reverse (without_front x)) (turned line b) ∙ ap reverse (front_blank b (reverse line) e)

-- a line that ends with no blank loses nothing at its end
pub end_kept : (line : List ℕ) (b : ℕ) → is_blank b ≡ false → without_end (line ++ b ∷ []) ≡ line ++ b ∷ []
end_kept line b e =
    ap (λ x. reverse (without_front x)) (turned line b) ∙ ap reverse (front_kept b (reverse line) e)
    ∙ ap reverse (sym (turned line b)) ∙ reverse-reverse (line ++ b ∷ [])
