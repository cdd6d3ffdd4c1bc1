-- Checks a text part by part: how its bytes are counted, and where its first bad place is.
use Rattle.std.proofs.Common.{◌≡◌, ℕ, suc, ◌+◌, ◌<◌, ◌==◌, Bool, true, false, not, cond, if◌then◌else◌, List, [], ◌∷◌, length, drop, get_or}
use Rattle.std.proofs.Common.{filter, Some, None, option_map, refl, sym, ap, ◌∙◌, add-one, drop-cons, ne_eqb, arith}
use Rattle.std.specs.List.{slice_split, onto_first, position}
use Rattle.std.specs.Option.{option_or}
use Rattle.llb_applet.specs.Words.{Word, placed, is_word, is_word_byte, is_separator, bad_in, called_after, bad_place}

-- the rest of a list from index i on is the element at i and then what follows it
pub at_drop : {A : Type 0} (xs : List A) (i : ℕ) (x : A) → i < length xs → x ≡ get_or xs i x → drop i xs ≡ x ∷ drop (i + 1) xs
at_drop xs i x inside is = rw add-one (drop-cons xs i x inside ∙ ap (λ y. y ∷ drop (suc i) xs) (sym is))

-- how many bytes parts have, with one more after each

abbrev pub spread : List (List ℕ) → ℕ
spread [] = 0
spread (part ∷ parts) = length part + 1 + spread parts

spread-onto : (b : ℕ) (parts : List (List ℕ)) (n : ℕ) → spread parts ≡ n + 1 → spread (onto_first b parts) ≡ n + 2
spread-onto b [] n e = absurd (omega arith)
spread-onto b (part ∷ parts) n e = omega arith

-- the parts of a text, counted so, have one byte more than the text
pub spread-split : (p : ℕ → Bool) (text : List ℕ) → spread (slice_split p text) ≡ length text + 1
spread-split p [] = omega arith
spread-split p (b ∷ text) = first (p b) (slice_split p text) (spread-split p text)
  where
    first : (yes : Bool) (parts : List (List ℕ)) → spread parts ≡ length text + 1 → spread (cond yes ([] ∷ parts) (onto_first b parts)) ≡ length (b ∷ text) + 1
    first true parts e = omega arith
    first false parts e = omega (arith, spread-onto b parts (length text) e)

-- the first bad position is the one in the first part, if this part has one, and else the first in the parts after it
pub at_part :
    (end : ℕ) (called : Bool) (at : ℕ) (part : List ℕ) (parts : List (List ℕ))
    → bad_place end called (filter is_word (placed at (part ∷ parts)))
    ≡ option_or (option_map (λ k. at + k) (bad_in called part))
    (bad_place end (called_after called part) (filter is_word (placed (at + length part + 1) parts)))
at_part end called at [] parts = refl
at_part end called at (b ∷ bs) parts =
    let some : (length (b ∷ bs) == 0) ≡ false = ne_eqb _ _ (omega arith) in
    let rest : List Word = filter is_word (placed (at + length (b ∷ bs) + 1) parts) in
    (λ i. bad_place end called (cond (not (some i)) (record { place = at; bytes = b ∷ bs } ∷ rest) rest))
    ∙ ap (λ q. option_or (option_map (λ k. at + k) (bad_in called (b ∷ bs))) (bad_place end (cond q called (not (is_separator (b ∷ bs)))) rest)) (sym some)

-- the first bad byte of a word that is no separator
pub bad_in-word : (called : Bool) (word : List ℕ) → is_separator word ≡ false → bad_in called word ≡ position (λ b. not (is_word_byte b)) word
bad_in-word called word is = ap (λ b. if b then (if called then None else Some 0) else position (λ b. not (is_word_byte b)) word) is

-- a bad position in the first part is the first bad position of all parts
pub bad_here :
    (end : ℕ) (called : Bool) (at : ℕ) (part : List ℕ) (parts : List (List ℕ)) (bad : ℕ)
    → bad_in called part ≡ Some bad
    → bad_place end called (filter is_word (placed at (part ∷ parts))) ≡ Some (at + bad)
bad_here end called at part parts bad is = at_part end called at part parts
    ∙ ap (λ b. option_or (option_map (λ k. at + k) b) (bad_place end (called_after called part) (filter is_word (placed (at + length part + 1) parts)))) is

-- if the first part has no bad position, the first bad position is that of the parts after it
pub bad_later :
    (end : ℕ) (called : Bool) (at : ℕ) (part : List ℕ) (parts : List (List ℕ))
    → bad_in called part ≡ None
    → bad_place end called (filter is_word (placed at (part ∷ parts))) ≡ bad_place end (called_after called part)
    (filter is_word (placed (at + length part + 1) parts))
bad_later end called at part parts is = at_part end called at part parts
    ∙ ap (λ b. option_or (option_map (λ k. at + k) b) (bad_place end (called_after called part) (filter is_word (placed (at + length part + 1) parts)))) is
