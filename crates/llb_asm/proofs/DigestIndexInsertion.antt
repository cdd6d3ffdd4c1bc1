-- An index of the first place of each text, with a text more.
use Rattle.std.proofs.Common.{◌≡◌, ◌≢◌, refl, sym, ap, ◌∙◌, ℕ, ◌+◌, ◌<◌, ◌≤◌, Bool, true, false, cond, not, List, [], ◌∷◌, ◌++◌, length}
use Rattle.std.proofs.Common.{Option, Some, None, inl, inr, arith, length-append}
use Rattle.std.specs.Prelude.{nat_lt, is_some, codes}
use Rattle.std.specs.Borrow.{Bor}
use Rattle.std.specs.Option.{option_copied}
use Rattle.std.specs.List.{prefix_len, position}
use Rattle.std.specs.Map.{update}
use Rattle.std.specs.Str.{bytes_eq}
use Rattle.std.proofs.lemmas.Bool.{cases_eq, cases_Bool, lt-ltb, le-ltb, eq-eqb, ne_eqb}
use Rattle.std.proofs.lemmas.List.Folds.{prefix_len-append}
use Rattle.std.proofs.lemmas.List.Sums.{prefix_len-le-length}
use Rattle.std.proofs.lemmas.Slice.Eq.{bytes_eq-Decides}
use Rattle.llb_asm.specs.FieldValueTexts.{string_text}
use Rattle.llb_wire.specs.TextComparison.{is_text}
use Rattle.llb_asm.specs.DisassembledText.{label_for, labelled_text, string_for}

-- ---- the first place in a list

module _ {A : Type 0} (p : A → Bool) where
  found_at : (xs : List A) (n : ℕ) → prefix_len (λ x. not (p x)) xs ≡ n → n < length xs → position p xs ≡ Some n
  found_at xs n is less = ap (λ k. cond (nat_lt k (length xs)) (Some k) None) is ∙ ap (λ b. cond b (Some n) None) (lt-ltb n (length xs) less)

  found_not : (xs : List A) (n : ℕ) → prefix_len (λ x. not (p x)) xs ≡ n → length xs ≤ n → position p xs ≡ None
  found_not xs n is more = ap (λ k. cond (nat_lt k (length xs)) (Some k) None) is ∙ ap (λ b. cond b (Some n) None) (le-ltb n (length xs) more)

  pub found_some : (xs : List A) → prefix_len (λ x. not (p x)) xs ≢ length xs → position p xs ≡ Some (prefix_len (λ x. not (p x)) xs)
  found_some xs other = let most = prefix_len-le-length (λ x. not (p x)) xs in found_at xs (prefix_len (λ x. not (p x)) xs) refl (omega arith)

  -- it is found before the item after, or there, or not at all
  pub found_before : (xs : List A) (x : A) → prefix_len (λ x. not (p x)) xs ≢ length xs → position p (xs ++ x ∷ []) ≡ position p xs
  found_before xs x other =
      let n = prefix_len (λ x. not (p x)) xs in
      let most : n ≤ length xs = prefix_len-le-length (λ x. not (p x)) xs in
      let less : n < length xs = omega arith in
      let whole : length (xs ++ x ∷ []) ≡ length xs + 1 = length-append xs (x ∷ []) in
      let same : prefix_len (λ x. not (p x)) (xs ++ x ∷ []) ≡ n =
      prefix_len-append (λ x. not (p x)) xs (x ∷ []) ∙ ap (λ b. cond b (length xs + prefix_len (λ x. not (p x)) (x ∷ [])) n) (ne_eqb n (length xs) other) in
      found_at (xs ++ x ∷ []) n same (omega arith) ∙ sym (found_at xs n refl less)

  module _ (xs : List A) (x : A) (none : prefix_len (λ x. not (p x)) xs ≡ length xs) where
    later : prefix_len (λ x. not (p x)) (xs ++ x ∷ []) ≡ length xs + cond (not (p x)) 1 0
    later =
        prefix_len-append (λ x. not (p x)) xs (x ∷ [])
        ∙ ap (λ b. cond b (length xs + cond (not (p x)) 1 0) (prefix_len (λ x. not (p x)) xs)) (eq-eqb (prefix_len (λ x. not (p x)) xs) (length xs) none)

    pub found_last : p x ≡ true → position p (xs ++ x ∷ []) ≡ Some (length xs)
    found_last is =
        let whole : length (xs ++ x ∷ []) ≡ length xs + 1 = length-append xs (x ∷ []) in
        found_at (xs ++ x ∷ []) (length xs) (later ∙ ap (λ b. length xs + cond (not b) 1 0) is ∙ omega arith) (omega arith)

    pub found_nowhere : p x ≡ false → position p (xs ++ x ∷ []) ≡ None
    found_nowhere is =
        let whole : length (xs ++ x ∷ []) ≡ length xs + 1 = length-append xs (x ∷ []) in
        found_not (xs ++ x ∷ []) (length xs + 1) (later ∙ ap (λ b. length xs + cond (not b) 1 0) is) (omega arith)

    pub nowhere_before : position p xs ≡ None
    nowhere_before = found_not xs (length xs) none (omega arith)

-- ---- the first place of a text

is_none : (o : Option ℕ) → is_some o ≡ false → o ≡ None
is_none None e = refl
is_none (Some k) e = absurd cc

-- what is lent is there as what is copied
pub copied_some : (o : Option (Bor ℕ)) → is_some (option_copied o) ≡ is_some o
copied_some None = refl
copied_some (Some x) = refl

other_text : (d t : List ℕ) → d ≢ t → is_text d t ≡ false
other_text d t other = elim (cases_Bool (bytes_eq d t)) [ inl same ↦ absurd (other ((bytes_eq-Decides d t).0 same)) | inr apart ↦ apart ]

module _ (texts : List (List ℕ)) (t : List ℕ) where
  -- a text that is found stays where it is
  stays : (d : List ℕ) (k : ℕ) → label_for texts d ≡ Some k → label_for (texts ++ t ∷ []) d ≡ Some k
  stays d k is = found_before (is_text d) texts t (λ none. let no = nowhere_before (is_text d) texts t none in cc) ∙ is

  -- a text that is not the new one has the label that it had
  apart : (d : List ℕ) → is_text d t ≡ false → label_for (texts ++ t ∷ []) d ≡ label_for texts d
  apart d other = elim (cases_eq (prefix_len (λ x. not (is_text d x)) texts) (length texts)) [
    | inl none ↦ found_nowhere (is_text d) texts t none other ∙ sym (nowhere_before (is_text d) texts t none)
    | inr some ↦ found_before (is_text d) texts t some
  ]

  -- the text itself, where it was not found
  here : label_for texts t ≡ None → label_for (texts ++ t ∷ []) t ≡ Some (length texts)
  here none = elim (cases_eq (prefix_len (λ x. not (is_text t x)) texts) (length texts)) [
    | inl last ↦ found_last (is_text t) texts t last ((bytes_eq-Decides t t).1 refl)
    | inr some ↦ absurd (let at = found_some (is_text t) texts some in cc)
  ]

  -- the index with a text that is new, and its place
  pub index_new : (look look' : List ℕ → Option ℕ) → ((d : List ℕ) → look d ≡ label_for texts d) → is_some (look t) ≡ false
      → ((d : List ℕ) → look' d ≡ update bytes_eq look t (Some (length texts)) d) → (d : List ℕ) → look' d ≡ label_for (texts ++ t ∷ []) d
  index_new look look' is fresh updated d = updated d ∙ elim (cases_Bool (bytes_eq t d)) [
    | inl same ↦ (
        let e : t ≡ d = (bytes_eq-Decides t d).0 same in
        ap (λ b. cond b (Some (length texts)) (look d)) same ∙ sym (here (is_none (label_for texts t) (ap is_some (sym (is t)) ∙ fresh)))
        ∙ ap (label_for (texts ++ t ∷ [])) e)
    | inr other ↦ (
        let x : is_text d t ≡ false = other_text d t (λ e. let y : bytes_eq t d ≡ true = (bytes_eq-Decides t d).1 (sym e) in cc) in
        ap (λ b. cond b (Some (length texts)) (look d)) other ∙ is d ∙ sym (apart d x))
  ]

  -- the index where the text is found
  pub index_old : (look : List ℕ → Option ℕ) → ((d : List ℕ) → look d ≡ label_for texts d) → is_some (look t) ≡ true → (d : List ℕ)
      → look d ≡ label_for (texts ++ t ∷ []) d
  index_old look is old d = elim (cases_Bool (bytes_eq d t)) [
    | inl same ↦ (let e : d ≡ t = (bytes_eq-Decides d t).0 same in at (look d) refl (ap (λ x. is_some (look x)) e ∙ old))
    | inr other ↦ is d ∙ sym (apart d other)
  ]
    where
      at : (o : Option ℕ) → look d ≡ o → is_some (look d) ≡ true → look d ≡ label_for (texts ++ t ∷ []) d
      at None e some = absurd (let no : false ≡ true = sym (ap is_some e) ∙ some in cc)
      at (Some k) e some = e ∙ sym (stays d k (sym (is d) ∙ e))

-- ---- a string that is no label

-- a string that is the digest of no earlier entry is written between quotes, in any field
pub no_label : (labels : List (List ℕ)) (name text : List ℕ) → label_for labels text ≡ None → string_for labels name text ≡ string_text text
no_label labels name text none = go (is_text name (codes "digest"))
  where
    go : (b : Bool) → labelled_text text (cond b (label_for labels text) None) ≡ string_text text
    go true = ap (labelled_text text) none
    go false = refl

-- a string in a field that is not named `digest` is written between quotes
pub other_name : (labels : List (List ℕ)) (name text : List ℕ) → is_text name (codes "digest") ≡ false → string_for labels name text ≡ string_text text
other_name labels name text other = ap (λ b. labelled_text text (cond b (label_for labels text) None)) other
