-- A text of lines, one after another, each the line of an item of a list.
use Rattle.std.proofs.Common.{◌≡◌, ℕ, zero, suc, ◌+◌, ◌≤◌, Bool, List, [], ◌∷◌, ◌++◌, length, take, drop, refl, sym, ap, subst, ◌∙◌, add-one, arith}
use Rattle.std.specs.Prelude.{Option, Some, None, Result, Ok, Err, slice_get}
use Rattle.std.specs.List.{flat_map, enumerate_from}
use Rattle.std.specs.Io.KnownBytes.{Appends}
use Rattle.std.proofs.lemmas.Grind.{flat_map-append}
use Rattle.std.proofs.lemmas.List.{append-nil}
use Rattle.std.proofs.KnownBytes.{Appends-trans}
use Rattle.llb_wire.proofs.ConsecutiveTexts.{part_then, part_after}
use Rattle.llb_commands.specs.WrittenPrefix.{Writes}

module _ {A : Type 0} where
  -- the item at a place is between those before it and those after
  split_here : (es : List A) (at : ℕ) (e : A) → slice_get es at ≡ Some e → es ≡ take at es ++ (e ∷ drop (suc at) es)
  split_here [] zero e there = absurd cc
  split_here [] (suc at) e there = absurd cc
  split_here (x ∷ es) zero e there = let same : x ≡ e = cc in ap (λ y. y ∷ es) same
  split_here (x ∷ es) (suc at) e there = ap (λ ys. x ∷ ys) (split_here es at e there)

  take_more : (es : List A) (at : ℕ) (e : A) → slice_get es at ≡ Some e → take (suc at) es ≡ take at es ++ (e ∷ [])
  take_more [] zero e there = absurd cc
  take_more [] (suc at) e there = absurd cc
  take_more (x ∷ es) zero e there = let same : x ≡ e = cc in ap (λ y. y ∷ []) same
  take_more (x ∷ es) (suc at) e there = ap (λ ys. x ∷ ys) (take_more es at e there)

  -- where nothing is, nothing more is
  no_more : (es : List A) (at : ℕ) → slice_get es at ≡ None → take (at + 1) es ≡ take at es
  no_more es at none = ap (λ k. take k es) (add-one at) ∙ go es at none
    where
      go : (es : List A) (at : ℕ) → slice_get es at ≡ None → take (suc at) es ≡ take at es
      go [] zero none = refl
      go [] (suc at) none = refl
      go (x ∷ es) zero none = absurd cc
      go (x ∷ es) (suc at) none = ap (λ ys. x ∷ ys) (go es at none)

  numbered_from : (es : List A) (n at : ℕ) (e : A) → slice_get es at ≡ Some e → Some (n + at, e) ≡ slice_get (enumerate_from n es) at
  numbered_from [] n zero e there = absurd cc
  numbered_from [] n (suc at) e there = absurd cc
  numbered_from (x ∷ es) n zero e there =
      let same : x ≡ e = cc in
      let here : n + 0 ≡ n = omega arith in
      rw (here, same) refl
  numbered_from (x ∷ es) n (suc at) e there =
      let on : n + suc at ≡ n + 1 + at = omega arith in
      rw on (numbered_from es (n + 1) at e there)

  -- the item at a place, under its number
  pub numbered_at : (es : List A) (at : ℕ) (e : A) → slice_get es at ≡ Some e → Some (at, e) ≡ slice_get (enumerate_from 0 es) at
  numbered_at es at e there =
      let all : 0 + at ≡ at = omega arith in
      subst (λ k. Some (k, e) ≡ slice_get (enumerate_from 0 es) at) all (numbered_from es 0 at e there)

  pub all_taken : (es : List A) (at : ℕ) → length es ≤ at → take at es ≡ es
  all_taken [] zero le = refl
  all_taken [] (suc at) le = refl
  all_taken (x ∷ es) zero le = absurd (omega arith)
  all_taken (x ∷ es) (suc at) le = ap (λ ys. x ∷ ys) (all_taken es at (omega arith))

-- a prefix is written, and a part of what comes next
pub stops_inside : {F : Type 0} (is_memory : F → Bool) (a b c : Option (List ℕ)) (failed : Bool) (front line rest : List ℕ) (e : F)
    → Appends a b front → Writes is_memory b c failed line (Err e) → Writes is_memory a c failed (front ++ (line ++ rest)) (Err e)
stops_inside is_memory a b c failed front line rest e before part = (part.0, part_after a b c front (line ++ rest) before (part_then b c line rest part.1))

-- a text is written, and then the next, or a prefix of it
pub writes_after : {F : Type 0} (is_memory : F → Bool) (a b c : Option (List ℕ)) (failed : Bool) (text more : List ℕ)
    (r : Result (Unit {0}) F) → Appends a b text → Writes is_memory b c failed more r → Writes is_memory a c failed (text ++ more) r
writes_after is_memory a b c failed text more (Ok u) whole next = Appends-trans a b c text more whole next
writes_after is_memory a b c failed text more (Err e) whole next = (next.0, part_after a b c text more whole next.1)

-- what is a prefix of a text is one of a longer text
pub writes_part : {F : Type 0} (is_memory : F → Bool) (a b : Option (List ℕ)) (failed : Bool) (text more : List ℕ) (e : F)
    → Writes is_memory a b failed text (Err e) → Writes is_memory a b failed (text ++ more) (Err e)
writes_part is_memory a b failed text more e part = (part.0, part_then a b text more part.1)

module _ {A : Type 0} (line : A → List ℕ) where
  lines_split : (es : List A) (at : ℕ) (e : A) → slice_get es at ≡ Some e
      → flat_map line es ≡ flat_map line (take at es) ++ (line e ++ flat_map line (drop (suc at) es))
  lines_split es at e there = ap (flat_map line) (split_here es at e there) ∙ flat_map-append line (take at es) (e ∷ drop (suc at) es)

  pub lines_more : (es : List A) (at : ℕ) (e : A) → slice_get es at ≡ Some e → flat_map line (take (at + 1) es) ≡ flat_map line (take at es) ++ line e
  lines_more es at e there =
      ap (λ k. flat_map line (take k es)) (add-one at) ∙ ap (flat_map line) (take_more es at e there) ∙ flat_map-append line (take at es) (e ∷ [])
      ∙ ap (λ ys. flat_map line (take at es) ++ ys) (append-nil (line e))

  -- what is written where the line at a place is not
  pub prints_err : {F : Type 0} (is_memory : F → Bool) (es : List A) (at : ℕ) (e : A) (a b c : Option (List ℕ)) (failed : Bool) (fault : F)
      → Some e ≡ slice_get es at → Appends a b (flat_map line (take at es))
      → Writes is_memory b c failed (line e) (Err fault) → Writes is_memory a c failed (flat_map line es) (Err fault)
  prints_err is_memory es at e a b c failed fault there before part =
      subst (λ xs. Writes is_memory a c failed xs (Err fault)) (sym (lines_split es at e (sym there)))
      (stops_inside is_memory a b c failed (flat_map line (take at es)) (line e) (flat_map line (drop (suc at) es)) fault before part)

  -- where one more line is written
  pub prints_more : (es : List A) (at : ℕ) (e : A) (a b c : Option (List ℕ)) → Some e ≡ slice_get es at
      → Appends a b (flat_map line (take at es)) → Appends b c (line e) → Appends a c (flat_map line (take (at + 1) es))
  prints_more es at e a b c there before more =
      subst (Appends a c) (sym (lines_more es at e (sym there))) (Appends-trans a b c (flat_map line (take at es)) (line e) before more)

  pub prints_none : (es : List A) (at : ℕ) (a b : Option (List ℕ)) → None ≡ slice_get es at → Appends a b (flat_map line (take at es))
      → Appends a b (flat_map line (take (at + 1) es))
  prints_none es at a b none before = subst (λ xs. Appends a b (flat_map line xs)) (sym (no_more es at (sym none))) before

  -- past the last place, all lines are written
  pub prints_all : (es : List A) (at : ℕ) (a b : Option (List ℕ)) → length es ≤ at → Appends a b (flat_map line (take at es)) → Appends a b (flat_map line es)
  prints_all es at a b all before = subst (λ xs. Appends a b (flat_map line xs)) (all_taken es at all) before
