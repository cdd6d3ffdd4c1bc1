-- The order of the keys without the last row.
use Rattle.std.proofs.Common.{◌≡◌, ◌≢◌, ℕ, zero, suc, ◌+◌, ◌<◌, ◌≤◌, true, false, List, [], ◌∷◌, length, take, remove}
use Rattle.std.proofs.Common.{refl, sym, ap, ◌∙◌, subst, inl, inr, ◌⊎◌, arith, true≢false}
use Rattle.std.specs.List.{IsDistinct, AllByRecursion}
use Rattle.std.specs.Map.{keys_of}
use Rattle.std.specs.declared.cmp.Ordering.{Ordering}
use Rattle.std.specs.declared.cmp.Ordering.TheVariants.{Less, Equal, Greater}
use Rattle.std.specs.Ordering.{is_lt, is_eq}
use Rattle.std.specs.Cmp.{eq_by_cmp_equiv}
use Rattle.std.proofs.lemmas.Bool.{cases_lt}
use Rattle.std.proofs.lemmas.List.{length-take-le}
use Rattle.std.proofs.lemmas.List.Edits.{length-remove, get_or-remove_below, get_or-remove_above}
use Rattle.llb_cache.specs.declared.key.Key.{Key}
use Rattle.llb_cache.specs.Key.{same_key}
use Rattle.llb_cache.specs.KeyOrder.{key_cmp}
use Rattle.llb_cache.proofs.KeyOrder.{key_cmp-IsTotalOrder}
use Rattle.llb_cache.specs.Caches.{Row}
use Rattle.llb_cache.specs.RowOrder.{key_at, row_at, is_before, IsOrdered, IsPlace}

not_both : (o : Ordering) → is_eq o ≡ true → is_lt o ≡ true → ⊥
not_both Less same less = absurd (true≢false (sym same))
not_both Equal same less = absurd (true≢false (sym less))
not_both Greater same less = absurd (true≢false (sym same))

not_before_itself : (k : Key) → is_lt (key_cmp k k) ≡ true → ⊥
not_before_itself k less = not_both (key_cmp k k) ((eq_by_cmp_equiv key_cmp-IsTotalOrder).refl k) less

-- ---- the place of the last row

-- a row is at one place of the order
one_place : (es : List Row) (order : List ℕ) (i j : ℕ) → IsOrdered es order → i < j → j < length order → row_at order i ≡ row_at order j → ⊥
one_place es order i j is low below same =
    not_before_itself (key_at es (row_at order j)) (ap (λ n. is_before es n (key_at es (row_at order j))) (sym same) ∙ is.rising i j low below)

-- the search for the key of a row ends at its place
pub found_at : (es : List Row) (order : List ℕ) (n place : ℕ) → IsOrdered es order → n < length es → IsPlace es order (key_at es n) place
    → (place < length order) × (row_at order place ≡ n)
found_at es order n place is below at = go (is.each n below)
  where
    go : (j : ℕ) × (j < length order) × (row_at order j ≡ n) → (place < length order) × (row_at order place ≡ n)
    go (j, within, row) = elim (cases_lt j place) [
      | inl low ↦ absurd (not_before_itself (key_at es n) (ap (λ m. is_before es m (key_at es n)) (sym row) ∙ at.before j low))
      | inr high ↦ elim (cases_lt place j) [
        | inl past ↦ absurd (true≢false (sym (is.rising place j past within) ∙ ap (λ m. is_before es (row_at order place) (key_at es m)) row
            ∙ at.behind place (omega arith) (omega (arith, past, within))))
        | inr end ↦ let here : j ≡ place = omega (arith, high, end) in (omega (arith, within, here), ap (row_at order) (sym here) ∙ row)
      ]
    ]

-- ---- all rows but the last

keys_front : (es : List Row) (n : ℕ) → keys_of (take n es) ≡ take n (keys_of es)
keys_front es zero = refl
keys_front [] (suc n) = refl
keys_front (e ∷ es) (suc n) = ap (λ ks. e.0 ∷ ks) (keys_front es n)

all_front : {A : Type 0} (P : A → Type 0) (xs : List A) (n : ℕ) → AllByRecursion P xs → AllByRecursion P (take n xs)
all_front P xs zero all = tt
all_front P [] (suc n) all = tt
all_front P (x ∷ xs) (suc n) all = (all.0, all_front P xs n all.1)

distinct_front : (ks : List Key) (n : ℕ) → IsDistinct same_key ks → IsDistinct same_key (take n ks)
unfolding IsDistinct
distinct_front ks zero distinct = tt
distinct_front [] (suc n) distinct = tt
distinct_front (k ∷ ks) (suc n) distinct = (all_front (λ l. same_key k l ≡ false) ks n distinct.0, distinct_front ks n distinct.1)

key_front : (es : List Row) (n i : ℕ) → i < n → key_at (take n es) i ≡ key_at es i
key_front es zero i below = absurd (omega (arith, below))
key_front [] (suc n) i below = refl
key_front (e ∷ es) (suc n) zero below = refl
key_front (e ∷ es) (suc n) (suc i) below = key_front es n i (omega (arith, below))

-- ---- the order without the place of the last row

module _ (es : List Row) (order : List ℕ) (n place : ℕ) (is : IsOrdered es order) (long : length es ≡ n + 1) (within : place < length order)
    (last : row_at order place ≡ n) where
  less : List ℕ
  less = remove order place

  count : length (remove order place) + 1 ≡ length order
  count = length-remove order place within

  -- a place that is left, and where it was
  abbrev Was : ℕ → Type 0
  Was x = (y : ℕ) × (y < length order) × (row_at (remove order place) x ≡ row_at order y) × (((x < place) × (y ≡ x)) ⊎ ((place ≤ x) × (y ≡ x + 1)))

  was : (x : ℕ) → x < length (remove order place) → Was x
  was x below = elim (cases_lt x place) [
    | inl low ↦ (x, omega (arith, low, within), get_or-remove_below order place 0 x low within, inl (low, refl))
    | inr high ↦ (x + 1, omega (arith, below, count), get_or-remove_above order place 0 x high within, inr (high, refl))
  ]

  -- its row is not the last one
  old_row : (y : ℕ) → y < length order → row_at order y < n + 1 → y ≢ place → row_at order y < n
  old_row y below row other = elim (cases_lt (row_at order y) n) [
    | inl low ↦ low
    | inr high ↦
        let same : row_at order y ≡ row_at order place = (let e : row_at order y ≡ n = omega (arith, high, row) in e) ∙ sym last in
        absurd (elim (cases_lt y place) [
          | inl low ↦ one_place es order y place is low within same
          | inr past ↦ elim (cases_lt place y) [
            | inl up ↦ one_place es order place y is up below (sym same)
            | inr end ↦ other (omega (arith, past, end))
          ]
        ])
  ]

  apart : (x y : ℕ) → (((x < place) × (y ≡ x)) ⊎ ((place ≤ x) × (y ≡ x + 1))) → y ≢ place
  apart x y (inl h) e = absurd (omega (arith, h.0, h.1, e))
  apart x y (inr h) e = absurd (omega (arith, h.0, h.1, e))

  row_of : (x : ℕ) → (w : Was x) → row_at (remove order place) x < n
  row_of x (y, below, row, shift) =
      let at = old_row y below (let h = is.within y below in omega (arith, h, long)) (apart x y shift) in
      omega (arith, row, at)

  key_of : (x : ℕ) → (w : Was x) → key_at (take n es) (row_at (remove order place) x) ≡ key_at es (row_at order w.0)
  key_of x w = key_front es n (row_at (remove order place) x) (row_of x w) ∙ ap (key_at es) w.2

  shifted : (i j y z : ℕ) → i < j → (((i < place) × (y ≡ i)) ⊎ ((place ≤ i) × (y ≡ i + 1))) → (((j < place) × (z ≡ j)) ⊎ ((place ≤ j) × (z ≡ j + 1)))
      → y < z
  shifted i j y z low (inl a) (inl b) = omega (arith, low, a.1, b.1)
  shifted i j y z low (inl a) (inr b) = omega (arith, low, a.1, b.1)
  shifted i j y z low (inr a) (inl b) = absurd (omega (arith, low, a.0, b.0))
  shifted i j y z low (inr a) (inr b) = omega (arith, low, a.1, b.1)

  there : (i : ℕ) → i < n → (j : ℕ) × (j < length order) × (row_at order j ≡ i)
      → (j : ℕ) × (j < length (remove order place)) × (row_at (remove order place) j ≡ i)
  there i low (j, below, row) = elim (cases_lt j place) [
    | inl under ↦ (j, omega (arith, under, within, count), get_or-remove_below order place 0 j under within ∙ row)
    | inr high ↦ elim (cases_lt place j) [
      | inl past ↦ above j below row past
      | inr end ↦
          let same : j ≡ place = omega (arith, high, end) in
          let e : n ≡ i = sym last ∙ ap (row_at order) (sym same) ∙ row in absurd (omega (arith, low, e))
    ]
  ]
    where
      above : (j : ℕ) → j < length order → row_at order j ≡ i → place < j
          → (k : ℕ) × (k < length (remove order place)) × (row_at (remove order place) k ≡ i)
      above zero below row past = absurd (omega (arith, past))
      above (suc k) below row past =
          let next : k + 1 ≡ suc k = omega arith in
          (k, omega (arith, below, count), get_or-remove_above order place 0 k (omega (arith, past)) within ∙ ap (row_at order) next ∙ row)

  pub ordered_less : IsOrdered (take n es) (remove order place)
  ordered_less = record {
    distinct = subst (IsDistinct same_key) (sym (keys_front es n)) (distinct_front (keys_of es) n is.distinct);
    within = λ j below. let row = row_of j (was j below) in let len = length-take-le n es (omega (arith, long)) in omega (arith, row, len);
    each = λ i below. let len = length-take-le n es (omega (arith, long)) in
        let low : i < n = omega (arith, below, len) in there i low (is.each i (omega (arith, low, long)));
    rising = λ i j low below.
        let a = was i (omega (arith, low, below)) in
        let b = was j below in
        (λ t. is_lt (key_cmp (key_of i a t) (key_of j b t))) ∙ is.rising a.0 b.0 (shifted i j a.0 b.0 low a.3 b.3) b.1;
  }

-- the rows and their order without the last row
pub ordered_popped : (es : List Row) (order : List ℕ) (n place : ℕ) → IsOrdered es order → length es ≡ n + 1 → IsPlace es order (key_at es n) place
    → IsOrdered (take n es) (remove order place)
ordered_popped es order n place is long at =
    let f = found_at es order n place is (omega (arith, long)) at in
    ordered_less es order n place is long f.0 f.1
