-- One look at a row in the order says of all rows before it, or of all behind it, how they stand to a key.
use Rattle.std.proofs.Common.{◌≡◌, ℕ, ◌+◌, ◌<◌, ◌≤◌, true, false, List, length, refl, sym, ap, ◌∙◌, inl, inr, arith, true≢false}
use Rattle.std.specs.declared.cmp.Ordering.{Ordering}
use Rattle.std.specs.declared.cmp.Ordering.TheVariants.{Less, Equal, Greater}
use Rattle.std.specs.Ordering.{is_lt}
use Rattle.std.proofs.lemmas.Bool.{cases_lt, false_from_ne_true}
use Rattle.llb_cache.specs.declared.key.Key.{Key}
use Rattle.llb_cache.specs.KeyOrder.{key_cmp}
use Rattle.llb_cache.proofs.KeyOrder.{key_cmp-IsTotalOrder}
use Rattle.llb_cache.specs.Caches.{Row}
use Rattle.llb_cache.specs.RowOrder.{key_at, row_at, is_before, IsOrdered}

less : (o : Ordering) → is_lt o ≡ true → o ≡ Less
less Less e = refl
less Equal e = absurd (true≢false (sym e))
less Greater e = absurd (true≢false (sym e))

before_both : (a b k : Key) → is_lt (key_cmp a b) ≡ true → is_lt (key_cmp b k) ≡ true → is_lt (key_cmp a k) ≡ true
before_both a b k first second = ap is_lt (key_cmp-IsTotalOrder.trans a b k (less (key_cmp a b) first) (less (key_cmp b k) second))

pub all_before : (es : List Row) (order : List ℕ) (k : Key) (m : ℕ) → IsOrdered es order → m < length order → is_before es (row_at order m) k ≡ true
    → (j : ℕ) → j < m + 1 → is_before es (row_at order j) k ≡ true
all_before es order k m is within here j below = elim (cases_lt j m) [
  | inl low ↦ before_both (key_at es (row_at order j)) (key_at es (row_at order m)) k (is.rising j m low within) here
  | inr high ↦ ap (λ n. is_before es (row_at order n) k) (let e : j ≡ m = omega (arith, below, high) in e) ∙ here
]

pub none_behind : (es : List Row) (order : List ℕ) (k : Key) (m : ℕ) → IsOrdered es order → is_before es (row_at order m) k ≡ false
    → (j : ℕ) → m ≤ j → j < length order → is_before es (row_at order j) k ≡ false
none_behind es order k m is here j high within = elim (cases_lt m j) [
  | inl past ↦ false_from_ne_true (is_before es (row_at order j) k) (λ low. true≢false
      (sym (before_both (key_at es (row_at order m)) (key_at es (row_at order j)) k (is.rising m j past within) low) ∙ here))
  | inr end ↦ ap (λ n. is_before es (row_at order n) k) (let e : j ≡ m = omega (arith, high, end) in e) ∙ here
]
