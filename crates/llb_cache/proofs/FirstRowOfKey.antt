-- The first row of a key, if it has one, and what a write of a key's trees changes.
use Rattle.std.proofs.Common.{◌≡◌, ℕ, zero, suc, ◌+◌, ◌<◌, Bool, true, false, cond, not, nat_lt, List, [], ◌∷◌, ◌++◌, length, Some, None, is_some}
use Rattle.std.proofs.Common.{position, slice_get, unwrap_or, refl, sym, ap, ◌∙◌, subst, arith, inl, inr, ◌⊎◌, lt-ltb, le-ltb, true≢false}
use Rattle.std.specs.List.{position_or_len}
use Rattle.std.specs.Map.{keys_of, values_of, lookup}
use Rattle.llb_tree.specs.Tree.{TreeMap}
use Rattle.llb_cache.specs.declared.key.Key.{Key}
use Rattle.llb_cache.specs.Key.{same_key}
use Rattle.llb_cache.specs.Caches.{Row, with_trees}
use Rattle.llb_cache.specs.FirstRowOfKey.{IsAbsent, IsFirst, set_trees}

pub first_or_none : (k : Key) (es : List Row) → IsAbsent k es ⊎ ((i : ℕ) × IsFirst k es i)
first_or_none k [] = inl tt
first_or_none k (e ∷ es) = go (same_key k e.0) refl (first_or_none k es)
  where
    go : (b : Bool) → same_key k e.0 ≡ b → IsAbsent k es ⊎ ((i : ℕ) × IsFirst k es i) → IsAbsent k (e ∷ es) ⊎ ((i : ℕ) × IsFirst k (e ∷ es) i)
    go true is rest = inr (0, is)
    go false is (inl none) = inl (is, none)
    go false is (inr f) = inr (suc f.0, (is, f.1))

pub first_within : (k : Key) (es : List Row) (i : ℕ) → IsFirst k es i → i < length es
first_within k [] i h = absurd h
first_within k (e ∷ es) zero h = omega arith
first_within k (e ∷ es) (suc i) h = omega (arith, first_within k es i h.1)

pub keys_long : (es : List Row) → length (keys_of es) ≡ length es
keys_long [] = refl
keys_long (e ∷ es) = ap suc (keys_long es)

-- ---- the position of a key

or_len_first : (k : Key) (es : List Row) (i : ℕ) → IsFirst k es i → position_or_len (same_key k) (keys_of es) ≡ i
or_len_first k [] i h = absurd h
or_len_first k (e ∷ es) zero h = ap (λ b. cond (not b) (1 + position_or_len (same_key k) (keys_of es)) 0) h
or_len_first k (e ∷ es) (suc i) h =
    ap (λ b. cond (not b) (1 + position_or_len (same_key k) (keys_of es)) 0) h.0 ∙ ap (λ n. 1 + n) (or_len_first k es i h.1) ∙ omega arith

or_len_absent : (k : Key) (es : List Row) → IsAbsent k es → position_or_len (same_key k) (keys_of es) ≡ length es
or_len_absent k [] h = refl
or_len_absent k (e ∷ es) h =
    ap (λ b. cond (not b) (1 + position_or_len (same_key k) (keys_of es)) 0) h.0 ∙ ap (λ n. 1 + n) (or_len_absent k es h.1) ∙ omega arith

pub place_first : (k : Key) (es : List Row) (i : ℕ) → IsFirst k es i → position (same_key k) (keys_of es) ≡ Some i
place_first k es i h =
    let within : i < length (keys_of es) = omega (arith, first_within k es i h, keys_long es) in
    ap (λ n. cond (nat_lt n (length (keys_of es))) (Some n) None) (or_len_first k es i h)
    ∙ ap (λ b. cond b (Some i) None) (lt-ltb i (length (keys_of es)) within)

pub place_absent : (k : Key) (es : List Row) → IsAbsent k es → position (same_key k) (keys_of es) ≡ None
place_absent k es h =
    ap (λ n. cond (nat_lt n (length (keys_of es))) (Some n) None) (or_len_absent k es h ∙ sym (keys_long es))
    ∙ ap (λ b. cond b (Some (length (keys_of es))) None) (le-ltb (length (keys_of es)) (length (keys_of es)) (omega arith))

none_is_some : {A : Type 0} {x : A} → None ≡ Some x → ⊥
none_is_some e = true≢false (sym (ap is_some e))

pub first_placed : (k : Key) (es : List Row) (i : ℕ) → position (same_key k) (keys_of es) ≡ Some i → IsFirst k es i
first_placed k es i e = elim (first_or_none k es) [
  | inl none ↦ absurd (none_is_some (sym (place_absent k es none) ∙ e))
  | inr f ↦ subst (IsFirst k es) (ap (λ o. unwrap_or o i) (sym (place_first k es f.0 f.1) ∙ e)) f.1
]

-- ---- the trees of the key

pub first_trees : (k : Key) (es : List Row) (i : ℕ) → IsFirst k es i → lookup (same_key k) es ≡ slice_get (values_of es) i
first_trees k [] i h = absurd h
first_trees k (e ∷ es) zero h = ap (λ b. cond b (Some e.1) (lookup (same_key k) es)) h
first_trees k (e ∷ es) (suc i) h = ap (λ b. cond b (Some e.1) (lookup (same_key k) es)) h.0 ∙ first_trees k es i h.1

pub first_found : (k : Key) (es : List Row) (i : ℕ) → IsFirst k es i → is_some (lookup (same_key k) es) ≡ true
first_found k [] i h = absurd h
first_found k (e ∷ es) zero h = ap (λ b. is_some (cond b (Some e.1) (lookup (same_key k) es))) h
first_found k (e ∷ es) (suc i) h = ap (λ b. is_some (cond b (Some e.1) (lookup (same_key k) es))) h.0 ∙ first_found k es i h.1

pub absent_trees : (k : Key) (es : List Row) → IsAbsent k es → lookup (same_key k) es ≡ None
absent_trees k [] h = refl
absent_trees k (e ∷ es) h = ap (λ b. cond b (Some e.1) (lookup (same_key k) es)) h.0 ∙ absent_trees k es h.1

pub absent_found : (k : Key) (es : List Row) → is_some (lookup (same_key k) es) ≡ false → IsAbsent k es
absent_found k es e = elim (first_or_none k es) [
  | inl none ↦ none
  | inr f ↦ absurd (true≢false (sym (first_found k es f.0 f.1) ∙ e))
]

-- ---- a write of its trees

pub written_first : (k : Key) (es : List Row) (i : ℕ) (w : List TreeMap) → IsFirst k es i → with_trees es k w ≡ set_trees es i w
written_first k [] i w h = absurd h
written_first k (e ∷ es) zero w h = ap (λ (b : Bool). cond b ((e.0, w) ∷ es) (e ∷ with_trees es k w)) h
written_first k (e ∷ es) (suc i) w h =
    ap (λ (b : Bool). cond b ((e.0, w) ∷ es) (e ∷ with_trees es k w)) h.0 ∙ ap (λ l. e ∷ l) (written_first k es i w h.1)

pub written_absent : (k : Key) (es : List Row) (w : List TreeMap) → IsAbsent k es → with_trees es k w ≡ es ++ (k, w) ∷ []
written_absent k [] w h = refl
written_absent k (e ∷ es) w h =
    ap (λ (b : Bool). cond b ((e.0, w) ∷ es) (e ∷ with_trees es k w)) h.0 ∙ ap (λ l. e ∷ l) (written_absent k es w h.1)
