-- A search in the order of the keys finds the row of a key, and a row that is put at its place keeps the order.
use Rattle.std.proofs.Common.{◌≡◌, ℕ, zero, suc, ◌+◌, ◌<◌, ◌≤◌, true, false, ◌||◌, List, [], ◌∷◌, ◌++◌, length, insert, Some, None, position, is_some}
use Rattle.std.proofs.Common.{slice_get, slice_index_or, refl, sym, ap, ◌∙◌, subst, inl, inr, ◌⊎◌, arith, true≢false}
use Rattle.std.specs.List.{IsDistinct, list_any}
use Rattle.std.specs.Map.{keys_of, values_of, lookup}
use Rattle.std.specs.declared.cmp.Ordering.{Ordering}
use Rattle.std.specs.declared.cmp.Ordering.TheVariants.{Less, Equal, Greater}
use Rattle.std.specs.Ordering.{is_lt, is_eq, ordering_reverse}
use Rattle.std.specs.Cmp.{eq_by_cmp_equiv}
use Rattle.std.proofs.lemmas.Bool.{cases_lt, false_from_ne_true}
use Rattle.std.proofs.lemmas.List.Edits.{length-insert, get_or-insert_below, get_or-insert_at, get_or-insert_above}
use Rattle.std.proofs.lemmas.Map.Keys.{IsDistinct-push, IsDistinct-head, IsDistinct-tail}
use Rattle.llb_tree.specs.Tree.{TreeMap}
use Rattle.llb_cache.specs.declared.key.Key.{Key}
use Rattle.llb_cache.specs.Key.{same_key}
use Rattle.llb_cache.specs.KeyEquality.{same_keys, key_equiv}
use Rattle.llb_cache.specs.KeyOrder.{key_cmp}
use Rattle.llb_cache.proofs.KeyOrder.{key_cmp-IsTotalOrder, tie_is_same}
use Rattle.llb_cache.specs.Caches.{Row}
use Rattle.llb_cache.specs.FirstRowOfKey.{IsAbsent, IsFirst}
use Rattle.llb_cache.proofs.FirstRowOfKey.{keys_long, place_first, place_absent, first_trees, first_found, absent_trees}
use Rattle.llb_cache.specs.RowOrder.{no_key, key_at, row_at, is_before, IsOrdered, IsPlace}

-- ---- two keys

not_both : (o : Ordering) → is_eq o ≡ true → is_lt o ≡ true → ⊥
not_both Less same less = absurd (true≢false (sym same))
not_both Equal same less = absurd (true≢false (sym less))
not_both Greater same less = absurd (true≢false (sym same))

-- a key does not come before itself
not_before_itself : (k : Key) → is_lt (key_cmp k k) ≡ true → ⊥
not_before_itself k less = not_both (key_cmp k k) ((eq_by_cmp_equiv key_cmp-IsTotalOrder).refl k) less

turned : (o : Ordering) → is_lt o ≡ false → is_eq o ≡ false → is_lt (ordering_reverse o) ≡ true
turned Less low apart = absurd (true≢false low)
turned Equal low apart = absurd (true≢false apart)
turned Greater low apart = refl

-- of two keys that differ one comes before the other
comes_before : (k l : Key) → is_lt (key_cmp l k) ≡ false → same_key k l ≡ false → is_lt (key_cmp k l) ≡ true
comes_before k l low apart =
    ap is_lt (key_cmp-IsTotalOrder.antisymm k l) ∙ turned (key_cmp l k) low (tie_is_same l k ∙ key_equiv.symm l k ∙ apart)

-- ---- a key among rows by their numbers

all_absent : (k : Key) (es : List Row) → ((i : ℕ) → i < length es → same_key k (key_at es i) ≡ false) → IsAbsent k es
all_absent k [] each = tt
all_absent k (e ∷ es) each = (each 0 (omega arith), all_absent k es (λ i below. each (suc i) (omega (arith, below))))

absent_at : (k : Key) (es : List Row) (i : ℕ) → IsAbsent k es → i < length es → same_key k (key_at es i) ≡ false
absent_at k [] i none below = absurd (omega (arith, below))
absent_at k (e ∷ es) zero none below = none.0
absent_at k (e ∷ es) (suc i) none below = absent_at k es i none.1 (omega (arith, below))

-- where the keys differ, the row that has a key is the first that has it
first_at : (k : Key) (es : List Row) (i : ℕ) → IsDistinct same_key (keys_of es) → i < length es → same_key k (key_at es i) ≡ true → IsFirst k es i
first_at k [] i distinct below is = absurd (omega (arith, below))
first_at k (e ∷ es) zero distinct below is = is
first_at k (e ∷ es) (suc i) distinct below is = (
  false_from_ne_true (same_key k e.0) (λ same. true≢false
      (sym is ∙ ap (λ l. same_key l (key_at es i)) (same_keys k e.0 same)
      ∙ absent_at e.0 es i (IsDistinct-head same_key e.0 (keys_of es) distinct) (omega (arith, below)))),
  first_at k es i (IsDistinct-tail same_key e.0 (keys_of es) distinct) (omega (arith, below)) is,
)

-- a search that ends beside the key has shown that no row has it
pub none_here : (es : List Row) (order : List ℕ) (k : Key) (place : ℕ) → IsOrdered es order → IsPlace es order k place
    → (place < length order → same_key k (key_at es (row_at order place)) ≡ false) → IsAbsent k es
none_here es order k place is at miss = all_absent k es each
  where
    mine : (i : ℕ) → (j : ℕ) → j < length order → row_at order j ≡ i → same_key k (key_at es i) ≡ true → ⊥
    mine i j below row same =
        let key : k ≡ key_at es (row_at order j) = same_keys k (key_at es i) same ∙ ap (key_at es) (sym row) in
        elim (cases_lt j place) [
          | inl low ↦ not_before_itself k (ap (λ l. is_lt (key_cmp l k)) key ∙ at.before j low)
          | inr high ↦ elim (cases_lt place j) [
            | inl past ↦ true≢false (sym (is.rising place j past below) ∙ ap (λ l. is_before es (row_at order place) l) (sym key)
                ∙ at.behind place (omega arith) (omega (arith, past, below)))
            | inr end ↦
                let here : j ≡ place = omega (arith, high, end) in
                true≢false (sym same ∙ ap (λ n. same_key k (key_at es n)) (sym row ∙ ap (row_at order) here) ∙ miss (omega (arith, below, here)))
          ]
        ]

    each : (i : ℕ) → i < length es → same_key k (key_at es i) ≡ false
    each i below = let e = is.each i below in false_from_ne_true (same_key k (key_at es i)) (mine i e.0 e.1 e.2)

-- ---- what a search gives

-- the row of a key, and its trees
pub record IsRow (es : List Row) (k : Key) (i : ℕ) : Type 0 where
  pub at : Some i ≡ position (same_key k) (keys_of es)
  pub found : true ≡ is_some (lookup (same_key k) es)
  pub within : i < length es
  pub value : slice_get (values_of es) i ≡ lookup (same_key k) es

pub row_here : (es : List Row) (k : Key) (i : ℕ) → IsDistinct same_key (keys_of es) → i < length es → same_key k (key_at es i) ≡ true → IsRow es k i
row_here es k i distinct below is =
    let first = first_at k es i distinct below is in
    record {
      at = sym (place_first k es i first);
      found = sym (first_found k es i first);
      within = below;
      value = sym (first_trees k es i first);
    }

pub nowhere : (es : List Row) (k : Key) → IsAbsent k es → (None ≡ position (same_key k) (keys_of es)) × (false ≡ is_some (lookup (same_key k) es))
nowhere es k none = (sym (place_absent k es none), sym (ap is_some (absent_trees k es none)))

-- ---- no rows, and one row more

pub none_ordered : IsOrdered [] []
unfolding IsDistinct
none_ordered = record {
  distinct = tt;
  within = λ j below. absurd (omega (arith, below));
  each = λ i below. absurd (omega (arith, below));
  rising = λ j k low below. absurd (omega (arith, below));
}

-- the order sees no trees
pub ordered_again : (es fs : List Row) (order : List ℕ) → keys_of fs ≡ keys_of es → IsOrdered es order → IsOrdered fs order
ordered_again es fs order same is =
    let long : length fs ≡ length es = sym (keys_long fs) ∙ ap length same ∙ keys_long es in
    let at : (i : ℕ) → key_at fs i ≡ key_at es i = λ i. ap (λ (ks : List Key). slice_index_or ks i no_key) same in
    record {
      distinct = subst (IsDistinct same_key) (sym same) is.distinct;
      within = λ j below. let h = is.within j below in omega (arith, h, long);
      each = λ i below. is.each i (omega (arith, below, long));
      rising = λ j k low below. (λ i. is_lt (key_cmp (at (row_at order j) i) (at (row_at order k) i))) ∙ is.rising j k low below;
    }

keys_pushed : (es : List Row) (e : Row) → keys_of (es ++ e ∷ []) ≡ keys_of es ++ e.0 ∷ []
keys_pushed [] e = refl
keys_pushed (x ∷ es) e = ap (λ ks. x.0 ∷ ks) (keys_pushed es e)

long_pushed : (es : List Row) (e : Row) → length (es ++ e ∷ []) ≡ length es + 1
long_pushed [] e = refl
long_pushed (x ∷ es) e = let h = long_pushed es e in omega (arith, h)

key_stays : (es : List Row) (e : Row) (i : ℕ) → i < length es → key_at (es ++ e ∷ []) i ≡ key_at es i
key_stays [] e i below = absurd (omega (arith, below))
key_stays (x ∷ es) e zero below = refl
key_stays (x ∷ es) e (suc i) below = key_stays es e i (omega (arith, below))

key_added : (es : List Row) (e : Row) → key_at (es ++ e ∷ []) (length es) ≡ e.0
key_added [] e = refl
key_added (x ∷ es) e = key_added es e

none_among : (k : Key) (es : List Row) → IsAbsent k es → list_any (same_key k) (keys_of es) ≡ false
none_among k [] none = refl
none_among k (e ∷ es) none = (λ i. none.0 i || none_among k es none.1 i)

-- a place of the order with a row more: it is before the new one, the new one, or behind it
abbrev Stands : List ℕ → ℕ → ℕ → ℕ → Type 0
Stands order place n x =
    ((y : ℕ) × (y < length order) × (row_at (insert order place n) x ≡ row_at order y) × (((x < place) × (x ≡ y)) ⊎ ((place ≤ y) × (x ≡ y + 1))))
    ⊎ ((x ≡ place) × (row_at (insert order place n) x ≡ n))

stands : (order : List ℕ) (place n x : ℕ) → place ≤ length order → x < length order + 1 → Stands order place n x
stands order place n x within below = elim (cases_lt x place) [
  | inl low ↦ inl (x, omega (arith, low, within), get_or-insert_below order place n 0 x low within, inl (low, refl))
  | inr high ↦ elim (cases_lt place x) [
    | inl past ↦ behind x past below
    | inr end ↦
        let here : x ≡ place = omega (arith, high, end) in
        inr (here, ap (row_at (insert order place n)) here ∙ get_or-insert_at order place n 0 within)
  ]
]
  where
    behind : (x : ℕ) → place < x → x < length order + 1 → Stands order place n x
    behind zero past below = absurd (omega (arith, past))
    behind (suc y) past below =
        let high : place ≤ y = omega (arith, past) in
        let next : suc y ≡ y + 1 = omega arith in
        inl (y, omega (arith, below), ap (row_at (insert order place n)) next ∙ get_or-insert_above order place n 0 y high within, inr (high, next))

pub ordered_pushed : (es : List Row) (order : List ℕ) (k : Key) (ts : List TreeMap) (place : ℕ) → IsOrdered es order → IsPlace es order k place
    → IsAbsent k es → IsOrdered (es ++ (k, ts) ∷ []) (insert order place (length es))
ordered_pushed es order k ts place is at none = record {
  distinct = subst (IsDistinct same_key) (sym (keys_pushed es (k, ts)))
      (IsDistinct-push key_equiv (keys_of es) k is.distinct (none_among k es none));
  within = λ j below. elim (stands order place n j at.within (omega (arith, below, count))) [
    | inl s ↦ let h = is.within s.0 s.1 in omega (arith, s.2, h, long)
    | inr s ↦ omega (arith, s.1, long)
  ];
  each = λ i below. elim (cases_lt i n) [
    | inl low ↦ old i (is.each i low)
    | inr high ↦
        let last : n ≡ i = omega (arith, high, below, long) in
        (place, (let w = at.within in omega (arith, w, count)), get_or-insert_at order place n 0 at.within ∙ last)
  ];
  rising = λ i j low below. pair i j low (stands order place n i at.within (omega (arith, low, below, count)))
      (stands order place n j at.within (omega (arith, below, count)));
}
  where
    n : ℕ
    n = length es

    new : List Row
    new = es ++ (k, ts) ∷ []

    more : List ℕ
    more = insert order place (length es)

    count : length (insert order place (length es)) ≡ length order + 1
    count = length-insert order place (length es) at.within

    long : length (es ++ (k, ts) ∷ []) ≡ length es + 1
    long = long_pushed es (k, ts)

    old : (i : ℕ) → (j : ℕ) × (j < length order) × (row_at order j ≡ i) → (j : ℕ) × (j < length more) × (row_at more j ≡ i)
    old i (j, below, row) = elim (cases_lt j place) [
      | inl low ↦ (j, omega (arith, below, count), get_or-insert_below order place (length es) 0 j low at.within ∙ row)
      | inr high ↦ (j + 1, omega (arith, below, count), get_or-insert_above order place (length es) 0 j high at.within ∙ row)
    ]

    key_old : (x y : ℕ) → y < length order → row_at more x ≡ row_at order y → key_at new (row_at more x) ≡ key_at es (row_at order y)
    key_old x y below row = ap (key_at new) row ∙ key_stays es (k, ts) (row_at order y) (is.within y below)

    key_new : (x : ℕ) → row_at more x ≡ length es → key_at new (row_at more x) ≡ k
    key_new x row = ap (key_at new) row ∙ key_added es (k, ts)

    before : (a b : Key) (x y : ℕ) → key_at new (row_at more x) ≡ a → key_at new (row_at more y) ≡ b → is_lt (key_cmp a b) ≡ true
        → is_before new (row_at more x) (key_at new (row_at more y)) ≡ true
    before a b x y first second less = (λ i. is_lt (key_cmp (first i) (second i))) ∙ less

    old_pair : (y z : ℕ) → y < z → z < length order → is_lt (key_cmp (key_at es (row_at order y)) (key_at es (row_at order z))) ≡ true
    old_pair y z low below = is.rising y z low below

    low_pair : (y : ℕ) → y < place → is_lt (key_cmp (key_at es (row_at order y)) k) ≡ true
    low_pair y low = at.before y low

    high_pair : (z : ℕ) → place ≤ z → z < length order → is_lt (key_cmp k (key_at es (row_at order z))) ≡ true
    high_pair z high below =
        comes_before k (key_at es (row_at order z)) (at.behind z high below) (absent_at k es (row_at order z) none (is.within z below))

    pair : (i j : ℕ) → i < j → Stands order place (length es) i → Stands order place (length es) j
        → is_before new (row_at more i) (key_at new (row_at more j)) ≡ true
    pair i j low (inl s) (inl t) =
        before _ _ i j (key_old i s.0 s.1 s.2) (key_old j t.0 t.1 t.2) (old_pair s.0 t.0 (shifted i j s.0 t.0 low s.3 t.3) t.1)
      where
        shifted : (i j y z : ℕ) → i < j → ((i < place) × (i ≡ y)) ⊎ ((place ≤ y) × (i ≡ y + 1)) → ((j < place) × (j ≡ z)) ⊎ ((place ≤ z) × (j ≡ z + 1)) → y < z
        shifted i j y z low (inl a) (inl b) = omega (arith, low, a.1, b.1)
        shifted i j y z low (inl a) (inr b) = omega (arith, a.0, a.1, b.0)
        shifted i j y z low (inr a) (inl b) = absurd (omega (arith, low, a.0, a.1, b.0))
        shifted i j y z low (inr a) (inr b) = omega (arith, low, a.1, b.1)
    pair i j low (inl s) (inr t) =
        before _ _ i j (key_old i s.0 s.1 s.2) (key_new j t.1) (low_pair s.0 (under i j s.0 low t.0 s.3))
      where
        under : (i j y : ℕ) → i < j → j ≡ place → ((i < place) × (i ≡ y)) ⊎ ((place ≤ y) × (i ≡ y + 1)) → y < place
        under i j y low here (inl a) = omega (arith, a.0, a.1)
        under i j y low here (inr a) = absurd (omega (arith, low, here, a.0, a.1))
    pair i j low (inr s) (inl t) =
        before _ _ i j (key_new i s.1) (key_old j t.0 t.1 t.2) (high_pair t.0 (over i j t.0 low s.0 t.3) t.1)
      where
        over : (i j z : ℕ) → i < j → i ≡ place → ((j < place) × (j ≡ z)) ⊎ ((place ≤ z) × (j ≡ z + 1)) → place ≤ z
        over i j z low here (inl b) = absurd (omega (arith, low, here, b.0))
        over i j z low here (inr b) = b.0
    pair i j low (inr s) (inr t) = absurd (omega (arith, low, s.0, t.0))

-- the key of a row that is read
pub key_read : (es : List Row) (i : ℕ) (e : Row) → i < length es → e ≡ slice_index_or es i e → e.0 ≡ key_at es i
key_read [] i e below is = absurd (omega (arith, below))
key_read (x ∷ es) zero e below is = ap (λ (r : Row). r.0) is
key_read (x ∷ es) (suc i) e below is = key_read es i e (omega (arith, below)) is
