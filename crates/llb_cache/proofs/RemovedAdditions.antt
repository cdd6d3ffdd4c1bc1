-- What was added for instances is removed again: no key has more instances than before, and marks stay.
use Rattle.std.proofs.Common.{◌≡◌, suc, ◌-◌, ◌≤◌, Bool, true, false, cond, List, [], ◌∷◌, length, take, Option, Some, None}
use Rattle.std.proofs.Common.{slice_index_or, unwrap_or, refl, sym, ap, ◌∙◌, arith, inl, inr, ◌⊎◌}
use Rattle.std.specs.Map.{keys_of, lookup}
use Rattle.llb_tree.specs.Tree.{TreeMap}
use Rattle.llb_cache.specs.declared.lease_additions.Growth.{Growth}
use Rattle.llb_cache.specs.declared.lease_additions.Growth.TheVariants.{Nothing, NewInstance, NewRow}
use Rattle.llb_cache.specs.declared.key.Key.{Key}
use Rattle.llb_cache.specs.declared.lease_needs.Instance.{Instance}
use Rattle.llb_cache.specs.Key.{same_key}
use Rattle.llb_cache.specs.Caches.{Row, trees_of}
use Rattle.llb_cache.specs.LeaseAdditions.{front, shorter, unmade_one, unmade}
use Rattle.llb_cache.specs.InstanceMarks.{marked, Unmarks}
use Rattle.llb_cache.proofs.TreesOfKeys.{counted}

-- ---- all but the last

front_one : {A : Type 0} (x : A) → front (x ∷ []) ≡ []
front_one x = let n : length (x ∷ []) - 1 ≡ 0 = omega arith in ap (λ k. take k (x ∷ [])) n

front_more : {A : Type 0} (x y : A) (xs : List A) → front (x ∷ y ∷ xs) ≡ x ∷ front (y ∷ xs)
front_more x y xs = let n : length (x ∷ y ∷ xs) - 1 ≡ suc (length (y ∷ xs) - 1) = omega arith in ap (λ k. take k (x ∷ y ∷ xs)) n

front_length : {A : Type 0} (xs : List A) → length (front xs) ≤ length xs
front_length [] = omega arith
front_length (x ∷ []) = omega (arith, ap length (front_one x))
front_length (x ∷ y ∷ xs) = let rest = front_length (y ∷ xs) in omega (arith, rest, ap length (front_more x y xs))

-- ---- no key has more instances than before

-- a look at all rows but the last: as before, or nothing
look_front : (es : List Row) (k : Key)
    → (lookup (same_key k) (front es) ≡ lookup (same_key k) es) ⊎ (lookup (same_key k) (front es) ≡ None)
look_front [] k = inl refl
look_front (e ∷ []) k = inr (ap (lookup (same_key k)) (front_one e))
look_front (e ∷ f ∷ es) k = elim (look_front (f ∷ es) k) [
  | inl h ↦ inl (ap (lookup (same_key k)) (front_more e f es) ∙ ap (λ o. cond (same_key k e.0) (Some e.1) o) h)
  | inr h ↦ go (same_key k e.0) refl h
]
  where
    more : lookup (same_key k) (front (e ∷ f ∷ es)) ≡ cond (same_key k e.0) (Some e.1) (lookup (same_key k) (front (f ∷ es)))
    more = ap (lookup (same_key k)) (front_more e f es)

    go : (b : Bool) → same_key k e.0 ≡ b → lookup (same_key k) (front (f ∷ es)) ≡ None
        → (lookup (same_key k) (front (e ∷ f ∷ es)) ≡ lookup (same_key k) (e ∷ f ∷ es)) ⊎ (lookup (same_key k) (front (e ∷ f ∷ es)) ≡ None)
    go true is h =
        inl (more ∙ ap (λ b. cond b (Some e.1) (lookup (same_key k) (front (f ∷ es)))) is ∙ sym (ap (λ b. cond b (Some e.1) (lookup (same_key k) (f ∷ es))) is))
    go false is h = inr (more ∙ ap (λ b. cond b (Some e.1) (lookup (same_key k) (front (f ∷ es)))) is ∙ h)

fewer_front : (es : List Row) (k : Key) → length (trees_of (front es) k) ≤ length (trees_of es k)
fewer_front es k = elim (look_front es k) [
  | inl h ↦ omega (arith, ap (λ (o : Option (List TreeMap)). length (unwrap_or o [])) h)
  | inr h ↦ omega (arith, ap (λ (o : Option (List TreeMap)). length (unwrap_or o [])) h)
]

fewer_shorter : (rows : List Row) (key : Key) (o : Option (List TreeMap)) (k : Key) → lookup (same_key key) rows ≡ o
    → length (trees_of (shorter rows key o) k) ≤ length (trees_of rows k)
fewer_shorter rows key None k at = omega arith
fewer_shorter rows key (Some ts) k at = elim (counted rows key (front ts) k) [
  | inl h ↦
      let own : length (trees_of rows k) ≡ length ts =
      ap (λ l. length (trees_of rows l)) h.0 ∙ ap (λ (o : Option (List TreeMap)). length (unwrap_or o [])) at in
      omega (arith, h.1, own, front_length ts)
  | inr h ↦ omega (arith, h)
]

fewer_one : (rows : List Row) (p : Instance) (g : Growth) (k : Key) → length (trees_of (unmade_one rows p g) k) ≤ length (trees_of rows k)
fewer_one rows p Nothing k = omega arith
fewer_one rows p NewInstance k = fewer_shorter rows p.key (lookup (same_key p.key) rows) k refl
fewer_one rows p NewRow k = fewer_front rows k

fewer_all : (rows : List Row) (ps : List Instance) (gs : List Growth) (k : Key) → length (trees_of (unmade rows ps gs) k) ≤ length (trees_of rows k)
fewer_all rows [] gs k = omega arith
fewer_all rows (p ∷ ps) [] k = omega arith
fewer_all rows (p ∷ ps) (g ∷ gs) k =
    let rest = fewer_all rows ps gs k in
    let one = fewer_one (unmade rows ps gs) p g k in
    omega (arith, rest, one)

pub fewer_after : (rows new : List Row) (p : Instance) (g : Growth) → new ≡ unmade_one rows p g
    → (k : Key) → length (trees_of new k) ≤ length (trees_of rows k)
fewer_after rows new p g is k =
    let fewer = fewer_one rows p g k in
    omega (arith, fewer, ap (λ (rs : List Row). length (trees_of rs k)) is)

pub fewer_rows : (rows new : List Row) (ps : List Instance) (gs : List Growth) → new ≡ unmade rows ps gs
    → (k : Key) → length (trees_of new k) ≤ length (trees_of rows k)
fewer_rows rows new ps gs is k =
    let fewer = fewer_all rows ps gs k in
    omega (arith, fewer, ap (λ (rs : List Row). length (trees_of rs k)) is)

-- ---- marks

-- the marks of all rows but the last
pub marks_front : (es : List Row) (marks : List (List Bool)) → length marks ≡ length es → Unmarks es marks (front es) (front marks)
unfolding marked
marks_front [] [] count p = inl refl
marks_front [] (m ∷ marks) count p = absurd (omega (arith, count))
marks_front (e ∷ es) [] count p = absurd (omega (arith, count))
marks_front (e ∷ []) (m ∷ []) count p =
    inr ((λ i. marked (keys_of (front_one e i)) (front_one m i) p), ap (λ (rows : List Row). length (trees_of rows p.key)) (front_one e))
marks_front (e ∷ []) (m ∷ n ∷ marks) count p = absurd (omega (arith, count))
marks_front (e ∷ f ∷ es) (m ∷ []) count p = absurd (omega (arith, count))
marks_front (e ∷ f ∷ es) (m ∷ n ∷ marks) count p = elim (marks_front (f ∷ es) (n ∷ marks) (omega (arith, count)) p) [
  | inl h ↦ inl (more ∙ ap (λ b. cond (same_key p.key e.0) (slice_index_or m p.number false) b) h)
  | inr h ↦ go (same_key p.key e.0) refl h.0 h.1
]
  where
    rest : Bool
    rest = marked (keys_of (front (f ∷ es))) (front (n ∷ marks)) p

    more : marked (keys_of (front (e ∷ f ∷ es))) (front (m ∷ n ∷ marks)) p ≡ cond (same_key p.key e.0) (slice_index_or m p.number false) rest
    more = λ i. marked (keys_of (front_more e f es i)) (front_more m n marks i) p

    go : (b : Bool) → same_key p.key e.0 ≡ b → rest ≡ false → length (trees_of (front (f ∷ es)) p.key) ≡ 0
        → (marked (keys_of (front (e ∷ f ∷ es))) (front (m ∷ n ∷ marks)) p ≡ marked (keys_of (e ∷ f ∷ es)) (m ∷ n ∷ marks) p)
        ⊎ ((marked (keys_of (front (e ∷ f ∷ es))) (front (m ∷ n ∷ marks)) p ≡ false) × (length (trees_of (front (e ∷ f ∷ es)) p.key) ≡ 0))
    go true is none gone =
        inl (more ∙ ap (λ b. cond b (slice_index_or m p.number false) rest) is
        ∙ sym (ap (λ b. cond b (slice_index_or m p.number false) (marked (keys_of (f ∷ es)) (n ∷ marks) p)) is))
    go false is none gone = inr (
      more ∙ ap (λ b. cond b (slice_index_or m p.number false) rest) is ∙ none,
      ap (λ (rows : List Row). length (trees_of rows p.key)) (front_more e f es)
          ∙ ap (λ b. length (unwrap_or (cond b (Some e.1) (lookup (same_key p.key) (front (f ∷ es)))) [])) is ∙ gone,
    )

-- one removal after another
pub unmarks_next : (a b c : List Row) (m n o : List (List Bool)) → Unmarks a m b n → Unmarks b n c o
    → ((k : Key) → length (trees_of c k) ≤ length (trees_of b k)) → Unmarks a m c o
unmarks_next a b c m n o first second fewer p = elim (second p) [
  | inl h ↦ elim (first p) [
    | inl g ↦ inl (h ∙ g)
    | inr g ↦ let less = fewer p.key in let none = g.1 in inr (h ∙ g.0, omega (arith, less, none))
  ]
  | inr h ↦ inr h
]
