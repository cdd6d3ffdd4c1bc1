-- Selections of lists: part by part, under another name, and which value comes first.
use Rattle.std.proofs.Common.{◌≡◌, ◌⊎◌, ◌↔◌, inl, inr, ℕ, zero, suc, ◌+◌, ◌<◌, Bool, true, false, cond, IsTrue, List, [], ◌∷◌, ◌++◌, map, length}
use Rattle.std.proofs.Common.{Option, Some, None}
use Rattle.std.proofs.Common.{refl, sym, ◌∙◌, ap, subst, arith, append_assoc, append-nil, add-one}
use Rattle.std.proofs.lemmas.Bool.{cases_Bool, cases_eq}
use Rattle.std.proofs.lemmas.List.Elements.{Contains-append_left, Contains-append_right, Contains-append_cases}
use Rattle.std.specs.List.{Contains, filter, find}
use Rattle.std.proofs.lemmas.List.{length-map, get_or-map}
use Rattle.llb_findings.specs.Selections.{AreThose, Adds, joined_below}

-- ---- one after another

pub those_nil : {A : Type 0} (P : A → Type 0) → AreThose P [] []
unfolding AreThose
those_nil P = refl

pub those_skip : {A : Type 0} (P : A → Type 0) (x : A) (xs kept : List A) → ¬ P x → AreThose P xs kept → AreThose P (x ∷ xs) kept
unfolding AreThose
those_skip P x xs kept n h = inl (n, h)

pub those_keep : {A : Type 0} (P : A → Type 0) (x : A) (xs kept : List A) → P x → AreThose P xs kept → AreThose P (x ∷ xs) (x ∷ kept)
unfolding AreThose
those_keep P x xs kept p h = inr (kept, refl, p, h)

-- the cases of a list with a first value
pub those_cases : {A : Type 0} (P : A → Type 0) (x : A) (xs kept : List A) → AreThose P (x ∷ xs) kept
    → ((¬ P x) × AreThose P xs kept) ⊎ ((rest : List A) × (kept ≡ x ∷ rest) × P x × AreThose P xs rest)
unfolding AreThose
those_cases P x xs kept h = h

pub those_of_none : {A : Type 0} (P : A → Type 0) (kept : List A) → AreThose P [] kept → kept ≡ []
unfolding AreThose
those_of_none P kept h = h

pub those_both : {A : Type 0} (P : A → Type 0) (xs ys a b : List A) → AreThose P xs a → AreThose P ys b → AreThose P (xs ++ ys) (a ++ b)
those_both P [] ys a b h g = subst (λ c. AreThose P ys (c ++ b)) (sym (those_of_none P a h)) g
those_both P (x ∷ xs) ys a b h g = elim (those_cases P x xs a h) [
  | inl (n, t) ↦ those_skip P x (xs ++ ys) (a ++ b) n (those_both P xs ys a b t g)
  | inr (rest, e, p, t) ↦ subst (λ c. AreThose P (x ∷ (xs ++ ys)) (c ++ b)) (sym e)
      (those_keep P x (xs ++ ys) (rest ++ b) p (those_both P xs ys rest b t g))
]

-- none of them
pub none_of : {A : Type 0} (P : A → Type 0) (xs : List A) → ((x : A) → ¬ P x) → AreThose P xs []
none_of P [] h = those_nil P
none_of P (x ∷ xs) h = those_skip P x xs [] (h x) (none_of P xs h)

pub none_both : {A : Type 0} (P : A → Type 0) (xs ys : List A) → AreThose P xs [] → AreThose P ys [] → AreThose P (xs ++ ys) []
none_both P xs ys h g = those_both P xs ys [] [] h g

pub one_by : {A : Type 0} (P : A → Type 0) (x : A) (b : Bool) → IsTrue b ↔ P x → AreThose P (x ∷ []) (cond b (x ∷ []) [])
one_by P x true h = those_keep P x [] [] (h.0 refl) (those_nil P)
one_by P x false h = those_skip P x [] [] (λ p. let e : false ≡ true = h.1 p in cc) (those_nil P)

pub one_here : {A : Type 0} (P : A → Type 0) (x : A) → P x → AreThose P (x ∷ []) (x ∷ [])
one_here P x p = those_keep P x [] [] p (those_nil P)

pub one_not : {A : Type 0} (P : A → Type 0) (x : A) → ¬ P x → AreThose P (x ∷ []) []
one_not P x n = those_skip P x [] [] n (those_nil P)

-- ---- under another name

pub those_map : {A B : Type 0} (P : A → Type 0) (Q : B → Type 0) (g : A → B) → ((x : A) → P x ↔ Q (g x)) → (xs a : List A)
    → AreThose P xs a → AreThose Q (map g xs) (map g a)
those_map P Q g same [] a h = subst (λ c. AreThose Q [] (map g c)) (sym (those_of_none P a h)) (those_nil Q)
those_map P Q g same (x ∷ xs) a h = elim (those_cases P x xs a h) [
  | inl (n, t) ↦ those_skip Q (g x) (map g xs) (map g a) (λ q. n ((same x).1 q)) (those_map P Q g same xs a t)
  | inr (rest, e, p, t) ↦ subst (λ c. AreThose Q (g x ∷ map g xs) (map g c)) (sym e)
      (those_keep Q (g x) (map g xs) (map g rest) ((same x).0 p) (those_map P Q g same xs rest t))
]

pub those_same : {A : Type 0} (P Q : A → Type 0) → ((x : A) → P x ↔ Q x) → (xs a : List A) → AreThose P xs a → AreThose Q xs a
those_same P Q same [] a h = subst (λ c. AreThose Q [] c) (sym (those_of_none P a h)) (those_nil Q)
those_same P Q same (x ∷ xs) a h = elim (those_cases P x xs a h) [
  | inl (n, t) ↦ those_skip Q x xs a (λ q. n ((same x).1 q)) (those_same P Q same xs a t)
  | inr (rest, e, p, t) ↦ subst (λ c. AreThose Q (x ∷ xs) c) (sym e) (those_keep Q x xs rest ((same x).0 p) (those_same P Q same xs rest t))
]

pub those_filter : {A : Type 0} (t : A → Bool) (xs : List A) → AreThose (λ x. t x ≡ true) xs (filter t xs)
those_filter t [] = those_nil (λ x. t x ≡ true)
those_filter t (x ∷ xs) = elim (cases_Bool (t x)) [
  | inl y ↦ subst (λ b. AreThose (λ z. t z ≡ true) (x ∷ xs) (cond b (x ∷ filter t xs) (filter t xs))) (sym y)
      (those_keep (λ z. t z ≡ true) x xs (filter t xs) y (those_filter t xs))
  | inr n ↦ subst (λ b. AreThose (λ z. t z ≡ true) (x ∷ xs) (cond b (x ∷ filter t xs) (filter t xs))) (sym n)
      (those_skip (λ z. t z ≡ true) x xs (filter t xs) (λ y. let e : true ≡ false = sym y ∙ n in cc) (those_filter t xs))
]

-- ---- what is in a selection

pub those_each : {A : Type 0} (P : A → Type 0) (xs a : List A) → AreThose P xs a → (y : A) → Contains a y → P y
those_each {A} P [] a h y c = absurd (let e = ap (λ (l : List A). length l) (those_of_none P a h) in let l = c.1 in omega (arith, e, l))
those_each {A} P (x ∷ xs) a h y c = elim (those_cases P x xs a h) [
  | inl (n, t) ↦ those_each P xs a t y c
  | inr (rest, e, p, t) ↦ elim (Contains-append_cases (x ∷ []) rest y (subst (λ (l : List A). Contains l y) e c)) [
    | inl (zero, l, s) ↦ subst P s p
    | inl (suc k, l, s) ↦ absurd (omega (arith, l))
    | inr d ↦ those_each P xs rest t y d
  ]
]

pub those_all : {A : Type 0} (P : A → Type 0) (xs a : List A) → AreThose P xs a → (y : A) → Contains xs y → P y → Contains a y
those_all {A} P [] a h y c q = absurd (let l = c.1 in omega (arith, l))
those_all {A} P (x ∷ xs) a h y c q = elim (those_cases P x xs a h) [
  | inl (n, t) ↦ elim (Contains-append_cases (x ∷ []) xs y c) [
    | inl (zero, l, s) ↦ absurd (n (subst P (sym s) q))
    | inl (suc k, l, s) ↦ absurd (omega (arith, l))
    | inr d ↦ those_all P xs a t y d q
  ]
  | inr (rest, e, p, t) ↦ subst (λ (l : List A). Contains l y) (sym e) (elim (Contains-append_cases (x ∷ []) xs y c) [
    | inl d ↦ Contains-append_left (x ∷ []) rest y d
    | inr d ↦ Contains-append_right (x ∷ []) rest y (those_all P xs rest t y d q)
  ])
]

-- ---- the first

-- y is the first of these values that has the property P
abbrev pub IsFirst : {A : Type 0} → (A → Type 0) → List A → A → Type 0
IsFirst P [] y = ⊥
IsFirst P (x ∷ xs) y = (P x × (y ≡ x)) ⊎ ((¬ P x) × IsFirst P xs y)

pub first_of : {A : Type 0} (P : A → Type 0) (xs a : List A) (y : A) → AreThose P xs a → IsFirst P xs y → (rest : List A) × (a ≡ y ∷ rest)
first_of P [] a y h f = absurd f
first_of {A} P (x ∷ xs) a y h f = elim (those_cases P x xs a h) [
  | inl (n, t) ↦ elim f [ inl (p, s) ↦ absurd (n p) | inr (m, g) ↦ first_of P xs a y t g ]
  | inr (rest, e, p, t) ↦ elim f [ inl (q, s) ↦ (rest, e ∙ ap (λ (z : A). z ∷ rest) (sym s)) | inr (m, g) ↦ absurd (m p) ]
]

pub first_left : {A : Type 0} (P : A → Type 0) (xs ys : List A) (y : A) → IsFirst P xs y → IsFirst P (xs ++ ys) y
first_left P [] ys y f = absurd f
first_left P (x ∷ xs) ys y f = elim f [ inl h ↦ inl h | inr (n, g) ↦ inr (n, first_left P xs ys y g) ]

pub first_right : {A : Type 0} (P : A → Type 0) (xs ys : List A) (y : A) → AreThose P xs [] → IsFirst P ys y → IsFirst P (xs ++ ys) y
first_right P [] ys y h f = f
first_right {A} P (x ∷ xs) ys y h f = elim (those_cases P x xs [] h) [
  | inl (n, t) ↦ inr (n, first_right P xs ys y t f)
  | inr (rest, e, p, t) ↦ absurd (let l = ap (λ (z : List A). length z) e in omega (arith, l))
]

pub first_here : {A : Type 0} (P : A → Type 0) (y : A) → P y → IsFirst P (y ∷ []) y
first_here P y p = inl (p, refl)

-- ---- lists that are joined

pub joined_zero : {A : Type 0} (c : ℕ → List A) → joined_below 0 c ≡ []
unfolding joined_below
joined_zero c = refl

pub joined_more : {A : Type 0} (n : ℕ) (c : ℕ → List A) → joined_below (n + 1) c ≡ joined_below n c ++ c n
unfolding joined_below
joined_more n c = rw add-one refl

joined_suc : {A : Type 0} (n : ℕ) (c : ℕ → List A) → joined_below (suc n) c ≡ joined_below n c ++ c n
unfolding joined_below
joined_suc n c = refl

pub those_joined : {A : Type 0} (P : A → Type 0) (n : ℕ) (c : ℕ → List A) (a b : List A) → AreThose P (joined_below n c) a → AreThose P (c n) b
    → AreThose P (joined_below (n + 1) c) (a ++ b)
those_joined {A} P n c a b h g = subst (λ (l : List A). AreThose P l (a ++ b)) (sym (joined_more n c)) (those_both P (joined_below n c) (c n) a b h g)

pub none_joined : {A : Type 0} (P : A → Type 0) (n : ℕ) (c : ℕ → List A) → ((k : ℕ) → k < n → AreThose P (c k) []) → AreThose P (joined_below n c) []
none_joined {A} P zero c h = subst (λ (l : List A). AreThose P l []) (sym (joined_zero c)) (those_nil P)
none_joined {A} P (suc n) c h = subst (λ (l : List A). AreThose P l []) (sym (joined_suc n c))
    (none_both P (joined_below n c) (c n) (none_joined P n c (λ k l. h k (omega arith))) (h n (omega arith)))

pub first_joined : {A : Type 0} (P : A → Type 0) (n : ℕ) (c : ℕ → List A) (k : ℕ) (y : A) → k < n → ((j : ℕ) → j < k → AreThose P (c j) [])
    → IsFirst P (c k) y → IsFirst P (joined_below n c) y
first_joined P zero c k y l h f = absurd (omega arith)
first_joined {A} P (suc n) c k y l h f = subst (λ (l : List A). IsFirst P l y) (sym (joined_suc n c)) (elim (cases_eq k n) [
  | inl e ↦ first_right P (joined_below n c) (c n) y (none_joined P n c (λ j m. h j (omega (arith, e, m)))) (subst (λ (i : ℕ). IsFirst P (c i) y) e f)
  | inr d ↦ first_left P (joined_below n c) (c n) y (first_joined P n c k y (omega (arith, l, d)) h f)
])

pub joined_has : {A : Type 0} (n : ℕ) (c : ℕ → List A) (k : ℕ) (y : A) → k < n → Contains (c k) y → Contains (joined_below n c) y
joined_has zero c k y l h = absurd (omega arith)
joined_has {A} (suc n) c k y l h = subst (λ (l : List A). Contains l y) (sym (joined_suc n c)) (elim (cases_eq k n) [
  | inl e ↦ Contains-append_right (joined_below n c) (c n) y (subst (λ (i : ℕ). Contains (c i) y) e h)
  | inr d ↦ Contains-append_left (joined_below n c) (c n) y (joined_has n c k y (omega (arith, l, d)) h)
])

-- ---- what a loop adds

pub adds_none : {A : Type 0} (P : A → Type 0) (xs before : List A) → AreThose P xs [] → Adds P xs before before
adds_none P xs before h = ([], sym (append-nil before), h)

pub adds_nothing : {A : Type 0} (P : A → Type 0) (before : List A) → Adds P [] before before
adds_nothing P before = adds_none P [] before (those_nil P)

pub adds_both : {A : Type 0} (P : A → Type 0) (xs ys a b d : List A) → Adds P xs a b → Adds P ys b d → Adds P (xs ++ ys) a d
adds_both {A} P xs ys a b d (s, e, h) (t, f, g) = (
  s ++ t,
  f ∙ ap (λ (l : List A). l ++ t) e ∙ append_assoc a s t,
  those_both P xs ys s t h g,
)

pub adds_joined_none : {A : Type 0} (P : A → Type 0) (c : ℕ → List A) (before : List A) → Adds P (joined_below 0 c) before before
adds_joined_none {A} P c before = adds_none P (joined_below 0 c) before (subst (λ (l : List A). AreThose P l []) (sym (joined_zero c)) (those_nil P))

pub adds_joined : {A : Type 0} (P : A → Type 0) (n : ℕ) (c : ℕ → List A) (a b d : List A) → Adds P (joined_below n c) a b → Adds P (c n) b d
    → Adds P (joined_below (n + 1) c) a d
adds_joined {A} P n c a b d h g = subst (λ (l : List A). Adds P l a d) (sym (joined_more n c)) (adds_both P (joined_below n c) (c n) a b d h g)

-- ---- maps and searches

pub none_map : {A B : Type 0} (Q : B → Type 0) (g : A → B) (xs : List A) → ((x : A) → ¬ Q (g x)) → AreThose Q (map g xs) []
none_map Q g [] h = those_nil Q
none_map Q g (x ∷ xs) h = those_skip Q (g x) (map g xs) [] (h x) (none_map Q g xs h)

pub those_map_filter : {A B : Type 0} (Q : B → Type 0) (g : A → B) (t : A → Bool) → ((x : A) → t x ≡ true → Q (g x))
    → ((x : A) → Q (g x) → t x ≡ true) → (xs : List A) → AreThose Q (map g xs) (map g (filter t xs))
those_map_filter Q g t to from xs = those_map (λ x. t x ≡ true) Q g (λ x. (to x, from x)) xs (filter t xs) (those_filter t xs)

pub first_find : {A B : Type 0} (Q : B → Type 0) (g : A → B) (t : A → Bool) (xs : List A) (y : A) → find t xs ≡ Some y
    → ((x : A) → t x ≡ true → Q (g x)) → ((x : A) → t x ≡ false → ¬ Q (g x)) → IsFirst Q (map g xs) (g y)
first_find {A} Q g t [] y e to not = absurd (let x : ◌≡◌ {A = Option A} None (Some y) = e in cc)
first_find {A} Q g t (x ∷ xs) y e to not = elim (cases_Bool (t x)) [
  | inl b ↦ (
      let s : ◌≡◌ {A = Option A} (Some x) (Some y) = sym (ap (λ (c : Bool). cond c (Some x) (find t xs)) b) ∙ e in
      let same : x ≡ y = cc in
      inl (to x b, ap g (sym same)))
  | inr b ↦ inr (not x b, first_find Q g t xs y (sym (ap (λ (c : Bool). cond c (Some x) (find t xs)) b) ∙ e) to not)
]

pub find_none : {A : Type 0} (t : A → Bool) (xs : List A) (y : A) → find t xs ≡ None → Contains xs y → t y ≡ false
find_none {A} t [] y e c = absurd (let l = c.1 in omega (arith, l))
find_none {A} t (x ∷ xs) y e c = elim (cases_Bool (t x)) [
  | inl b ↦ absurd (let s : ◌≡◌ {A = Option A} (Some x) None = sym (ap (λ (d : Bool). cond d (Some x) (find t xs)) b) ∙ e in cc)
  | inr b ↦ elim (Contains-append_cases (x ∷ []) xs y c) [
    | inl (zero, l, s) ↦ subst (λ (z : A). t z ≡ false) s b
    | inl (suc k, l, s) ↦ absurd (omega (arith, l))
    | inr d ↦ find_none t xs y (sym (ap (λ (f : Bool). cond f (Some x) (find t xs)) b) ∙ e) d
  ]
]

pub contains_map : {A B : Type 0} (g : A → B) (xs : List A) (x : A) → Contains xs x → Contains (map g xs) (g x)
contains_map {A} {B} g xs x (i, l, e) = (
  i,
  (let n = length-map xs g in omega (arith, l, n)),
  get_or-map g xs i x (g x) l ∙ ap g e,
)

-- ---- tests

pub those_joined_by : {A : Type 0} (P : A → Type 0) (n : ℕ) (f : ℕ → A) (t : ℕ → Bool) → ((i : ℕ) → i < n → IsTrue (t i) ↔ P (f i))
    → AreThose P (joined_below n (λ i. f i ∷ [])) (joined_below n (λ i. cond (t i) (f i ∷ []) []))
those_joined_by {A} P zero f t h = subst (λ (l : List A). AreThose P l (joined_below 0 (λ i. cond (t i) (f i ∷ []) []))) (sym (joined_zero (λ i. f i ∷ [])))
    (subst (λ (l : List A). AreThose P [] l) (sym (joined_zero (λ i. cond (t i) (f i ∷ []) []))) (those_nil P))
those_joined_by {A} P (suc n) f t h =
    subst (λ (l : List A). AreThose P l (joined_below (suc n) (λ i. cond (t i) (f i ∷ []) []))) (sym (joined_suc n (λ i. f i ∷ [])))
    (subst (λ (l : List A). AreThose P (joined_below n (λ i. f i ∷ []) ++ f n ∷ []) l) (sym (joined_suc n (λ i. cond (t i) (f i ∷ []) [])))
    (those_both P (joined_below n (λ i. f i ∷ [])) (f n ∷ []) (joined_below n (λ i. cond (t i) (f i ∷ []) [])) (cond (t n) (f n ∷ []) [])
    (those_joined_by P n f t (λ i l. h i (omega arith))) (one_by P (f n) (t n) (h n (omega arith)))))

-- a loop adds the next list
pub joined_push : {A : Type 0} (n : ℕ) (c : ℕ → List A) (start before after : List A) → before ≡ start ++ joined_below n c → after ≡ before ++ c n
    → after ≡ start ++ joined_below (n + 1) c
joined_push {A} n c start before after e f = f ∙ ap (λ (l : List A). l ++ c n) e ∙ append_assoc start (joined_below n c) (c n)
    ∙ ap (λ (l : List A). start ++ l) (sym (joined_more n c))

pub joined_start : {A : Type 0} (c : ℕ → List A) (start : List A) → start ≡ start ++ joined_below 0 c
joined_start {A} c start = sym (append-nil start) ∙ ap (λ (l : List A). start ++ l) (sym (joined_zero c))

pub adds_if : {A : Type 0} (P : A → Type 0) (x : A) (b : Bool) (before after : List A) → IsTrue b ↔ P x → after ≡ before ++ cond b (x ∷ []) []
    → Adds P (x ∷ []) before after
adds_if P x b before after h e = (cond b (x ∷ []) [], e, one_by P x b h)
