-- Membership in lists by recursion; and a list that contains all numbers below n has at least n items.
use Rattle.std.proofs.Common.{◌≡◌, ◌≢◌, ℕ, zero, suc, ◌+◌, ◌<◌, ◌≤◌, Bool, true, false, cond, List, [], ◌∷◌, length, map, get_or, eqb, refl}
use Rattle.std.proofs.Common.{sym, ◌∙◌, subst, arith, inl, inr, ◌⊎◌}
use Rattle.std.specs.List.{Contains, AllPairs}
use Rattle.std.proofs.lemmas.Bool.{eqb-true, eq-eqb}
use Rattle.std.proofs.lemmas.List.Elements.{Contains-get_or}

-- an item is in a list
abbrev pub In : {A : Type 0} → List A → A → Type 0
In [] y = ⊥
In (x ∷ xs) y = (y ≡ x) ⊎ In xs y

pub in_contained : {A : Type 0} (xs : List A) (y : A) → Contains xs y → In xs y
in_contained [] y (k, below, is) = absurd (omega (arith, below))
in_contained (x ∷ xs) y (zero, below, is) = inl (sym is)
in_contained (x ∷ xs) y (suc k, below, is) = inr (in_contained xs y (k, omega (arith, below), is))

pub contained_in : {A : Type 0} (xs : List A) (y : A) → In xs y → Contains xs y
contained_in [] y h = absurd h
contained_in (x ∷ xs) y (inl is) = (0, omega arith, sym is)
contained_in (x ∷ xs) y (inr h) = let rest = contained_in xs y h in (suc rest.0, (let below = rest.1 in omega (arith, below)), rest.2)

-- each of a list is apart from those after it
pub pairs_head : {A : Type 0} (R : A → A → Type 0) (x : A) (xs : List A) → AllPairs R (x ∷ xs) → (y : A) → In xs y → R x y
pairs_head R x xs all y h =
    let at = contained_in xs y h in
    let below = at.1 in
    subst (R x) at.2 (all 0 (suc at.0) y (omega arith) (omega (arith, below)))

pub pairs_tail : {A : Type 0} (R : A → A → Type 0) (x : A) (xs : List A) → AllPairs R (x ∷ xs) → AllPairs R xs
pairs_tail R x xs all i j d before below = all (suc i) (suc j) d (omega (arith, before)) (omega (arith, below))

pub pairs_cons : {A : Type 0} (R : A → A → Type 0) (x : A) (xs : List A) → ((y : A) → In xs y → R x y) → AllPairs R xs → AllPairs R (x ∷ xs)
pairs_cons R x xs head all i zero d before below = absurd (omega (arith, before))
pairs_cons R x xs head all zero (suc j) d before below = head (get_or xs j d) (in_contained xs (get_or xs j d) (Contains-get_or xs j d (omega (arith, below))))
pairs_cons R x xs head all (suc i) (suc j) d before below = all i j d (omega (arith, before)) (omega (arith, below))

-- each item of a mapped list is the image of an item of the list
pub in_map : {A B : Type 0} (f : A → B) (xs : List A) (y : B) → In (map f xs) y → (x : A) × In xs x × (y ≡ f x)
in_map f [] y h = absurd h
in_map f (x ∷ xs) y (inl is) = (x, inl refl, is)
in_map f (x ∷ xs) y (inr h) = let rest = in_map f xs y h in (rest.0, inr rest.1, rest.2)

pub pairs_map : {A B : Type 0} (R : B → B → Type 0) (f : A → B) (xs : List A) → AllPairs (λ x y. R (f x) (f y)) xs → AllPairs R (map f xs)
pairs_map R f [] all = λ i j d before below. absurd (omega (arith, below))
pairs_map R f (x ∷ xs) all =
    pairs_cons R (f x) (map f xs)
    (λ y h. let m = in_map f xs y h in subst (R (f x)) (sym m.2) (pairs_head (λ x y. R (f x) (f y)) x xs all m.0 m.1))
    (pairs_map R f xs (pairs_tail (λ x y. R (f x) (f y)) x xs all))

-- ---- lists of numbers

-- a list without the first item that equals this number
without : ℕ → List ℕ → List ℕ
without n [] = []
without n (m ∷ ms) = cond (eqb n m) ms (m ∷ without n ms)

one_less : (n : ℕ) (ms : List ℕ) → In ms n → length (without n ms) + 1 ≡ length ms
unfolding without
one_less n [] h = absurd h
one_less n (m ∷ ms) h = go (eqb n m) refl (one_less n ms)
  where
    go : (b : Bool) → eqb n m ≡ b → (In ms n → length (without n ms) + 1 ≡ length ms) → length (cond b ms (m ∷ without n ms)) + 1 ≡ length (m ∷ ms)
    go true is rest = omega arith
    go false is rest = elim h [
      | inl same ↦ absurd (let both : true ≡ false = sym (eq-eqb n m same) ∙ is in cc)
      | inr later ↦ let e = rest later in omega (arith, e)
    ]

still_in : (n k : ℕ) (ms : List ℕ) → k ≢ n → In ms k → In (without n ms) k
unfolding without
still_in n k [] apart h = h
still_in n k (m ∷ ms) apart h = go (eqb n m) refl (still_in n k ms apart) h
  where
    go : (b : Bool) → eqb n m ≡ b → (In ms k → In (without n ms) k) → In (m ∷ ms) k → In (cond b ms (m ∷ without n ms)) k
    go true is rest (inl same) = absurd (apart (same ∙ sym (eqb-true n m is)))
    go true is rest (inr later) = later
    go false is rest (inl same) = inl same
    go false is rest (inr later) = inr (rest later)

-- a list that contains all numbers below n has at least n items
pub no_fewer : (n : ℕ) (ms : List ℕ) → ((k : ℕ) → k < n → In ms k) → n ≤ length ms
no_fewer zero ms all = omega arith
no_fewer (suc n) ms all =
    let less = one_less n ms (all n (omega arith)) in
    let rest = no_fewer n (without n ms) (λ k below. still_in n k ms (λ same. absurd (omega (arith, same, below))) (all k (omega (arith, below)))) in
    omega (arith, less, rest)
