-- Values of items, and look-ups in a list of pairs, by their places.
use Rattle.std.proofs.Common.{◌≡◌, ◌≢◌, ℕ, zero, suc, ◌<◌, Bool, true, false, cond, List, [], ◌∷◌, length, get_or, Option, Some, None, refl, ap, ◌∙◌, arith}
use Rattle.std.specs.List.{Contains, filter_map, cons_option}
use Rattle.std.specs.Map.{lookup}
use Rattle.std.specs.Option.{unwrap_or}

-- an item at some place has this value
abbrev pub HasValue : {X : Type 0} → (X → Option ℕ) → List X → X → ℕ → Type 0
HasValue h xs d y = (i : ℕ) × (i < length xs) × (h (get_or xs i d) ≡ Some y)

later_value : {X : Type 0} (h : X → Option ℕ) (x : X) (xs : List X) (d : X) (y : ℕ) → HasValue h xs d y → HasValue h (x ∷ xs) d y
later_value h x xs d y v = (suc v.0, (let l = v.1 in omega (arith, l)), v.2)

abbrev HasOne : {X : Type 0} → (X → Option ℕ) → X → List X → ℕ → Option ℕ → Type 0
HasOne h x xs y o = Contains (cons_option o (filter_map h xs)) y

value_first : {X : Type 0} (h : X → Option ℕ) (x : X) (xs : List X) (d : X) (y z : ℕ) → h x ≡ Some z
    → (Contains (filter_map h xs) y → HasValue h xs d y)
    → (k : ℕ) → k < length (z ∷ filter_map h xs) → get_or (z ∷ filter_map h xs) k y ≡ y → HasValue h (x ∷ xs) d y
value_first h x xs d y z e later zero l is = (0, omega arith, e ∙ ap Some is)
value_first h x xs d y z e later (suc k) l is = later_value h x xs d y (later (k, omega (arith, l), is))

value_step : {X : Type 0} (h : X → Option ℕ) (x : X) (xs : List X) (d : X) (y : ℕ) (o : Option ℕ) → h x ≡ o
    → (Contains (filter_map h xs) y → HasValue h xs d y) → HasOne h x xs y o → HasValue h (x ∷ xs) d y
value_step h x xs d y None e later c = later_value h x xs d y (later c)
value_step h x xs d y (Some z) e later c = value_first h x xs d y z e later c.0 c.1 c.2

-- a value among those of the items is that of an item
pub value_of : {X : Type 0} (h : X → Option ℕ) (xs : List X) (d : X) (y : ℕ) → Contains (filter_map h xs) y → HasValue h xs d y
value_of h [] d y c = absurd (let l = c.1 in omega (arith, l))
value_of h (x ∷ xs) d y c = value_step h x xs d y (h x) refl (value_of h xs d y) c

there_after : {X : Type 0} (h : X → Option ℕ) (x : X) (xs : List X) (y : ℕ) (o : Option ℕ) → Contains (filter_map h xs) y → HasOne h x xs y o
there_after h x xs y None c = c
there_after h x xs y (Some z) c = (suc c.0, (let l = c.1 in omega (arith, l)), c.2)

there_first : {X : Type 0} (h : X → Option ℕ) (x : X) (xs : List X) (y : ℕ) (o : Option ℕ) → o ≡ Some y → HasOne h x xs y o
there_first h x xs y None e = absurd cc
there_first h x xs y (Some z) e = let same : z ≡ y = cc in (0, omega arith, same)

-- the value of an item is among those of the items
pub value_among : {X : Type 0} (h : X → Option ℕ) (xs : List X) (d : X) (y i : ℕ) → i < length xs → h (get_or xs i d) ≡ Some y → Contains (filter_map h xs) y
value_among h [] d y i l e = absurd (omega (arith, l))
value_among h (x ∷ xs) d y zero l e = there_first h x xs y (h x) e
value_among h (x ∷ xs) d y (suc i) l e = there_after h x xs y (h x) (value_among h xs d y i (omega (arith, l)) e)

-- what is not None is Some of the number that is read of it
pub some_value : (o : Option ℕ) → o ≢ None → o ≡ Some (unwrap_or o 0)
some_value None n = absurd (n refl)
some_value (Some k) n = refl

-- ---- look-ups in a list of pairs

abbrev FailsBefore : {V : Type 0} → (List ℕ → Bool) → List (List ℕ × V) → ℕ → List ℕ × V → Type 0
FailsBefore test es i d = (k : ℕ) → k < i → test (get_or es k d).0 ≡ false

-- the value of the first pair that passes
pub lookup_at : {V : Type 0} (test : List ℕ → Bool) (es : List (List ℕ × V)) (i : ℕ) (d : List ℕ × V) → i < length es → FailsBefore test es i d
    → test (get_or es i d).0 ≡ true → lookup test es ≡ Some (get_or es i d).1
lookup_at test [] i d l fails passes = absurd (omega (arith, l))
lookup_at test (e ∷ es) zero d l fails passes = ap (λ (b : Bool). cond b (Some e.1) (lookup test es)) passes
lookup_at test (e ∷ es) (suc i) d l fails passes =
    ap (λ (b : Bool). cond b (Some e.1) (lookup test es)) (fails 0 (omega arith))
    ∙ lookup_at test es i d (omega (arith, l)) (λ k m. fails (suc k) (omega (arith, m))) passes

-- none if no pair passes
pub lookup_none : {V : Type 0} (test : List ℕ → Bool) (es : List (List ℕ × V)) (d : List ℕ × V) → FailsBefore test es (length es) d → lookup test es ≡ None
lookup_none test [] d fails = refl
lookup_none test (e ∷ es) d fails =
    ap (λ (b : Bool). cond b (Some e.1) (lookup test es)) (fails 0 (omega arith)) ∙ lookup_none test es d (λ k m. fails (suc k) (omega (arith, m)))
