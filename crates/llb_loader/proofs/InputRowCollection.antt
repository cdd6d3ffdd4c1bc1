-- The rows that inputs name, collected one input after another.
use Rattle.std.proofs.Common.{◌≡◌, ◌≢◌, ℕ, zero, suc, ◌+◌, ◌<◌, ◌≤◌, List, [], ◌∷◌, ◌++◌, Option, Some, None, length, take, get_or, refl, sym}
use Rattle.std.proofs.Common.{◌∙◌, ap, arith}
use Rattle.std.proofs.lemmas.List.{take_more, append-nil}
use Rattle.std.proofs.lemmas.List.Elements.{filter_map-append}
use Rattle.std.specs.List.{filter_map, cons_option}

filter_map_more : {X Y : Type 0} (h : X → Option Y) (xs : List X) (i : ℕ) (x : X) → i < length xs → x ≡ get_or xs i x
    → filter_map h (take (i + 1) xs) ≡ filter_map h (take i xs) ++ cons_option (h x) []
filter_map_more {X} {Y} h xs i x l e =
    ap (filter_map h) (take_more xs i x l) ∙ filter_map-append h (take i xs) (get_or xs i x ∷ [])
    ∙ ap (λ (y : X). filter_map h (take i xs) ++ cons_option (h y) []) (sym e)

-- the next item has a value, which comes after those of the items before it
pub filter_map_some : {X Y : Type 0} (h : X → Option Y) (xs : List X) (i : ℕ) (x : X) (y : Y) → i < length xs → x ≡ get_or xs i x → h x ≡ Some y
    → filter_map h (take (i + 1) xs) ≡ filter_map h (take i xs) ++ y ∷ []
filter_map_some {X} {Y} h xs i x y l e s = filter_map_more h xs i x l e ∙ ap (λ (o : Option Y). filter_map h (take i xs) ++ cons_option o []) s

-- the next item has no value, and the values stay as they are
pub filter_map_none : {X Y : Type 0} (h : X → Option Y) (xs : List X) (i : ℕ) (x : X) → i < length xs → x ≡ get_or xs i x → h x ≡ None
    → filter_map h (take (i + 1) xs) ≡ filter_map h (take i xs)
filter_map_none {X} {Y} h xs i x l e s = filter_map_more h xs i x l e
    ∙ ap (λ (o : Option Y). filter_map h (take i xs) ++ cons_option o []) s ∙ append-nil (filter_map h (take i xs))

-- there are at most as many values as items
short_step : {X Y : Type 0} (h : X → Option Y) (x : X) (xs : List X) (o : Option Y) → h x ≡ o → length (filter_map h xs) ≤ length xs
    → length (filter_map h (x ∷ xs)) ≤ length (x ∷ xs)
short_step {X} {Y} h x xs None e s =
    let n = ap (λ (o : Option Y). length (cons_option o (filter_map h xs))) e in omega (arith, n, s)
short_step {X} {Y} h x xs (Some y) e s =
    let n = ap (λ (o : Option Y). length (cons_option o (filter_map h xs))) e in omega (arith, n, s)

filter_map_short : {X Y : Type 0} (h : X → Option Y) (xs : List X) → length (filter_map h xs) ≤ length xs
filter_map_short h [] = omega arith
filter_map_short h (x ∷ xs) = short_step h x xs (h x) refl (filter_map_short h xs)

there_step : {X Y : Type 0} (h : X → Option Y) (x : X) (xs : List X) (d : X) (o : Option Y) → h x ≡ o
    → length (filter_map h (x ∷ xs)) ≡ length (x ∷ xs)
    → (length (filter_map h xs) ≡ length xs → (i : ℕ) → i < length xs → h (get_or xs i d) ≢ None)
    → (i : ℕ) → i < length (x ∷ xs) → h (get_or (x ∷ xs) i d) ≢ None
there_step {X} {Y} h x xs d None q e rest i l =
    let n = ap (λ (o : Option Y). length (cons_option o (filter_map h xs))) q in
    let s = filter_map_short h xs in
    absurd (omega (arith, n, s, e))
there_step h x xs d (Some y) q e rest zero l = λ z. (let w : Some y ≡ None = sym q ∙ z in cc)
there_step {X} {Y} h x xs d (Some y) q e rest (suc i) l =
    rest (let n = ap (λ (o : Option Y). length (cons_option o (filter_map h xs))) q in omega (arith, n, e)) i (omega (arith, l))

-- where there are as many values as items, each item has a value
pub each_there : {X Y : Type 0} (h : X → Option Y) (xs : List X) (d : X) → length (filter_map h xs) ≡ length xs
    → (i : ℕ) → i < length xs → h (get_or xs i d) ≢ None
each_there h [] d e i l = absurd (omega (arith, l))
each_there h (x ∷ xs) d e i l = there_step h x xs d (h x) refl e (each_there h xs d) i l
