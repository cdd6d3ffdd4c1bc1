-- Records that are picked by the number of their field.
use Rattle.std.proofs.Common.{◌≡◌, ℕ, Bool, true, false, eqb, List, [], ◌∷◌, ◌++◌, refl, sym, ap, subst, eq-eqb}
use Rattle.std.specs.Prelude.{filter, is_none, not, ◌&&◌, ◌||◌}
use Rattle.std.specs.List.{AllByRecursion, list_all, list_any}
use Rattle.std.specs.Bool.{◌==◌}
use Rattle.std.proofs.lemmas.Bool.{eqb-true}
use Rattle.llb_wire.specs.Records.{Record}
use Rattle.llb_ops.specs.Records.{Shape, form_of, is_member}

-- ---- lists

-- what holds of all of two lists holds of all of one after the other
pub All-append : {X : Type 0} (P : X → Type 0) (xs ys : List X) → AllByRecursion P xs → AllByRecursion P ys → AllByRecursion P (xs ++ ys)
All-append P [] ys a b = b
All-append P (x ∷ xs) ys a b = (a.0, All-append P xs ys a.1 b)

-- what holds of all of two lists, one after the other, holds of all of the first
pub All-front : {X : Type 0} (P : X → Type 0) (xs ys : List X) → AllByRecursion P (xs ++ ys) → AllByRecursion P xs
All-front P [] ys h = tt
All-front P (x ∷ xs) ys h = (h.0, All-front P xs ys h.1)

-- what holds of all of two lists, one after the other, holds of all of the second
pub All-behind : {X : Type 0} (P : X → Type 0) (xs ys : List X) → AllByRecursion P (xs ++ ys) → AllByRecursion P ys
All-behind P [] ys h = h
All-behind P (x ∷ xs) ys h = All-behind P xs ys h.1

-- where one fact holds of all, so does another that follows from it
pub All-map : {X : Type 0} (P Q : X → Type 0) (xs : List X) → ((x : X) → P x → Q x) → AllByRecursion P xs → AllByRecursion Q xs
All-map P Q [] f h = tt
All-map P Q (x ∷ xs) f h = (f x h.0, All-map P Q xs f h.1)

-- two facts that each hold of all hold of all together
pub All-both : {X : Type 0} (P Q : X → Type 0) (xs : List X) → AllByRecursion P xs → AllByRecursion Q xs → AllByRecursion (λ x. P x × Q x) xs
All-both P Q [] h k = tt
All-both P Q (x ∷ xs) h k = ((h.0, k.0), All-both P Q xs h.1 k.1)

keep_more : {X : Type 0} (P : X → Type 0) (p : X → Bool) (x : X) (xs : List X) (b : Bool) → p x ≡ b → P x → AllByRecursion P (filter p xs)
    → AllByRecursion P (filter p (x ∷ xs))
keep_more P p x xs true e h rest = rw e (h, rest)
keep_more P p x xs false e h rest = rw e rest

-- what holds of all holds of those that a test picks
pub All-filter : {X : Type 0} (P : X → Type 0) (p : X → Bool) (xs : List X) → AllByRecursion P xs → AllByRecursion P (filter p xs)
All-filter P p [] h = tt
All-filter P p (x ∷ xs) h = keep_more P p x xs (p x) refl h.0 (All-filter P p xs h.1)

passes_more : {X : Type 0} (p : X → Bool) (x : X) (xs : List X) (b : Bool) → p x ≡ b → AllByRecursion (λ y. p y ≡ true) (filter p xs)
    → AllByRecursion (λ y. p y ≡ true) (filter p (x ∷ xs))
passes_more p x xs true e rest = rw e (e, rest)
passes_more p x xs false e rest = rw e rest

-- all that a test picks pass it
pub filter_passes : {X : Type 0} (p : X → Bool) (xs : List X) → AllByRecursion (λ x. p x ≡ true) (filter p xs)
filter_passes p [] = tt
filter_passes p (x ∷ xs) = passes_more p x xs (p x) refl (filter_passes p xs)

-- where all pass a test, it picks all of them
pub filter_all : {X : Type 0} (p : X → Bool) (xs : List X) → AllByRecursion (λ x. p x ≡ true) xs → filter p xs ≡ xs
filter_all p [] h = refl
filter_all p (x ∷ xs) h = let e = h.0 in rw e (ap (λ ys. x ∷ ys) (filter_all p xs h.1))

-- where none passes a test, it picks none
pub filter_none : {X : Type 0} (p : X → Bool) (xs : List X) → AllByRecursion (λ x. p x ≡ false) xs → filter p xs ≡ []
filter_none p [] h = refl
filter_none p (x ∷ xs) h = let e = h.0 in rw e (filter_none p xs h.1)

-- the step of `filter_narrow`: it still holds with one more item
narrow_more : {X : Type 0} (p q : X → Bool) (x : X) (xs : List X) (a b : Bool) → p x ≡ a → q x ≡ b → (p x ≡ true → q x ≡ true)
    → filter p (filter q xs) ≡ filter p xs → filter p (filter q (x ∷ xs)) ≡ filter p (x ∷ xs)
narrow_more p q x xs true true e f wider h = rw (f, e) (ap (λ ys. x ∷ ys) h)
narrow_more p q x xs false true e f wider h = rw (f, e) h
narrow_more p q x xs true false e f wider h = absurd (let g = wider e in cc)
narrow_more p q x xs false false e f wider h = rw (f, e) h

-- a test picks the same among all as among what a wider test has picked of them
pub filter_narrow : {X : Type 0} (p q : X → Bool) (xs : List X) → ((x : X) → p x ≡ true → q x ≡ true) → filter p (filter q xs) ≡ filter p xs
filter_narrow p q [] wider = refl
filter_narrow p q (x ∷ xs) wider = narrow_more p q x xs (p x) (q x) refl refl (wider x) (filter_narrow p q xs wider)

-- ---- numbers of fields

-- the records of fields with these numbers
abbrev pub mine : List ℕ → List Record → List Record
mine ns rs = filter (is_member ns) rs

-- the number is among these
abbrev pub has : List ℕ → ℕ → Bool
has ns k = list_any (λ m. m == k) ns

or_left : (a b : Bool) → a ≡ true → a || b ≡ true
or_left true b e = refl
or_left false b e = absurd cc

or_right : (a b : Bool) → b ≡ true → a || b ≡ true
or_right true b e = refl
or_right false b e = e

or_cases : (a b : Bool) → a ≡ false → b ≡ false → a || b ≡ false
or_cases true b e f = absurd cc
or_cases false b e f = f

-- a number among the first of two lists is among both together
pub has_left : (ns ms : List ℕ) (k : ℕ) → has ns k ≡ true → has (ns ++ ms) k ≡ true
has_left [] ms k e = absurd cc
has_left (n ∷ ns) ms k e = go (eqb n k) refl e (λ h. has_left ns ms k h) where
  go : (b : Bool) → eqb n k ≡ b → has (n ∷ ns) k ≡ true → (has ns k ≡ true → has (ns ++ ms) k ≡ true) → has ((n ∷ ns) ++ ms) k ≡ true
  go true f e more = or_left (eqb n k) (has (ns ++ ms) k) f
  go false f e more = or_right (eqb n k) (has (ns ++ ms) k) (more (rw f at e))

-- a number among the second of two lists is among both together
pub has_right : (ns ms : List ℕ) (k : ℕ) → has ms k ≡ true → has (ns ++ ms) k ≡ true
has_right [] ms k e = e
has_right (n ∷ ns) ms k e = or_right (eqb n k) (has (ns ++ ms) k) (has_right ns ms k e)

-- a number is among the list of the one that it equals
pub has_one : (n k : ℕ) → eqb k n ≡ true → has (n ∷ []) k ≡ true
has_one n k e = or_left (eqb n k) false (eq-eqb n k (sym (eqb-true k n e)))

-- no number is in both lists
abbrev pub apart : List ℕ → List ℕ → Bool
apart ns ms = list_all (λ n. not (has ms n)) ns

-- where two tests hold together, each does
pub and_both : (a b : Bool) → a && b ≡ true → (a ≡ true) × (b ≡ true)
and_both true b e = (refl, e)
and_both false b e = absurd cc

not_true : (b : Bool) → not b ≡ true → b ≡ false
not_true true e = absurd cc
not_true false e = refl

-- where no number is in both of two lists, one that is in the second is not in the first
pub apart_left : (ns ms : List ℕ) (k : ℕ) → apart ns ms ≡ true → has ms k ≡ true → has ns k ≡ false
apart_left [] ms k e h = refl
apart_left (n ∷ ns) ms k e h =
    let both = and_both (not (has ms n)) (apart ns ms) e in
    or_cases (eqb n k) (has ns k) (other (eqb n k) refl (not_true (has ms n) both.0)) (apart_left ns ms k both.1 h) where
      other : (b : Bool) → eqb n k ≡ b → has ms n ≡ false → eqb n k ≡ false
      other true f e = let same : has ms k ≡ false = subst (λ (j : ℕ). has ms j ≡ false) (eqb-true n k f) e in absurd cc
      other false f e = f

-- where no number is in both of two lists, one that is in the first is not in the second
pub apart_right : (ns ms : List ℕ) (k : ℕ) → apart ns ms ≡ true → has ns k ≡ true → has ms k ≡ false
apart_right ns ms k e h = go (has ms k) refl where
  go : (b : Bool) → has ms k ≡ b → has ms k ≡ false
  go true f = let g = apart_left ns ms k e f in absurd cc
  go false f = f

-- ---- what a message names

-- each of these numbers is named
abbrev pub are_named : Shape → List ℕ → Bool
are_named shape ns = list_all (λ n. not (is_none (form_of shape n))) ns

-- where a message names each of some numbers, it names one that is among them
pub named_of : (shape : Shape) (ns : List ℕ) (k : ℕ) → are_named shape ns ≡ true → has ns k ≡ true → is_none (form_of shape k) ≡ false
named_of shape [] k e h = absurd cc
named_of shape (n ∷ ns) k e h =
    let both = and_both (not (is_none (form_of shape n))) (are_named shape ns) e in
    go (eqb n k) refl h (not_true (is_none (form_of shape n)) both.0) (λ g. named_of shape ns k both.1 g) where
      go : (b : Bool) → eqb n k ≡ b → has (n ∷ ns) k ≡ true → is_none (form_of shape n) ≡ false
          → (has ns k ≡ true → is_none (form_of shape k) ≡ false) → is_none (form_of shape k) ≡ false
      go true f h named more = subst (λ (j : ℕ). is_none (form_of shape j) ≡ false) (eqb-true n k f) named
      go false f h named more = more (rw f at h)

-- the records that the message doesn't name
abbrev pub extras_of : Shape → List Record → List Record
extras_of shape rs = filter (λ r. is_none (form_of shape r.number)) rs

-- where a message names each of some numbers, one that it does not name is not among them
pub unnamed_has : (shape : Shape) (ns : List ℕ) (k : ℕ) → are_named shape ns ≡ true → is_none (form_of shape k) ≡ true → has ns k ≡ false
unnamed_has shape ns k e h = go (has ns k) refl where
  go : (b : Bool) → has ns k ≡ b → has ns k ≡ false
  go true f = let g = named_of shape ns k e f in absurd cc
  go false f = f
