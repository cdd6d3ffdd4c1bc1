-- What two of a kind are, and what looks at no content.
use Rattle.std.proofs.Common.{◌≡◌, ℕ, zero, suc, Bool, true, false, cond, List, [], ◌∷◌, ◌++◌, length, map, get_or, Option, Some, None, refl, sym, ap}
use Rattle.std.proofs.Common.{subst}
use Rattle.std.specs.Prelude.{Result, Ok, Err, slice_get, slice_set, option_and_then}
use Rattle.std.specs.List.{filter}
use Rattle.llb_wire.specs.CallResults.{◌>>=◌}
use Rattle.llb_tree.specs.Tree.{Entry, Dir, File}
use Rattle.llb_tree.specs.ModeAndOwner.{MetaValue}
use Rattle.llb_laws.specs.AlikeTrees.{BothOptions, BothResults, BothLists, AreLike}

-- ---- options

pub carry_options : {A : Type 0} (P : A → A → Type 0) (a b c d : Option A) → a ≡ b → c ≡ d → BothOptions P b d → BothOptions P a c
carry_options P a b c d first second h = subst (λ o. BothOptions P o c) (sym first) (subst (λ o. BothOptions P b o) (sym second) h)

pub none_both : {A : Type 0} (P : A → A → Type 0) → BothOptions P None None
none_both P = tt

pub some_both : {A : Type 0} (P : A → A → Type 0) (x y : A) → P x y → BothOptions P (Some x) (Some y)
some_both P x y h = h

-- two choices between options, by equal tests, are alike if the options are
pub cond_options : {A : Type 0} (P : A → A → Type 0) (a b : Bool) (o p q r : Option A) → a ≡ b → BothOptions P o p → BothOptions P q r
    → BothOptions P (cond a o q) (cond b p r)
cond_options P a b o p q r same first second =
    subst (λ c. BothOptions P (cond a o q) (cond c p r)) same
    (elim a as (λ c. BothOptions P (cond c o q) (cond c p r)) [ true ↦ first | false ↦ second ])

-- what goes on from one option, or from two of which P holds
pub then_same : {A B : Type 0} (P : B → B → Type 0) (o p : Option A) (f g : A → Option B) → o ≡ p → ((a : A) → BothOptions P (f a) (g a))
    → BothOptions P (option_and_then f o) (option_and_then g p)
then_same {A = A} P o p f g same each = subst (λ z. BothOptions P (option_and_then f o) (option_and_then g z)) same (by_option o)
  where
    by_option : (z : Option A) → BothOptions P (option_and_then f z) (option_and_then g z)
    by_option (Some a) = each a
    by_option None = tt

pub then_both : {A B : Type 0} (Q : A → A → Type 0) (P : B → B → Type 0) (o p : Option A) (f g : A → Option B) → BothOptions Q o p
    → ((a b : A) → Q a b → BothOptions P (f a) (g b)) → BothOptions P (option_and_then f o) (option_and_then g p)
then_both Q P (Some a) (Some b) f g h each = each a b h
then_both Q P None None f g h each = tt
then_both Q P (Some a) None f g h each = absurd h
then_both Q P None (Some b) f g h each = absurd h

-- P of the value, if there is one
abbrev pub InOption : {A : Type 0} → (A → Type 0) → Option A → Type 0
InOption P None = Unit {0}
InOption P (Some a) = P a

pub in_cond : {A : Type 0} (P : A → Type 0) (b : Bool) (o p : Option A) → InOption P o → InOption P p → InOption P (cond b o p)
in_cond P true o p first second = first
in_cond P false o p first second = second

pub in_then : {A B : Type 0} (Q : A → Type 0) (P : B → Type 0) (o : Option A) (f : A → Option B) → InOption Q o → ((a : A) → Q a → InOption P (f a))
    → InOption P (option_and_then f o)
in_then Q P None f h each = tt
in_then Q P (Some a) f h each = each a h

-- what goes on from one option, of whose value Q holds
pub then_in : {A B : Type 0} (Q : A → Type 0) (P : B → B → Type 0) (o p : Option A) (f g : A → Option B) → o ≡ p → InOption Q o
    → ((a : A) → Q a → BothOptions P (f a) (g a)) → BothOptions P (option_and_then f o) (option_and_then g p)
then_in {A = A} Q P o p f g same there each = subst (λ z. BothOptions P (option_and_then f o) (option_and_then g z)) same (by_option o there)
  where
    by_option : (z : Option A) → InOption Q z → BothOptions P (option_and_then f z) (option_and_then g z)
    by_option (Some a) is = each a is
    by_option None is = tt

-- ---- results

-- two choices between results, by equal tests, are alike if the results are
pub cond_results : {A F : Type 0} (P : A → A → Type 0) (a b : Bool) (o p q r : Result A F) → a ≡ b → BothResults P o p → BothResults P q r
    → BothResults P (cond a o q) (cond b p r)
cond_results P a b o p q r same first second =
    subst (λ c. BothResults P (cond a o q) (cond c p r)) same
    (elim a as (λ c. BothResults P (cond c o q) (cond c p r)) [ true ↦ first | false ↦ second ])

-- two equal results, each followed by a call, are alike if what the calls return for each value is
pub after_same : {A B F : Type 0} (P : B → B → Type 0) (x y : Result A F) (f g : A → Result B F) → x ≡ y
    → ((a : A) → BothResults P (f a) (g a)) → BothResults P (x >>= f) (y >>= g)
after_same {A = A} {F = F} P x y f g same each = subst (λ z. BothResults P (x >>= f) (z >>= g)) same (by_result x)
  where
    by_result : (z : Result A F) → BothResults P (z >>= f) (z >>= g)
    by_result (Ok a) = each a
    by_result (Err e) = refl

pub after_both : {A B F : Type 0} (Q : A → A → Type 0) (P : B → B → Type 0) (x y : Result A F) (f g : A → Result B F) → BothResults Q x y
    → ((a b : A) → Q a b → BothResults P (f a) (g b)) → BothResults P (x >>= f) (y >>= g)
after_both Q P (Ok a) (Ok b) f g h each = each a b h
after_both Q P (Err e) (Err d) f g h each = h
after_both Q P (Ok a) (Err d) f g h each = absurd h
after_both Q P (Err e) (Ok b) f g h each = absurd h

-- P of the value, if the result is one
abbrev pub InResult : {A F : Type 0} → (A → Type 0) → Result A F → Type 0
InResult P (Ok a) = P a
InResult P (Err e) = Unit {0}

pub in_choice : {A F : Type 0} (P : A → Type 0) (b : Bool) (x y : Result A F) → (b ≡ true → InResult P x) → InResult P y → InResult P (cond b x y)
in_choice P true x y first second = first refl
in_choice P false x y first second = second

pub in_after : {A B F : Type 0} (Q : A → Type 0) (P : B → Type 0) (x : Result A F) (f : A → Result B F) → InResult Q x
    → ((a : A) → Q a → InResult P (f a)) → InResult P (x >>= f)
in_after Q P (Ok a) f h each = each a h
in_after Q P (Err e) f h each = tt

-- two equal results, each followed by a call, are alike if what the calls return for each value of which Q holds is, and Q holds of theirs
pub after_in : {A B F : Type 0} (Q : A → Type 0) (P : B → B → Type 0) (x y : Result A F) (f g : A → Result B F) → x ≡ y → InResult Q x
    → ((a : A) → Q a → BothResults P (f a) (g a)) → BothResults P (x >>= f) (y >>= g)
after_in {A = A} {F = F} Q P x y f g same there each = subst (λ z. BothResults P (x >>= f) (z >>= g)) same (by_result x there)
  where
    by_result : (z : Result A F) → InResult Q z → BothResults P (z >>= f) (z >>= g)
    by_result (Ok a) is = each a is
    by_result (Err e) is = refl

-- ---- lists

pub both_length : {A : Type 0} (P : A → A → Type 0) (xs ys : List A) → BothLists P xs ys → length xs ≡ length ys
both_length P [] [] h = refl
both_length P (x ∷ xs) (y ∷ ys) h = ap suc (both_length P xs ys h.1)
both_length P [] (y ∷ ys) h = absurd h
both_length P (x ∷ xs) [] h = absurd h

pub both_append : {A : Type 0} (P : A → A → Type 0) (xs ys zs ws : List A) → BothLists P xs ys → BothLists P zs ws → BothLists P (xs ++ zs) (ys ++ ws)
both_append P [] [] zs ws h k = k
both_append P (x ∷ xs) (y ∷ ys) zs ws h k = (h.0, both_append P xs ys zs ws h.1 k)
both_append P [] (y ∷ ys) zs ws h k = absurd h
both_append P (x ∷ xs) [] zs ws h k = absurd h

pub both_map : {A B : Type 0} (P : A → A → Type 0) (Q : B → B → Type 0) (f g : A → B) → ((x y : A) → P x y → Q (f x) (g y)) → (xs ys : List A)
    → BothLists P xs ys → BothLists Q (map f xs) (map g ys)
both_map P Q f g each [] [] h = tt
both_map P Q f g each (x ∷ xs) (y ∷ ys) h = (each x y h.0, both_map P Q f g each xs ys h.1)
both_map P Q f g each [] (y ∷ ys) h = absurd h
both_map P Q f g each (x ∷ xs) [] h = absurd h

-- maps of one list
pub both_maps : {A B : Type 0} (Q : B → B → Type 0) (f g : A → B) → ((x : A) → Q (f x) (g x)) → (xs : List A) → BothLists Q (map f xs) (map g xs)
both_maps Q f g each [] = tt
both_maps Q f g each (x ∷ xs) = (each x, both_maps Q f g each xs)

pub map_both : {A B : Type 0} (P : A → A → Type 0) (f g : A → B) → ((x y : A) → P x y → f x ≡ g y) → (xs ys : List A) → BothLists P xs ys
    → map f xs ≡ map g ys
map_both P f g each [] [] h = refl
map_both P f g each (x ∷ xs) (y ∷ ys) h = let first = each x y h.0 in let rest = map_both P f g each xs ys h.1 in λ i. first i ∷ rest i
map_both P f g each [] (y ∷ ys) h = absurd h
map_both P f g each (x ∷ xs) [] h = absurd h

pub both_filter : {A : Type 0} (P : A → A → Type 0) (f : A → Bool) → ((x y : A) → P x y → f x ≡ f y) → (xs ys : List A) → BothLists P xs ys
    → BothLists P (filter f xs) (filter f ys)
both_filter P f each [] [] h = tt
both_filter P f each (x ∷ xs) (y ∷ ys) h =
    let rest = both_filter P f each xs ys h.1 in
    subst (λ c. BothLists P (cond (f x) (x ∷ filter f xs) (filter f xs)) (cond c (y ∷ filter f ys) (filter f ys))) (each x y h.0)
    (elim (f x) as (λ c. BothLists P (cond c (x ∷ filter f xs) (filter f xs)) (cond c (y ∷ filter f ys) (filter f ys))) [
      | true ↦ (h.0, rest)
      | false ↦ rest
    ])
both_filter P f each [] (y ∷ ys) h = absurd h
both_filter P f each (x ∷ xs) [] h = absurd h

pub both_get_or : {A : Type 0} (P : A → A → Type 0) (xs ys : List A) (i : ℕ) (d : A) → P d d → BothLists P xs ys → P (get_or xs i d) (get_or ys i d)
both_get_or P [] [] i d none h = none
both_get_or P (x ∷ xs) (y ∷ ys) zero d none h = h.0
both_get_or P (x ∷ xs) (y ∷ ys) (suc i) d none h = both_get_or P xs ys i d none h.1
both_get_or P [] (y ∷ ys) i d none h = absurd h
both_get_or P (x ∷ xs) [] i d none h = absurd h

pub both_get : {A : Type 0} (P : A → A → Type 0) (xs ys : List A) (i : ℕ) → BothLists P xs ys → BothOptions P (slice_get xs i) (slice_get ys i)
both_get P [] [] i h = tt
both_get P (x ∷ xs) (y ∷ ys) zero h = h.0
both_get P (x ∷ xs) (y ∷ ys) (suc i) h = both_get P xs ys i h.1
both_get P [] (y ∷ ys) i h = absurd h
both_get P (x ∷ xs) [] i h = absurd h

pub both_set : {A : Type 0} (P : A → A → Type 0) (xs ys : List A) (i : ℕ) (x y : A) → P x y → BothLists P xs ys
    → BothLists P (slice_set xs i x) (slice_set ys i y)
both_set P [] [] i x y new h = tt
both_set P (z ∷ zs) (w ∷ ws) zero x y new h = (new, h.1)
both_set P (z ∷ zs) (w ∷ ws) (suc i) x y new h = (h.0, both_set P zs ws i x y new h.1)
both_set P [] (w ∷ ws) i x y new h = absurd h
both_set P (z ∷ zs) [] i x y new h = absurd h

-- ---- like entries

module _ (R : List ℕ → List ℕ → Type 0) where
  -- what holds of nothing, of one directory and of files with one mode and owner and related contents, holds of like entries
  pub by_likeness : (Q : Option Entry → Option Entry → Type 0) → Q None None → ((m : MetaValue) → Q (Some (Dir m)) (Some (Dir m)))
      → ((m : MetaValue) (a b : List ℕ) → R a b → Q (Some (File m a)) (Some (File m b)))
      → (o p : Option Entry) → BothOptions (AreLike R) o p → Q o p
  by_likeness Q none dir file None None h = none
  by_likeness Q none dir file (Some (Dir m)) (Some (Dir n)) h = subst (λ x. Q (Some (Dir m)) (Some (Dir x))) h (dir m)
  by_likeness Q none dir file (Some (File m a)) (Some (File n b)) h = subst (λ x. Q (Some (File m a)) (Some (File x b))) h.0 (file m a b h.1)
  by_likeness Q none dir file None (Some e) h = absurd h
  by_likeness Q none dir file (Some e) None h = absurd h
  by_likeness Q none dir file (Some (Dir m)) (Some (File n b)) h = absurd h
  by_likeness Q none dir file (Some (File m a)) (Some (Dir n)) h = absurd h

  -- what looks at no content is the same for like entries
  pub unread : {X : Type 0} (f : Option Entry → X) → ((m : MetaValue) (a b : List ℕ) → f (Some (File m a)) ≡ f (Some (File m b)))
      → (o p : Option Entry) → BothOptions (AreLike R) o p → f o ≡ f p
  unread f blind o p h = by_likeness (λ x y. f x ≡ f y) refl (λ m. refl) (λ m a b r. blind m a b) o p h

  pub like_entry : (e f : Entry) → BothOptions (AreLike R) (Some e) (Some f) → AreLike R e f
  like_entry e f h = h
