-- The test whether a path matches a pattern agrees with the relation.
use Rattle.std.specs.Prelude.{◌≡◌, ◌↔◌, ℕ, zero, suc, Bool, true, false, ◌&&◌, ◌||◌, List, [], ◌∷◌, drop, IsTrue}
use Rattle.std.specs.Cmp.{both_ways}
use Rattle.std.specs.List.{list_any}
use Rattle.std.proofs.Common.{refl, inl, inr, eqb-true, eq-eqb, leb-true, le-leb}
use Rattle.std.proofs.lemmas.Bool.Decides.{Decides-or, Decides-not}
use Rattle.std.proofs.lemmas.Bool.{and_parts, and_from, or_cases, or_left, or_right, false≢true}
use Rattle.std.specs.Str.{chars}
use Rattle.llb_glob.specs.declared.item.Item.{Item}
use Rattle.llb_glob.specs.declared.item.Item.TheVariants.{Run, One}
use Rattle.llb_glob.specs.declared.item.Letter.{Letter}
use Rattle.llb_glob.specs.declared.item.Letter.TheVariants.{Any, Only, In}
use Rattle.llb_glob.specs.declared.class.Span.{Span}
use Rattle.llb_glob.specs.ClassValue.{ClassValue}
use Rattle.llb_glob.specs.Class.{IsInSpan, IsInSome, Excluding, ClassTakes, is_in_span, excluding, class_takes}
use Rattle.llb_glob.specs.Matching.{Takes, MatchesName, Matches, takes, any_suffix, name_matches, path_matches}

-- a test is true exactly if a statement holds
abbrev pub Tells : Bool → Type 0 → Type 0
Tells b P = IsTrue b ↔ P

both : (a b : Bool) (P Q : Type 0) → Tells a P → Tells b Q → Tells (a && b) (P × Q)
both a b P Q p q = (λ e. (p.0 (and_parts a b e).0, q.0 (and_parts a b e).1), λ h. and_from a b (p.1 h.0) (q.1 h.1))

-- ---- a class, by its items
is_in_span-tells : (span : Span) (c : ℕ) → Tells (is_in_span span c) (IsInSpan span c)
is_in_span-tells span c = both _ _ _ _ (leb-true span.low c, le-leb span.low c) (leb-true c span.high, le-leb c span.high)

any-tells : (spans : List Span) (c : ℕ) → Tells (list_any (λ span. is_in_span span c) spans) (IsInSome spans c)
any-tells [] c = (λ e. absurd (false≢true e), λ h. absurd h)
any-tells (span ∷ spans) c = Decides-or _ _ (is_in_span-tells span c) (any-tells spans c)

excluding-tells : (excludes b : Bool) (P : Type 0) → Tells b P → Tells (excluding excludes b) (Excluding excludes P)
excluding-tells false b P tells = tells
excluding-tells true b P tells = Decides-not b tells

pub class_takes-tells : (class : ClassValue) (c : ℕ) → Tells (class_takes class c) (ClassTakes class c)
class_takes-tells class c = excluding-tells class.excludes _ _ (any-tells class.spans c)

takes-tells : (l : Letter) (c : ℕ) → Tells (takes l c) (Takes l c)
takes-tells Any c = (λ _. tt, λ _. refl)
takes-tells (Only only) c = (eqb-true c only, eq-eqb c only)
takes-tells (In class) c = class_takes-tells class c

-- if a test agrees with the relation for each name, so does the test of all suffixes of a name
suffix-tells : (items : List Item) → ((name : List ℕ) → Tells (name_matches items name) (MatchesName items name)) → (name : List ℕ)
    → Tells (any_suffix (name_matches items) name) ((n : ℕ) × MatchesName items (drop n name))
suffix-tells items each [] = (λ e. (0, (each []).0 e), λ h. (each []).1 (at_end h.0 h.1))
  where
    at_end : (n : ℕ) → MatchesName items (drop n []) → MatchesName items []
    at_end zero m = m
    at_end (suc n) m = m
suffix-tells items each (c ∷ cs) = (there (suffix-tells items each cs), λ h. back (suffix-tells items each cs) h.0 h.1)
  where
    there : Tells (any_suffix (name_matches items) cs) ((n : ℕ) × MatchesName items (drop n cs))
        → IsTrue (name_matches items (c ∷ cs) || any_suffix (name_matches items) cs) → (n : ℕ) × MatchesName items (drop n (c ∷ cs))
    there rest e =
        elim (or_cases (name_matches items (c ∷ cs)) (any_suffix (name_matches items) cs) e) [
          | inl here ↦ (0, (each (c ∷ cs)).0 here)
          | inr later ↦ (suc (rest.0 later).0, (rest.0 later).1)
        ]

    back : Tells (any_suffix (name_matches items) cs) ((n : ℕ) × MatchesName items (drop n cs))
        → (n : ℕ) → MatchesName items (drop n (c ∷ cs)) → IsTrue (name_matches items (c ∷ cs) || any_suffix (name_matches items) cs)
    back rest zero m = or_left _ _ ((each (c ∷ cs)).1 m)
    back rest (suc n) m = or_right _ _ (rest.1 (n, m))

pub name_matches-tells : (items : List Item) (name : List ℕ) → Tells (name_matches items name) (MatchesName items name)
name_matches-tells [] [] = (λ _. tt, λ _. refl)
name_matches-tells [] (c ∷ name) = (λ e. absurd (false≢true e), λ h. absurd h)
name_matches-tells (Run ∷ items) name = suffix-tells items (name_matches-tells items) name
name_matches-tells (One letter ∷ items) [] = (λ e. absurd (false≢true e), λ h. absurd h)
name_matches-tells (One letter ∷ items) (c ∷ name) = both _ _ _ _ (takes-tells letter c) (name_matches-tells items name)

-- the test of a path agrees with the relation
pub path_matches-tells : (parts : List (List Item)) (path : List (List ℕ)) → IsTrue (path_matches parts path) ↔ Matches parts path
path_matches-tells [] [] = (λ _. tt, λ _. refl)
path_matches-tells [] (name ∷ path) = (λ e. absurd (false≢true e), λ h. absurd h)
path_matches-tells (part ∷ parts) [] = (λ e. absurd (false≢true e), λ h. absurd h)
path_matches-tells (part ∷ parts) (name ∷ path) = both _ _ _ _ (name_matches-tells part (chars name)) (path_matches-tells parts path)

-- whatever decides whether a path matches is the test
pub is_the_test : (b : Bool) (parts : List (List Item)) (path : List (List ℕ)) → (IsTrue b ↔ Matches parts path) → b ≡ path_matches parts path
is_the_test b parts path tells = both_ways b (path_matches parts path) (λ e. (path_matches-tells parts path).1 (tells.0 e))
    (λ e. tells.1 ((path_matches-tells parts path).0 e))

-- any test that agrees with the relation of names equals the test of names
pub is_the_name_test : (b : Bool) (items : List Item) (name : List ℕ) → (IsTrue b ↔ MatchesName items name) → b ≡ name_matches items name
is_the_name_test b items name tells = both_ways b (name_matches items name) (λ e. (name_matches-tells items name).1 (tells.0 e))
    (λ e. tells.1 ((name_matches-tells items name).0 e))
