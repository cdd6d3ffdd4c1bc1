-- Children that are gone through one after another: those that are left are the ones after the first i.
use Rattle.std.proofs.Common.{◌≡◌, ℕ, zero, suc, ◌+◌, ◌<◌, ◌≤◌, List, [], ◌∷◌, length, drop, get_or, refl, sym, ap, ◌∙◌, arith, add-one}
use Rattle.llb_tree.specs.declared.node.Child.{Child}

pub record IsAt (all left : List Child) (i : ℕ) : Type 0 where
  pub within : i ≤ length all
  pub suffix : left ≡ drop i all

-- the next child is the one at i, and after it those after the first i + 1 are left
pub record IsNext (all rest : List Child) (i : ℕ) (kid : Child) : Type 0 where
  pub within : i < length all
  pub here : kid ≡ get_or all i kid
  pub at : IsAt all rest (i + 1)

pub at_start : (all : List Child) → IsAt all all 0
at_start all = record { within = omega arith; suffix = refl }

pub at_next : (all left rest : List Child) (kid : Child) (i : ℕ) → IsAt all left i → left ≡ kid ∷ rest → IsNext all rest i kid
at_next all left rest kid i at is =
    let next = go all i at.within (sym at.suffix ∙ is) in
    record { within = next.0; here = next.1; at = record { within = omega (arith, next.0); suffix = next.2 ∙ ap (λ j. drop j all) (sym (add-one i)) } }
  where
    first : (a b : Child) (xs ys : List Child) → a ∷ xs ≡ b ∷ ys → (b ≡ a) × (ys ≡ xs)
    first a b xs ys e = (cc, cc)

    go : (all : List Child) (i : ℕ) → i ≤ length all → drop i all ≡ kid ∷ rest → (i < length all) × (kid ≡ get_or all i kid) × (rest ≡ drop (suc i) all)
    go [] zero le e = absurd cc
    go [] (suc i) le e = absurd (omega arith)
    go (k ∷ ks) zero le e = let parts = first k kid ks rest e in (omega arith, parts.0, parts.1)
    go (k ∷ ks) (suc i) le e = let more = go ks i (omega arith) e in (omega (arith, more.0), more.1, more.2)

pub at_end : (all left : List Child) (i : ℕ) → IsAt all left i → left ≡ [] → length all ≤ i
at_end all left i at none = go all i (sym at.suffix ∙ none)
  where
    go : (all : List Child) (i : ℕ) → drop i all ≡ [] → length all ≤ i
    go [] i e = omega arith
    go (k ∷ ks) zero e = absurd cc
    go (k ∷ ks) (suc i) e = let rest = go ks i e in omega (arith, rest)

-- one child less is left
pub fewer : (left rest : List Child) (kid : Child) → left ≡ kid ∷ rest → length rest < length left
fewer left rest kid is = omega (arith, ap length is)
