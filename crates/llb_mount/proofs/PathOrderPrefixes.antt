-- What the order of paths says of prefixes: a prefix of a path comes before it and before nothing that is between the two.
use Rattle.std.proofs.Common.{◌≡◌, ℕ, ◌≤◌, Bool, true, false, List, [], ◌∷◌, length, take, drop, get_or, refl, sym, ap, ◌∙◌, arith, true≢false}
use Rattle.std.specs.declared.cmp.Ordering.{Ordering}
use Rattle.std.specs.declared.cmp.Ordering.TheVariants.{Less, Equal, Greater}
use Rattle.std.specs.Ordering.{is_lt, ordering_reverse, ordering_then}
use Rattle.std.specs.Cmp.{tied_itself}
use Rattle.std.specs.Cmp.Lexicographic.{nat_list_cmp_total, pointwise_decides, bytes_decides}
use Rattle.llb_tree.specs.Path.{name_cmp, path_cmp, is_within}
use Rattle.llb_tree.specs.PathOrder.{path_cmp-IsTotalOrder, name_cmp-IsAntisymmetric, path_cmp-IsAntisymmetric}
use Rattle.llb_mount.specs.DestOrder.{is_before}

pub never : (b : Bool) → (b ≡ true → ⊥) → b ≡ false
never true none = absurd (none refl)
never false none = refl

less : (o : Ordering) → is_lt o ≡ true → o ≡ Less
less Less e = refl
less Equal e = absurd (true≢false (sym e))
less Greater e = absurd (true≢false (sym e))

back : (o : Ordering) → is_lt o ≡ true → is_lt (ordering_reverse o) ≡ false
back Less e = refl
back Equal e = absurd (true≢false (sym e))
back Greater e = absurd (true≢false (sym e))

turned : (o : Ordering) → is_lt o ≡ false → (o ≡ Equal → ⊥) → is_lt (ordering_reverse o) ≡ true
turned Less low apart = absurd (true≢false low)
turned Equal low apart = absurd (apart refl)
turned Greater low apart = refl

-- ---- the order

pub chain : (p q r : List (List ℕ)) → is_before p q ≡ true → is_before q r ≡ true → is_before p r ≡ true
chain p q r first second = ap is_lt (path_cmp-IsTotalOrder.trans p q r (less (path_cmp p q) first) (less (path_cmp q r) second))

pub not_back : (p q : List (List ℕ)) → is_before p q ≡ true → is_before q p ≡ false
not_back p q first = ap is_lt (path_cmp-IsTotalOrder.antisymm q p) ∙ back (path_cmp p q) first

pub not_itself : (p : List (List ℕ)) → is_before p p ≡ false
not_itself p = ap is_lt (tied_itself path_cmp-IsTotalOrder p)

-- of two paths that differ one comes before the other
pub comes_before : (p q : List (List ℕ)) → is_before q p ≡ false → (q ≡ p → ⊥) → is_before p q ≡ true
comes_before p q low apart =
    ap is_lt (path_cmp-IsTotalOrder.antisymm p q) ∙ turned (path_cmp q p) low (λ e. apart (path_cmp-IsAntisymmetric q p e))

pub none_before_root : (p : List (List ℕ)) → is_before p [] ≡ false
none_before_root [] = refl
none_before_root (n ∷ p) = refl

-- ---- prefixes

front : (p r : List (List ℕ)) → is_within p r ≡ true → p ≡ take (length p) r
front p r is = (pointwise_decides bytes_decides p (take (length p) r)).0 is

first : (n m : List ℕ) (p r : List (List ℕ)) → n ∷ p ≡ take (length (n ∷ p)) (m ∷ r) → n ≡ m
first n m p r e = ap (λ (l : List (List ℕ)). get_or l 0 n) e

rest : (n m : List ℕ) (p r : List (List ℕ)) → n ∷ p ≡ take (length (n ∷ p)) (m ∷ r) → p ≡ take (length p) r
rest n m p r e = ap (λ (l : List (List ℕ)). drop 1 l) e

not_behind : (p r : List (List ℕ)) → p ≡ take (length p) r → is_before r p ≡ false
not_behind [] r e = none_before_root r
not_behind (n ∷ p) [] e = absurd (omega (arith, ap (λ (l : List (List ℕ)). length l) e))
not_behind (n ∷ p) (m ∷ r) e =
    let same : name_cmp m n ≡ Equal = ap (λ k. name_cmp k n) (sym (first n m p r e)) ∙ tied_itself nat_list_cmp_total n in
    ap (λ o. is_lt (ordering_then o (path_cmp r p))) same ∙ not_behind p r (rest n m p r e)

-- a prefix of a path does not come after it
pub prefix_first : (p r : List (List ℕ)) → is_within p r ≡ true → is_before r p ≡ false
prefix_first p r is = not_behind p r (front p r is)

short : (p r : List (List ℕ)) → p ≡ take (length p) r → length p ≤ length r
short [] r e = omega arith
short (n ∷ p) [] e = absurd (omega (arith, ap (λ (l : List (List ℕ)). length l) e))
short (n ∷ p) (m ∷ r) e = omega (arith, short p r (rest n m p r e))

-- a prefix has no more names
pub no_longer : (p r : List (List ℕ)) → is_within p r ≡ true → length p ≤ length r
no_longer p r is = short p r (front p r is)

between : (p q r : List (List ℕ)) → p ≡ take (length p) r → is_before q p ≡ false → is_before r q ≡ false → p ≡ take (length p) q
between [] q r e low high = refl
between (n ∷ p) q [] e low high = absurd (omega (arith, ap (λ (l : List (List ℕ)). length l) e))
between (n ∷ p) [] (m ∷ r) e low high = absurd (true≢false low)
between (n ∷ p) (y ∷ q) (m ∷ r) e low high = go (name_cmp y n) refl (between p q r (rest n m p r e))
  where
    flipped : name_cmp m y ≡ ordering_reverse (name_cmp y n)
    flipped = ap (λ k. name_cmp k y) (sym (first n m p r e)) ∙ nat_list_cmp_total.antisymm n y

    go : (o : Ordering) → name_cmp y n ≡ o → (is_before q p ≡ false → is_before r q ≡ false → p ≡ take (length p) q) → n ∷ p ≡ y ∷ take (length p) q
    go Less is more = absurd (true≢false (sym (ap (λ o. is_lt (ordering_then o (path_cmp q p))) is) ∙ low))
    go Greater is more = absurd (true≢false (sym (ap (λ o. is_lt (ordering_then o (path_cmp r q))) (flipped ∙ ap ordering_reverse is)) ∙ high))
    go Equal is more =
        let q_low : is_before q p ≡ false = sym (ap (λ o. is_lt (ordering_then o (path_cmp q p))) is) ∙ low in
        let q_high : is_before r q ≡ false = sym (ap (λ o. is_lt (ordering_then o (path_cmp r q))) (flipped ∙ ap ordering_reverse is)) ∙ high in
        λ i. sym (name_cmp-IsAntisymmetric y n is) i ∷ more q_low q_high i

-- a prefix of a path is a prefix of what stands between them
pub prefix_between : (p q r : List (List ℕ)) → is_within p r ≡ true → is_before q p ≡ false → is_before r q ≡ false → is_within p q ≡ true
prefix_between p q r is low high = (pointwise_decides bytes_decides p (take (length p) q)).1 (between p q r (front p r is) low high)
