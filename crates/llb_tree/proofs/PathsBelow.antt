-- Paths at or below a path.
use Rattle.std.proofs.Common.{◌≡◌, ℕ, nat_eq, ◌&&◌, true, false, List, [], ◌∷◌, ◌++◌, length, take, drop, refl, sym, ap, ◌∙◌, true≢false, take-append-drop}
use Rattle.std.proofs.lemmas.List.{take_at, append-nil}
use Rattle.std.specs.declared.cmp.Ordering.{Ordering}
use Rattle.std.specs.declared.cmp.Ordering.TheVariants.{Less, Equal, Greater}
use Rattle.std.specs.Ordering.{is_lt, ordering_then, ordering_reverse}
use Rattle.std.specs.Cmp.{tied_itself}
use Rattle.std.specs.Cmp.Lexicographic.{pointwise, pointwise_decides, bytes_decides, nat_list_cmp_total}
use Rattle.llb_tree.specs.Path.{name_cmp, path_cmp, is_within}
use Rattle.llb_tree.specs.PathOrder.{path_cmp-IsTotalOrder, name_cmp-IsAntisymmetric}

-- comparing two paths the other way round reverses the result
pub turned : (p q : List (List ℕ)) (o : Ordering) → path_cmp p q ≡ o → path_cmp q p ≡ ordering_reverse o
turned p q o is = path_cmp-IsTotalOrder.antisymm q p ∙ ap ordering_reverse is

-- a path at or below p begins with p
pub within_split : (p q : List (List ℕ)) → is_within p q ≡ true → q ≡ p ++ drop (length p) q
within_split p q is = sym (take-append-drop (length p) q)
    ∙ ap (λ x. x ++ drop (length p) q) (sym ((pointwise_decides bytes_decides p (take (length p) q)).0 is))

pub within-append : (p q : List (List ℕ)) → is_within p (p ++ q) ≡ true
within-append p q = (pointwise_decides bytes_decides p (take (length p) (p ++ q))).1 (sym (take_at p q (length p) refl))

pub within_itself : (p : List (List ℕ)) → is_within p p ≡ true
within_itself p = ap (is_within p) (sym (append-nil p)) ∙ within-append p []

-- the same names in front of two paths do not change how they compare
pub cmp-append : (p q r : List (List ℕ)) → path_cmp (p ++ q) (p ++ r) ≡ path_cmp q r
cmp-append [] q r = refl
cmp-append (n ∷ p) q r = ap (λ o. ordering_then o (path_cmp (p ++ q) (p ++ r))) (tied_itself nat_list_cmp_total n) ∙ cmp-append p q r

-- what is between a path and one below it is below it
pub between : (p a q : List (List ℕ)) → is_lt (path_cmp a p) ≡ false → path_cmp a (p ++ q) ≡ Less → is_within p a ≡ true
between [] a q from lt = refl
between (n ∷ p) [] q from lt = absurd (true≢false from)
between (n ∷ p) (m ∷ a) q from lt = go (name_cmp m n) refl (between p a q) from lt
  where
    go : (o : Ordering) → name_cmp m n ≡ o → (is_lt (path_cmp a p) ≡ false → path_cmp a (p ++ q) ≡ Less → is_within p a ≡ true)
        → is_lt (ordering_then o (path_cmp a p)) ≡ false → ordering_then o (path_cmp a (p ++ q)) ≡ Less → (pointwise nat_eq n m && is_within p a) ≡ true
    go Less is rest from lt = absurd (true≢false from)
    go Equal is rest from lt = ap (λ b. b && is_within p a) ((bytes_decides n m).1 (sym (name_cmp-IsAntisymmetric m n is))) ∙ rest from lt
    go Greater is rest from lt = absurd cc
