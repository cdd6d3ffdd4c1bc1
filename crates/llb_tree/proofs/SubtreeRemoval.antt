-- A tree without what is at or below a path.
use Rattle.std.proofs.Common.{◌≡◌, ◌≢◌, ℕ, Bool, true, false, not, cond, nat_eq, ◌&&◌, List, [], ◌∷◌, map, Option, Some, None, IsSome}
use Rattle.std.proofs.Common.{is_some, Ok, refl, sym, ap, subst, ◌∙◌, true≢false}
use Rattle.std.specs.declared.cmp.Ordering.TheVariants.{Equal}
use Rattle.std.specs.Cmp.Lexicographic.{pointwise}
use Rattle.std.specs.FinMap as finite
use Rattle.llb_tree.specs.Path.{path_cmp, is_within}
use Rattle.llb_tree.specs.PathOrder.{path_cmp-IsAntisymmetric}
use Rattle.llb_tree.specs.Tree.{Entry, Dir, File, Look, TreeMap, parents, all_dirs, walk, without, remove, found, IsTree}
use Rattle.llb_wire.specs.CallResults.{◌>>=◌}
use Rattle.llb_tree.proofs.SubtreeEntries.{walk-cons}

-- what one path is not, a path that ties is not either
pub alike : (p q x : List (List ℕ)) → path_cmp q x ≡ Equal → not (is_within p x) ≡ not (is_within p q)
alike p q x tie = ap (λ y. not (is_within p y)) (sym (path_cmp-IsAntisymmetric q x tie))

-- without what is at or below a path, nothing is there, and all else is as it was
pub get-without : (t : TreeMap) (p q : List (List ℕ)) → finite.get (without t p) q ≡ cond (not (is_within p q)) (finite.get t q) None
get-without t p q = finite.get-retain_keys t (λ x. not (is_within p x)) q (alike p q)

-- only the looks at what is not at or below a path decide the walk to one that is not below it
pub walk_beside : (f g : Look) (p q : List (List ℕ)) → ((r : List (List ℕ)) → is_within p r ≡ false → f r ≡ g r) → is_within p q ≡ false → walk f q ≡ walk g q
walk_beside f g p [] same beside = refl
walk_beside f g [] (n ∷ q) same beside = absurd (true≢false beside)
walk_beside f g (m ∷ p) (n ∷ q) same beside =
    walk-cons f n q ∙ (λ i. all_dirs (same [] refl i ∷ map (λ r. f (n ∷ r)) (parents q)))
    ∙ by_name (pointwise nat_eq m n) refl (walk_beside (λ r. f (n ∷ r)) (λ r. g (n ∷ r)) p q) beside ∙ sym (walk-cons g n q)
  where
    onward : (o : Option Entry) → walk (λ r. f (n ∷ r)) q ≡ walk (λ r. g (n ∷ r)) q
        → all_dirs (o ∷ map (λ r. f (n ∷ r)) (parents q)) ≡ all_dirs (o ∷ map (λ r. g (n ∷ r)) (parents q))
    onward None is = refl
    onward (Some (File m b)) is = refl
    onward (Some (Dir m)) is = is

    by_name : (b : Bool) → pointwise nat_eq m n ≡ b → (((r : List (List ℕ)) → is_within p r ≡ false → f (n ∷ r) ≡ g (n ∷ r))
        → is_within p q ≡ false → walk (λ r. f (n ∷ r)) q ≡ walk (λ r. g (n ∷ r)) q) → (pointwise nat_eq m n && is_within p q) ≡ false
        → all_dirs (g [] ∷ map (λ r. f (n ∷ r)) (parents q)) ≡ all_dirs (g [] ∷ map (λ r. g (n ∷ r)) (parents q))
    by_name true is rest beside =
        onward (g []) (rest (λ r out. same (n ∷ r) (ap (λ b. b && is_within p r) is ∙ out)) (ap (λ b. b && is_within p q) (sym is) ∙ beside))
    by_name false is rest beside = onward (g []) (ap (λ h. walk h q) (λ i r. same (n ∷ r) (ap (λ b. b && is_within p r) is) i))

module _ (t : TreeMap) (tree : IsTree t) (n : List ℕ) (p : List (List ℕ)) where
  left_there : {C : Type 0} (q : List (List ℕ)) (e : Option Entry) → finite.get (without t (n ∷ p)) q ≡ e → IsSome e
      → (is_within (n ∷ p) q ≡ false → finite.get t q ≡ e → C) → C
  left_there {C = C} q e is there go = by_test (is_within (n ∷ p) q) refl
    where
      by_test : (b : Bool) → is_within (n ∷ p) q ≡ b → C
      by_test true out = absurd (true≢false (sym there ∙ ap is_some (sym is ∙ get-without t (n ∷ p) q ∙ ap (λ b. cond (not b) (finite.get t q) None) out)))
      by_test false out = go out (ap (λ b. cond (not b) (finite.get t q) None) (sym out) ∙ sym (get-without t (n ∷ p) q) ∙ is)

  pub IsTree-without : IsTree (without t (n ∷ p))
  IsTree-without = record {
    root = (tree.root.0, get-without t (n ∷ p) [] ∙ tree.root.1);
    closed = λ q there. left_there q (finite.get (without t (n ∷ p)) q) refl there (λ out is.
        sym (walk_beside (finite.get t) (finite.get (without t (n ∷ p))) (n ∷ p) q
        (λ r beside. sym (get-without t (n ∷ p) r ∙ ap (λ b. cond (not b) (finite.get t r) None) beside)) out)
        ∙ tree.closed q (subst IsSome (sym is) there));
    allowed = λ q e is. left_there q (Some e) is refl (λ out same. tree.allowed q e same);
  }

-- a removal that is not refused
pub remove-Ok : (t : TreeMap) (p : List (List ℕ)) → p ≢ [] → found (finite.get t p) ≡ Ok tt → remove t p ≡ Ok (without t p)
remove-Ok t [] named there = absurd (named refl)
remove-Ok t (n ∷ p) named there = ap (λ r. r >>= λ _. Ok (without t (n ∷ p))) there

-- without what is at or below a path that is not the root, a tree is still one
pub IsTree-removed : (t : TreeMap) (p : List (List ℕ)) → IsTree t → p ≢ [] → IsTree (without t p)
IsTree-removed t [] tree named = absurd (named refl)
IsTree-removed t (n ∷ p) tree named = IsTree-without t tree n p
