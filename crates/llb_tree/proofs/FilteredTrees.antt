-- A tree without the paths that pass tests of their names, and without what is below them.
use Rattle.std.proofs.Common.{◌≡◌, ℕ, Bool, true, false, cond, not, ◌&&◌, List, [], ◌∷◌, map, Option, Some, None, IsSome, is_some, Ok, refl, sym, ap}
use Rattle.std.proofs.Common.{subst, ◌∙◌, true≢false}
use Rattle.std.specs.FinMap as finite
use Rattle.llb_tree.specs.PathOrder.{path_cmp-IsTotalOrder, path_cmp-IsAntisymmetric}
use Rattle.llb_tree.specs.Tree.{Entry, Dir, File, Look, TreeMap, parents, all_dirs, walk, IsTree}
use Rattle.llb_tree.specs.Nodes.{IsWhole}
use Rattle.llb_tree.proofs.SubtreeEntries.{walk-cons}
use Rattle.llb_tree.specs.PathTests.{goes, thin, rid_of, unless_goes, Thins}
use Rattle.llb_tree.proofs.EditedMaps.{deep_from, height_from}

module _ {X : Type 0} (passes : X → List ℕ → Bool) where
  pub get-thin : (ts : List X) (t : TreeMap) (q : List (List ℕ)) → finite.get (thin passes ts t) q ≡ unless_goes passes ts q (finite.get t q)
  get-thin ts t q =
      finite.get-retain_keys t (λ x. not (goes passes ts x)) q (λ x tie. ap (λ y. not (goes passes ts y)) (sym (path_cmp-IsAntisymmetric q x tie)))

  -- the walk to a path that stays is the same
  walk_left : (look : Look) (ts : List X) (q : List (List ℕ)) → goes passes ts q ≡ false → walk (λ r. unless_goes passes ts r (look r)) q ≡ walk look q
  walk_left look ts [] out = refl
  walk_left look [] (n ∷ q) out = absurd (true≢false out)
  walk_left look (t ∷ ts) (n ∷ q) out =
      walk-cons (λ r. unless_goes passes (t ∷ ts) r (look r)) n q
      ∙ onward (look []) (by_name (passes t n) out (walk_left (λ r. look (n ∷ r)) ts q))
      ∙ sym (walk-cons look n q)
    where
      onward : (o : Option Entry) → walk (λ r. unless_goes passes (t ∷ ts) (n ∷ r) (look (n ∷ r))) q ≡ walk (λ r. look (n ∷ r)) q
          → all_dirs (o ∷ map (λ r. unless_goes passes (t ∷ ts) (n ∷ r) (look (n ∷ r))) (parents q)) ≡ all_dirs (o ∷ map (λ r. look (n ∷ r)) (parents q))
      onward None is = refl
      onward (Some (File m b)) is = refl
      onward (Some (Dir m)) is = is

      by_name : (b : Bool) → (b && goes passes ts q) ≡ false
          → (goes passes ts q ≡ false → walk (λ r. unless_goes passes ts r (look (n ∷ r))) q ≡ walk (λ r. look (n ∷ r)) q)
          → walk (λ r. cond (not (b && goes passes ts r)) (look (n ∷ r)) None) q ≡ walk (λ r. look (n ∷ r)) q
      by_name true out rest = rest out
      by_name false out rest = refl

  -- what is there stays, and was there
  left_there : {C : Type 0} (ts : List X) (t : TreeMap) (q : List (List ℕ)) (e : Option Entry) → finite.get (thin passes ts t) q ≡ e → IsSome e
      → (goes passes ts q ≡ false → finite.get t q ≡ e → C) → C
  left_there {C = C} ts t q e is there go = by_test (goes passes ts q) refl
    where
      by_test : (b : Bool) → goes passes ts q ≡ b → C
      by_test true out = absurd (true≢false (sym there ∙ ap is_some (sym is ∙ get-thin ts t q ∙ ap (λ b. cond (not b) (finite.get t q) None) out)))
      by_test false out = go out (sym (get-thin ts t q ∙ ap (λ b. cond (not b) (finite.get t q) None) out) ∙ is)

  module _ (x : X) (ts : List X) (t : TreeMap) where
    IsTree-thin : IsTree t → IsTree (thin passes (x ∷ ts) t)
    IsTree-thin tree = record {
      root = (tree.root.0, get-thin (x ∷ ts) t [] ∙ tree.root.1);
      closed = λ q there. left_there (x ∷ ts) t q (finite.get (thin passes (x ∷ ts) t) q) refl there (λ out is.
          ap (λ look. walk look q) (λ i r. get-thin (x ∷ ts) t r i) ∙ walk_left (finite.get t) (x ∷ ts) q out
          ∙ tree.closed q (subst IsSome (sym is) there));
      allowed = λ q e is. left_there (x ∷ ts) t q (Some e) is refl (λ out same. tree.allowed q e same);
    }

    -- what is left of a tree is whole, and the result of the rule
    pub thinned_tree : (new : TreeMap) (d : ℕ) (all : List X) → all ≡ x ∷ ts → IsWhole t d → (o : Option TreeMap) → o ≡ Some new
        → Thins passes (x ∷ ts) t o → IsWhole new d × (rid_of passes all t ≡ Ok (Some new))
    thinned_tree new d all is whole o some told =
        let thins = subst (Thins passes (x ∷ ts) t) some told in
        let same : new ≡ thin passes (x ∷ ts) t =
        finite.same_map path_cmp-IsTotalOrder path_cmp-IsAntisymmetric new (thin passes (x ∷ ts) t) (λ q. thins.looks q ∙ sym (get-thin (x ∷ ts) t q)) in (
          subst (λ s. IsWhole s d) (sym same) (record {
            tree = IsTree-thin whole.tree;
            deep = height_from (thin passes (x ∷ ts) t) d (λ q there. deep_from t d whole.deep q
                (left_there (x ∷ ts) t q (finite.get (thin passes (x ∷ ts) t) q) refl there (λ out was. ap is_some was ∙ there)));
            short = whole.short;
          }),
          (λ i. rid_of passes (is i) t) ∙ (λ i. Ok (cond (sym thins.any i) (Some (sym same i)) None)),
        )

    -- where nothing goes, the result of the rule is `None`
    pub unthinned_tree : (all : List X) → all ≡ x ∷ ts → (o : Option TreeMap) → o ≡ None → Thins passes (x ∷ ts) t o → rid_of passes all t ≡ Ok None
    unthinned_tree all is o none told =
        let thins = subst (Thins passes (x ∷ ts) t) none told in
        (λ i. rid_of passes (is i) t) ∙ (λ i. Ok (cond (sym thins.any i) (Some (thin passes (x ∷ ts) t)) None))
