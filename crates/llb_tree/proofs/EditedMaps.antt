-- What a tree is after a node, or nothing, is set at a path: each edit's map.
use Rattle.std.proofs.Common.{◌≡◌, ℕ, ◌+◌, ◌≤◌, List, [], ◌∷◌, ◌++◌, length, map, Option, Some, None, is_some, Bool, true, false, not, cond}
use Rattle.std.proofs.Common.{◌&&◌, Ok, refl, sym, ap, subst, ◌∙◌, true≢false, arith, length-append}
use Rattle.std.proofs.lemmas.List.{append-nil}
use Rattle.std.specs.Cmp.{tied_itself}
use Rattle.std.specs.Cmp.Lexicographic.{nat_list_cmp_total, bytes_decides}
use Rattle.std.specs.Ordering.{is_eq, eq_by_cmp}
use Rattle.std.specs.declared.cmp.Ordering.{Ordering}
use Rattle.std.specs.declared.cmp.Ordering.TheVariants.{Less, Equal, Greater}
use Rattle.std.specs.FinMap as finite
use Rattle.llb_tree.specs.Path.{name_cmp, path_cmp, is_within}
use Rattle.llb_tree.specs.PathOrder.{path_cmp-IsTotalOrder, path_cmp-IsAntisymmetric, name_cmp-IsAntisymmetric}
use Rattle.llb_tree.specs.ModeAndOwner.{MetaValue}
use Rattle.llb_tree.specs.Tree.{Entry, Dir, File, Look, TreeMap, parents, all_dirs, file_fits, without, with_tree, tree_at, height, IsTree}
use Rattle.llb_tree.specs.Nodes.{look_in, set_look, dir_look, file_look, IsWhole}
use Rattle.llb_tree.specs.TreeHeights.{height_le, le_height}
use Rattle.llb_tree.proofs.SubtreeEntries.{walk-cons, walk_below, get-tree_at}
use Rattle.llb_tree.proofs.PathsBelow.{within_split, within-append, within_itself, cmp-append}
use Rattle.llb_tree.proofs.SubtreeRemoval.{get-without}
use Rattle.llb_tree.proofs.GraftedTrees.{get_inside, get_outside}

-- a fact of all paths is one of those at or below a path and one of the others
pub by_place : (p : List (List ℕ)) (C : List (List ℕ) → Type 0) → ((q : List (List ℕ)) → C (p ++ q))
    → ((q : List (List ℕ)) → is_within p q ≡ false → C q) → (q : List (List ℕ)) → C q
by_place p C in' out q = by_test (is_within p q) refl
  where
    by_test : (b : Bool) → is_within p q ≡ b → C q
    by_test true is = subst C (sym (within_split p q is)) (in' _)
    by_test false is = out q is

-- at and below the path that is set is what the new tree has, or nothing where there is none
pub set_inside : (p q : List (List ℕ)) (t : Option TreeMap) (old : Look) → set_look p t old (p ++ q) ≡ look_in t q
set_inside [] q t old = refl
set_inside (n ∷ p) q t old = ap (λ o. cond (is_eq o) (set_look p t (λ r. old (n ∷ r)) (p ++ q)) (old (n ∷ (p ++ q)))) (tied n)
    ∙ set_inside p q t (λ r. old (n ∷ r))
  where
    tied : (n : List ℕ) → name_cmp n n ≡ Equal
    tied n = tied_itself nat_list_cmp_total n

-- outside the path that is set all is as it was
pub set_outside : (p q : List (List ℕ)) (t : Option TreeMap) (old : Look) → is_within p q ≡ false → set_look p t old q ≡ old q
set_outside [] q t old out = absurd (true≢false out)
set_outside (n ∷ p) [] t old out = refl
set_outside (n ∷ p) (m ∷ q) t old out = by_name (name_cmp m n) refl (set_outside p q t (λ r. old (n ∷ r)))
  where
    by_name : (o : Ordering) → name_cmp m n ≡ o → (is_within p q ≡ false → set_look p t (λ r. old (n ∷ r)) q ≡ old (n ∷ q))
        → cond (is_eq o) (set_look p t (λ r. old (n ∷ r)) q) (old (m ∷ q)) ≡ old (m ∷ q)
    by_name Less is rest = refl
    by_name Greater is rest = refl
    by_name Equal is rest =
        let same : m ≡ n = name_cmp-IsAntisymmetric m n is in
        rest (sym (ap (λ b. b && is_within p q) ((bytes_decides n m).1 (sym same))) ∙ out) ∙ ap (λ x. old (x ∷ q)) (sym same)

-- ---- an entry put

-- a path ties with one below it exactly if that goes on by no name
pub tied_below : (p q : List (List ℕ)) → eq_by_cmp path_cmp (p ++ q) p ≡ is_eq (path_cmp q [])
tied_below p q = ap is_eq (ap (path_cmp (p ++ q)) (sym (append-nil p)) ∙ cmp-append p q [])

-- a path ties with none outside it
pub apart : (p q : List (List ℕ)) → is_within p q ≡ false → eq_by_cmp path_cmp q p ≡ false
apart p q out = by_tie (path_cmp q p) refl
  where
    by_tie : (o : Ordering) → path_cmp q p ≡ o → is_eq o ≡ false
    by_tie Less is = refl
    by_tie Greater is = refl
    by_tie Equal is = absurd (true≢false (sym (ap (is_within p) (path_cmp-IsAntisymmetric q p is) ∙ within_itself p) ∙ out))

put_same : (t new : TreeMap) (p : List (List ℕ)) (one : Option TreeMap) (e : Entry) → look_in one [] ≡ Some e
    → ((n : List ℕ) (q : List (List ℕ)) → look_in one (n ∷ q) ≡ finite.get t (p ++ (n ∷ q)))
    → ((q : List (List ℕ)) → finite.get new q ≡ set_look p one (finite.get t) q) → new ≡ finite.insert t p e
put_same t new p one e here more is = finite.same_map path_cmp-IsTotalOrder path_cmp-IsAntisymmetric new (finite.insert t p e)
    (by_place p (λ q. finite.get new q ≡ finite.get (finite.insert t p e) q)
    (λ q. is (p ++ q) ∙ set_inside p q one (finite.get t) ∙ below q
    ∙ sym (finite.get-insert path_cmp-IsTotalOrder t p e (p ++ q) ∙ ap (λ b. cond b (Some e) (finite.get t (p ++ q))) (tied_below p q)))
    (λ q out. is q ∙ set_outside p q one (finite.get t) out
    ∙ sym (finite.get-insert path_cmp-IsTotalOrder t p e q ∙ ap (λ b. cond b (Some e) (finite.get t q)) (apart p q out))))
  where
    below : (q : List (List ℕ)) → look_in one q ≡ cond (is_eq (path_cmp q [])) (Some e) (finite.get t (p ++ q))
    below [] = here
    below (n ∷ q) = more n q

-- a directory set at a path, with below it what was there, makes the map that has the directory inserted
pub dir_put : (t new one : TreeMap) (p : List (List ℕ)) (m : MetaValue) → ((q : List (List ℕ)) → finite.get one q ≡ dir_look m (λ r. finite.get t (p ++ r)) q)
    → ((q : List (List ℕ)) → finite.get new q ≡ set_look p (Some one) (finite.get t) q) → new ≡ finite.insert t p (Dir m)
dir_put t new one p m made is = put_same t new p (Some one) (Dir m) (made []) (λ n q. made (n ∷ q)) is

-- below what is no directory there is nothing
pub nothing_below : (t : TreeMap) (p : List (List ℕ)) (n : List ℕ) (q : List (List ℕ)) → IsTree t → file_fits (finite.get t p) ≡ Ok tt
    → finite.get t (p ++ (n ∷ q)) ≡ None
nothing_below t p n q tree fits = by_entry (finite.get t (p ++ (n ∷ q))) refl
  where
    no_dir : (o : Option Entry) (os : List (Option Entry)) → file_fits o ≡ Ok tt → all_dirs (o ∷ os) ≡ Ok tt → ⊥
    no_dir None os fits walks = cc
    no_dir (Some (File m b)) os fits walks = cc
    no_dir (Some (Dir m)) os fits walks = cc

    by_entry : (o : Option Entry) → finite.get t (p ++ (n ∷ q)) ≡ o → o ≡ None
    by_entry None is = refl
    by_entry (Some e) is =
        absurd (no_dir (finite.get t (p ++ [])) (map (λ r. finite.get t (p ++ (n ∷ r))) (parents q))
        (ap (λ x. file_fits (finite.get t x)) (append-nil p) ∙ fits)
        (sym (walk-cons (λ r. finite.get t (p ++ r)) n q) ∙ walk_below (finite.get t) p (n ∷ q) (tree.closed (p ++ (n ∷ q)) (ap is_some is))))

-- nothing is below a path at which nothing is
pub none_below : (t : TreeMap) (p q : List (List ℕ)) → IsTree t → finite.get t p ≡ None → finite.get t (p ++ q) ≡ None
none_below t p [] tree none = ap (finite.get t) (append-nil p) ∙ none
none_below t p (n ∷ q) tree none = nothing_below t p n q tree (ap file_fits none)

-- a file set at a path where one may be put makes the map that has the file inserted
pub file_put : (t new one : TreeMap) (p : List (List ℕ)) (m : MetaValue) (b : List ℕ) → IsTree t → file_fits (finite.get t p) ≡ Ok tt
    → ((q : List (List ℕ)) → finite.get one q ≡ file_look m b q)
    → ((q : List (List ℕ)) → finite.get new q ≡ set_look p (Some one) (finite.get t) q) → new ≡ finite.insert t p (File m b)
file_put t new one p m b tree fits made is = put_same t new p (Some one) (File m b) (made []) (λ n q. made (n ∷ q) ∙ sym (nothing_below t p n q tree fits)) is

-- ---- a path taken away, and a tree put

-- nothing set at a path makes the map without what is at or below the path
pub taken_away : (t new : TreeMap) (p : List (List ℕ)) → ((q : List (List ℕ)) → finite.get new q ≡ set_look p None (finite.get t) q) → new ≡ without t p
taken_away t new p is = finite.same_map path_cmp-IsTotalOrder path_cmp-IsAntisymmetric new (without t p)
    (by_place p (λ q. finite.get new q ≡ finite.get (without t p) q)
    (λ q. is (p ++ q) ∙ set_inside p q None (finite.get t)
    ∙ sym (get-without t p (p ++ q) ∙ ap (λ b. cond (not b) (finite.get t (p ++ q)) None) (within-append p q)))
    (λ q out. is q ∙ set_outside p q None (finite.get t) out ∙ sym (get-without t p q ∙ ap (λ b. cond (not b) (finite.get t q) None) out)))

-- a tree set at a path makes the map that has the tree there in place of what was at or below it
pub tree_put : (t new other : TreeMap) (p : List (List ℕ))
    → ((q : List (List ℕ)) → finite.get new q ≡ set_look p (Some other) (finite.get t) q) → new ≡ with_tree t p other
tree_put t new other p is = finite.same_map path_cmp-IsTotalOrder path_cmp-IsAntisymmetric new (with_tree t p other)
    (by_place p (λ q. finite.get new q ≡ finite.get (with_tree t p other) q)
    (λ q. is (p ++ q) ∙ set_inside p q (Some other) (finite.get t) ∙ sym (get_inside t p other q))
    (λ q out. is q ∙ set_outside p q (Some other) (finite.get t) out ∙ sym (get_outside t p other q out)))

-- a tree that has at each q what another has at q below a path is the other's tree at that path
pub tree_taken : (t sub : TreeMap) (p : List (List ℕ)) → ((q : List (List ℕ)) → finite.get sub q ≡ finite.get t (p ++ q)) → sub ≡ tree_at t p
tree_taken t sub p is = finite.same_map path_cmp-IsTotalOrder path_cmp-IsAntisymmetric sub (tree_at t p) (λ q. is q ∙ sym (get-tree_at t p q))

-- ---- how deep a tree is

-- no path is longer than this
abbrev pub IsDeep : TreeMap → ℕ → Type 0
IsDeep t n = (q : List (List ℕ)) → is_some (finite.get t q) ≡ true → length q ≤ n

-- a tree of height n + 1 at most has no path of more than n names
pub deep_from : (t : TreeMap) (n : ℕ) → height t ≤ n + 1 → IsDeep t n
deep_from t n le q there = let h = le_height t q there in omega arith

-- a tree with no path of more than n names is of height n + 1 at most
pub height_from : (t : TreeMap) (n : ℕ) → IsDeep t n → height t ≤ n + 1
height_from t n deep = height_le t (n + 1) (λ q there. let h = deep q there in omega arith)

-- a tree that is changed at or below a path
pub whole_set : (t new : TreeMap) (p : List (List ℕ)) (one : Option TreeMap) (d n : ℕ) → IsWhole t d → IsTree new → d ≤ n → n ≤ 128
    → ((q : List (List ℕ)) → is_some (look_in one q) ≡ true → length p + length q ≤ n)
    → ((q : List (List ℕ)) → finite.get new q ≡ set_look p one (finite.get t) q) → IsWhole new n
whole_set t new p one d n whole tree le short below is = record {
  tree = tree;
  deep = height_from new n (by_place p (λ q. is_some (finite.get new q) ≡ true → length q ≤ n)
      (λ q there. let h = below q (sym (ap is_some (is (p ++ q) ∙ set_inside p q one (finite.get t))) ∙ there) in omega (arith, h, length-append p q))
      (λ q out there. let h = deep_from t d whole.deep q (sym (ap is_some (is q ∙ set_outside p q one (finite.get t) out)) ∙ there) in omega arith));
  short = short;
}
