-- What a subtree has at each path.
use Rattle.std.proofs.Common.{◌≡◌, ℕ, Bool, true, false, cond, List, [], ◌∷◌, ◌++◌, length, drop, map, Option, Some, None, IsSome, Ok, refl}
use Rattle.std.proofs.Common.{sym, ap, subst, ◌∙◌, true≢false, arith, length-append}
use Rattle.std.proofs.lemmas.List.{drop_at, append-nil}
use Rattle.std.proofs.lemmas.List.Elements.{All-drop}
use Rattle.llb_tree.specs.ModeAndOwner.{MetaValue}
use Rattle.std.specs.Ordering.{is_eq, eq_by_cmp}
use Rattle.std.specs.List.{All}
use Rattle.std.specs.FinMap as finite
use Rattle.std.specs.FinMap.Entries.{where_key}
use Rattle.llb_tree.specs.Path.{is_name, path_cmp, is_within, IsPath}
use Rattle.llb_tree.specs.PathOrder.{path_cmp-IsTotalOrder, same_path}
use Rattle.llb_tree.specs.Tree.{Entry, Dir, File, Look, TreeMap, parents, all_dirs, walk, moved, tree_at, subtree, dir_there, IsTree}
use Rattle.llb_wire.specs.CallResults.{◌>>=◌}
use Rattle.llb_tree.proofs.PathsBelow.{within_split, within-append, cmp-append}

pub map-map : {A B C : Type 0} (g : B → C) (f : A → B) (xs : List A) → map g (map f xs) ≡ map (λ x. g (f x)) xs
map-map g f [] = refl
map-map g f (x ∷ xs) = ap (λ ys. g (f x) ∷ ys) (map-map g f xs)

-- the parents of a path: the root first, then the parents below the first name
pub walk-cons : (look : Look) (n : List ℕ) (p : List (List ℕ)) → walk look (n ∷ p) ≡ all_dirs (look [] ∷ map (λ q. look (n ∷ q)) (parents p))
walk-cons look n p = ap (λ ys. all_dirs (look [] ∷ ys)) (map-map look (λ q. n ∷ q) (parents p))

-- a path, and the entry at it
abbrev pub Pair : Type 0
Pair = List (List ℕ) × Entry

-- the entries at or below a path, in order, with that path removed from the front of their own
abbrev pub inside : List (List ℕ) → List Pair → List Pair
inside p es = map (moved (length p) []) (where_key path_cmp (is_within p) es)

-- a subtree has at q what the tree has at p followed by q
find_inside : (p q : List (List ℕ)) (es : List Pair) → finite.find path_cmp q (inside p es) ≡ finite.find path_cmp (p ++ q) es
find_inside p q [] = refl
find_inside p q (e ∷ es) = by_test (is_within p e.0) refl (find_inside p q es)
  where
    by_test : (b : Bool) → is_within p e.0 ≡ b → finite.find path_cmp q (inside p es) ≡ finite.find path_cmp (p ++ q) es
        → finite.find path_cmp q
        (map (moved (length p) []) (cond b (e ∷ where_key path_cmp (is_within p) es) (where_key path_cmp (is_within p) es)))
        ≡ finite.find path_cmp (p ++ q) (e ∷ es)
    by_test true is rest =
        let ties : eq_by_cmp path_cmp q (drop (length p) e.0) ≡ eq_by_cmp path_cmp (p ++ q) e.0 =
        ap is_eq (sym (cmp-append p q (drop (length p) e.0)) ∙ ap (path_cmp (p ++ q)) (sym (within_split p e.0 is))) in
        λ i. cond (ties i) (Some e.1) (rest i)
    by_test false is rest = rest ∙ sym (by_tie (eq_by_cmp path_cmp (p ++ q) e.0) refl)
      where
        by_tie : (t : Bool) → eq_by_cmp path_cmp (p ++ q) e.0 ≡ t → cond t (Some e.1) (finite.find path_cmp (p ++ q) es) ≡ finite.find path_cmp (p ++ q) es
        by_tie false t = refl
        by_tie true t = absurd (true≢false (sym (within-append p q) ∙ ap (is_within p) (same_path (p ++ q) e.0 t) ∙ is))

pub get-tree_at : (t : TreeMap) (p q : List (List ℕ)) → finite.get (tree_at t p) q ≡ finite.get t (p ++ q)
get-tree_at t p q = finite.get-from_entries path_cmp-IsTotalOrder (inside p (finite.entries t)) q ∙ find_inside p q (finite.entries t)
    ∙ sym (finite.get-entries t (p ++ q))

-- if all these entries are directories, so are all but the first
rest_walks : (o : Option Entry) (os : List (Option Entry)) → all_dirs (o ∷ os) ≡ Ok tt → all_dirs os ≡ Ok tt
rest_walks None os is = absurd cc
rest_walks (Some (File m b)) os is = absurd cc
rest_walks (Some (Dir m)) os is = is

pub walk_below : (look : Look) (p q : List (List ℕ)) → walk look (p ++ q) ≡ Ok tt → walk (λ r. look (p ++ r)) q ≡ Ok tt
walk_below look [] q is = is
walk_below look (n ∷ p) q is = walk_below (λ r. look (n ∷ r)) p q
    (rest_walks (look []) (map (λ r. look (n ∷ r)) (parents (p ++ q))) (sym (walk-cons look n (p ++ q)) ∙ is))

path_below : (p q : List (List ℕ)) → IsPath (p ++ q) → IsPath q
path_below p q is = record {
  short = omega (arith, is.short, length-append p q);
  named = subst (All (λ n. is_name n ≡ true)) (drop_at p q (length p) refl) (All-drop (λ n. is_name n ≡ true) (length p) (p ++ q) is.named);
}

dir_is : (o : Option Entry) → all_dirs (o ∷ []) ≡ Ok tt → (m : MetaValue) × (o ≡ Some (Dir m))
dir_is None is = absurd cc
dir_is (Some (File m b)) is = absurd cc
dir_is (Some (Dir m)) is = (m, refl)

pub IsTree-tree_at : (t : TreeMap) (p : List (List ℕ)) → IsTree t → dir_there t p ≡ Ok tt → IsTree (tree_at t p)
IsTree-tree_at t p tree there =
    let root = dir_is (finite.get t p) there in
    record {
      root = (root.0, get-tree_at t p [] ∙ ap (finite.get t) (append-nil p) ∙ root.1);
      closed = λ q here. ap (λ look. walk look q) (λ i r. get-tree_at t p r i)
          ∙ walk_below (finite.get t) p q (tree.closed (p ++ q) (subst IsSome (get-tree_at t p q) here));
      allowed = λ q e is.
          let can = tree.allowed (p ++ q) e (sym (get-tree_at t p q) ∙ is) in
          record { path = path_below p q can.path; meta = can.meta; bytes = can.bytes };
    }

pub subtree-Ok : (t : TreeMap) (p : List (List ℕ)) → dir_there t p ≡ Ok tt → subtree t p ≡ Ok (tree_at t p)
subtree-Ok t p there = ap (λ r. r >>= λ _. Ok (tree_at t p)) there
