-- The entry that the map of a node has at a path, computed from the node's children.
use Rattle.std.specs.Prelude.{ℕ, ◌≡◌, List, [], ◌∷◌, ◌++◌, map, true, false, cond, Option, Some, None, refl}
use Rattle.std.proofs.Common.{sym, ◌∙◌, ap}
use Rattle.std.specs.Option.{option_or}
use Rattle.std.specs.declared.cmp.Ordering.TheVariants.{Less, Equal, Greater}
use Rattle.std.specs.Ordering.{is_eq, eq_by_cmp, ordering_then}
use Rattle.std.specs.FinMap as finite
use Rattle.std.specs.FinMap.Entries.{find}
use Rattle.llb_tree.specs.Path.{name_cmp, path_cmp}
use Rattle.llb_tree.specs.PathOrder.{path_cmp-IsTotalOrder}
use Rattle.llb_tree.specs.Tree.{Entry}
use Rattle.llb_tree.specs.Nodes.{name_of, below, flat, kids_of, own_entry, entries_of, map_of}
use Rattle.llb_tree.specs.declared.node.Kind.{Kind}
use Rattle.llb_tree.specs.declared.node.Child.{Child}

-- the entry at path `p` in the tree of the child named `n`, if there is one
abbrev pub look_kids : List Child → List ℕ → List (List ℕ) → Option Entry
look_kids [] n p = None
look_kids (k ∷ ks) n p = option_or (cond (is_eq (name_cmp n (name_of k))) (finite.get k.node p) None) (look_kids ks n p)

pub find_append : (q : List (List ℕ)) (xs ys : List (List (List ℕ) × Entry)) → find path_cmp q (xs ++ ys) ≡ option_or (find path_cmp q xs) (find path_cmp q ys)
find_append q [] ys = refl
find_append q (e ∷ xs) ys =
    elim (eq_by_cmp path_cmp q e.0) as (λ b. cond b (Some e.1) (find path_cmp q (xs ++ ys))
    ≡ option_or (cond b (Some e.1) (find path_cmp q xs)) (find path_cmp q ys)) [
      | true ↦ refl
      | false ↦ find_append q xs ys
    ]

pub find_prefixed : (n m : List ℕ) (q : List (List ℕ)) (es : List (List (List ℕ) × Entry))
    → find path_cmp (n ∷ q) (map (λ (e : List (List ℕ) × Entry). (m ∷ e.0, e.1)) es) ≡ cond (is_eq (name_cmp n m)) (find path_cmp q es) None
find_prefixed n m q [] = elim (is_eq (name_cmp n m)) as (λ b. find {X = Entry} path_cmp (n ∷ q) [] ≡ cond b None None) [ true ↦ refl | false ↦ refl ]
find_prefixed n m q (e ∷ es) =
    elim (name_cmp n m) as (λ o. find path_cmp (n ∷ q) (map (λ (e : List (List ℕ) × Entry). (m ∷ e.0, e.1)) es)
    ≡ cond (is_eq o) (find path_cmp q es) None → cond (is_eq (ordering_then o (path_cmp q e.0))) (Some e.1)
    (find path_cmp (n ∷ q) (map (λ (e : List (List ℕ) × Entry). (m ∷ e.0, e.1)) es)) ≡ cond (is_eq o) (find path_cmp q (e ∷ es)) None) [
      | Less ↦ λ h. h
      | Equal ↦ λ h. ap (cond (eq_by_cmp path_cmp q e.0) (Some e.1)) h
      | Greater ↦ λ h. h
    ] (find_prefixed n m q es)

pub find_flat : (n : List ℕ) (q : List (List ℕ)) (ks : List Child) → find path_cmp (n ∷ q) (flat ks) ≡ look_kids ks n q
find_flat n q [] = refl
find_flat n q (k ∷ ks) =
    find_append (n ∷ q) (below k) (flat ks)
    ∙ ap (λ o. option_or o (find path_cmp (n ∷ q) (flat ks))) (find_prefixed n (name_of k) q (finite.entries k.node)
    ∙ ap (λ o. cond (is_eq (name_cmp n (name_of k))) o None) (sym (finite.get-entries k.node q)))
    ∙ ap (option_or (cond (is_eq (name_cmp n (name_of k))) (finite.get k.node q) None)) (find_flat n q ks)

-- at a path below a node, the map of the node has what the node's children have there
pub get-below : (k : Kind) (n : List ℕ) (q : List (List ℕ)) → finite.get (map_of k) (n ∷ q) ≡ look_kids (kids_of k) n q
get-below k n q = finite.get-from_entries path_cmp-IsTotalOrder (entries_of k) (n ∷ q) ∙ find_flat n q (kids_of k)

-- at the empty path, the map of a node has the node's own entry
pub get-root : (k : Kind) → finite.get (map_of k) [] ≡ Some (own_entry k)
get-root k = finite.get-from_entries path_cmp-IsTotalOrder (entries_of k) []
