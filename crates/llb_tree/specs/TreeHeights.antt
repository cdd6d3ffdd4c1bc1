-- Bounds of the height of a tree. They show that the tree of a child has a smaller height than the tree of the directory that the child is in.
use Rattle.std.specs.Prelude.{ℕ, ◌≡◌, ◌+◌, ◌-◌, ◌≤◌, max, List, [], ◌∷◌, ◌++◌, true, false, cond, Option, Some, None, refl, is_some, length}
use Rattle.std.proofs.Common.{sym, ◌∙◌, ap, arith}
use Rattle.std.specs.Ordering.{eq_by_cmp, is_eq}
use Rattle.std.specs.Cmp.{tied_itself}
use Rattle.std.specs.Cmp.Lexicographic.{nat_list_cmp_total}
use Rattle.std.specs.Option.{option_or}
use Rattle.std.specs.FinMap as finite
use Rattle.std.specs.FinMap.Entries.{find}
use Rattle.std.specs.Arc.{arc_value}
use Rattle.llb_tree.specs.Path.{name_cmp, path_cmp}
use Rattle.llb_tree.specs.PathOrder.{path_cmp-IsTotalOrder, same_path}
use Rattle.llb_tree.specs.Tree.{TreeMap, Entry, height}
use Rattle.llb_tree.specs.Nodes.{map_of, name_of, rows_in, kids_in}
use Rattle.llb_tree.specs.EntryLookup.{get-below, get-root, look_kids}
use Rattle.llb_tree.specs.declared.node.Kind.{Kind}
use Rattle.llb_tree.specs.declared.node.Kind.TheVariants as kind
use Rattle.llb_tree.specs.declared.node.Child.{Child}
use Rattle.llb_tree.specs.declared.node.Piece.{Piece}
use Rattle.llb_tree.specs.declared.node.Node.TheDeep.{deep-Kind, deep-Child, deep-Piece}
use denote.Param.Weighed.{most}

-- if the path of each of these entries has fewer than n names, the height of a tree with these entries is at most n
most_le : (n : ℕ) (es : List (List (List ℕ) × Entry)) → ((q : List (List ℕ)) → is_some (find path_cmp q es) ≡ true → length q + 1 ≤ n)
    → most (λ (e : List (List ℕ) × Entry). length e.0 + 1) es ≤ n
most_le n [] h = omega arith
most_le n (e ∷ es) h =
    let here : length e.0 + 1 ≤ n = h e.0 (ap (λ o. is_some (cond (is_eq o) (Some e.1) (find path_cmp e.0 es))) (tied_itself path_cmp-IsTotalOrder e.0)) in
    let rest = most_le n es (λ q some. h q (elim (eq_by_cmp path_cmp q e.0) as
    (λ b. is_some (cond b (Some e.1) (find path_cmp q es)) ≡ true) [ true ↦ refl | false ↦ some ])) in
    omega arith

le_most : (q : List (List ℕ)) (es : List (List (List ℕ) × Entry)) → is_some (find path_cmp q es) ≡ true
    → length q + 1 ≤ most (λ (e : List (List ℕ) × Entry). length e.0 + 1) es
le_most q [] h = cc
le_most q (e ∷ es) h =
    elim (eq_by_cmp path_cmp q e.0) as (λ b. eq_by_cmp path_cmp q e.0 ≡ b → is_some (cond b (Some e.1) (find path_cmp q es)) ≡ true
    → length q + 1 ≤ max (length e.0 + 1) (most (λ (e : List (List ℕ) × Entry). length e.0 + 1) es)) [
      | true ↦ λ t _. let same : length q ≡ length e.0 = ap length (same_path q e.0 t) in omega arith
      | false ↦ λ _ some. let rest = le_most q es some in omega arith
    ] refl h

pub height_le : (m : TreeMap) (n : ℕ) → ((q : List (List ℕ)) → is_some (finite.get m q) ≡ true → length q + 1 ≤ n) → height m ≤ n
height_le m n h = most_le n (finite.entries m) (λ q some. h q (ap is_some (finite.get-entries m q) ∙ some))

pub le_height : (m : TreeMap) (q : List (List ℕ)) → is_some (finite.get m q) ≡ true → length q + 1 ≤ height m
le_height m q some = le_most q (finite.entries m) (sym (ap is_some (finite.get-entries m q)) ∙ some)

or_left : (a b : Option Entry) → is_some a ≡ true → is_some (option_or a b) ≡ true
or_left None b h = cc
or_left (Some x) b h = refl

or_right : (a b : Option Entry) → is_some b ≡ true → is_some (option_or a b) ≡ true
or_right None b h = h
or_right (Some x) b h = refl

-- if each path in the tree of each child has fewer than n names, the depth that the prover computes for each child (`deep-Child`) is at most n + 1
kids_le : (n : ℕ) (ks : List Child) → ((m : List ℕ) (q : List (List ℕ)) → is_some (look_kids ks m q) ≡ true → length q + 1 ≤ n) → most deep-Child ks ≤ n + 1
kids_le n [] h = omega arith
kids_le n (k ∷ ks) h =
    let here : height k.node ≤ n =
    height_le k.node n (λ q some. h (name_of k) q
    (or_left _ _ (ap (λ o. is_some (cond (is_eq o) (finite.get k.node q) None)) (tied_itself nat_list_cmp_total (name_of k)) ∙ some))) in
    let rest = kids_le n ks (λ m q some. h m q (or_right (cond (is_eq (name_cmp m (name_of k))) (finite.get k.node q) None) _ some)) in
    omega arith

most_append : (xs ys : List Child) (n : ℕ) → most deep-Child (xs ++ ys) ≤ n → (most deep-Child xs ≤ n) × (most deep-Child ys ≤ n)
most_append [] ys n h = (omega arith, h)
most_append (x ∷ xs) ys n h = let rest = most_append xs ys n (omega arith) in let a : most deep-Child xs ≤ n = rest.0 in (omega arith, rest.1)

-- if the depths of all children in some pieces are at most n, so are the depths of the pieces (`deep-Piece`)
pub pieces_le : (n : ℕ) (ps : List Piece) → most deep-Child (kids_in ps) ≤ n → most deep-Piece ps ≤ n
pieces_le n [] h = omega arith
pieces_le n (p ∷ ps) h =
    let parts = most_append (rows_in p) (kids_in ps) n h in
    let a : most deep-Child (rows_in p) ≤ n = parts.0 in
    let rest = pieces_le n ps parts.1 in
    omega arith

pub falls : (k : Kind) → max (deep-Kind k) 0 ≤ height (map_of k)
falls (kind.File m c) = omega arith
falls (kind.Dir m kids) =
    let k = kind.Dir m kids in
    let ps = (arc_value kids).items in
    let root : 0 + 1 ≤ height (map_of k) = le_height (map_of k) [] (ap is_some (get-root k)) in
    let all : most deep-Child (kids_in ps) ≤ (height (map_of k) - 1) + 1 = kids_le (height (map_of k) - 1) (kids_in ps)
    (λ m q some. let h : length (m ∷ q) + 1 ≤ height (map_of k) = le_height (map_of k) (m ∷ q) (ap is_some (get-below k m q) ∙ some) in omega arith) in
    let pieces = pieces_le _ ps all in
    omega arith
