-- What is found below a node, by its children.
use Rattle.std.proofs.Common.{◌≡◌, ◌≤◌, arith, Vec, Global, ℕ, List, [], ◌∷◌, ◌++◌, map, Option, Some, None, cond, T, refl, sym, ap, subst, ◌∙◌}
use Rattle.std.specs.declared.cmp.Ordering.TheVariants.{Less, Equal, Greater}
use denote.Param.Weighed.{most}
use Rattle.std.specs.Arc.{arc_value}
use Rattle.std.specs.declared.sync.Arc.{Arc}
use Rattle.llb_tree.specs.TreeHeights.{falls}
use Rattle.llb_tree.specs.declared.node.Node.TheDeep.{deep-Child, deep-Piece}
use Rattle.std.specs.Option.{option_or}
use Rattle.std.specs.Ordering.{is_eq}
use Rattle.std.specs.FinMap as finite
use Rattle.std.specs.FinMap.Entries.{below_all}
use Rattle.llb_tree.specs.Path.{name_cmp, path_cmp}
use Rattle.llb_tree.specs.ModeAndOwner.{MetaValue}
use Rattle.llb_tree.specs.PathOrder.{name_cmp-IsAntisymmetric, path_cmp-IsTotalOrder, path_cmp-IsAntisymmetric}
use Rattle.llb_tree.specs.Tree.{TreeMap, Entry, Dir, File, Look, height}
use Rattle.llb_tree.specs.Nodes.{name_of, rows_in, kids_of, kids_in, own_entry, map_of, pair_of, AreSorted, child, look_in, dir_look, file_look}
use Rattle.llb_tree.specs.EntryLookup.{look_kids, get-below, get-root}
use Rattle.llb_tree.specs.declared.node.Kind.{Kind}
use Rattle.llb_tree.specs.declared.node.Kind.TheVariants as kind
use Rattle.llb_tree.specs.declared.node.Child.{Child}
use Rattle.llb_tree.specs.declared.node.Piece.{Piece}
use Rattle.llb_tree.proofs.EntryOrder.{is_less, and_first, and_second}

-- a choice between an entry and nothing is the entry, if there is one
pub or_None : (a : Option Entry) → option_or a None ≡ a
or_None None = refl
or_None (Some x) = refl

-- no child of a name that is below all
none_below : (n : List ℕ) (q : List (List ℕ)) (ks : List Child) → T (below_all name_cmp n (map pair_of ks)) → look_kids ks n q ≡ None
none_below n q [] h = refl
none_below n q (k ∷ ks) h = ap (λ o. option_or (cond (is_eq o) (finite.get k.node q) None) (look_kids ks n q))
    (is_less _ (and_first _ _ h)) ∙ none_below n q ks (and_second _ _ h)

look_child : (n : List ℕ) (q : List (List ℕ)) (ks : List Child) → AreSorted ks → look_kids ks n q ≡ look_in (child n ks) q
look_child n q [] h = refl
look_child n q (k ∷ ks) h =
    elim (name_cmp n (name_of k)) as (λ o. name_cmp n (name_of k) ≡ o
    → option_or (cond (is_eq o) (finite.get k.node q) None) (look_kids ks n q) ≡ look_in (cond (is_eq o) (Some k.node) (child n ks)) q) [
      | Less ↦ λ _. look_child n q ks (and_second _ _ h)
      | Equal ↦ λ e. let same : n ≡ name_of k = name_cmp-IsAntisymmetric n (name_of k) e in
          ap (option_or (finite.get k.node q))
          (none_below n q ks (subst (λ m. T (below_all name_cmp m (map pair_of ks))) (sym same) (and_first _ _ h))) ∙ or_None (finite.get k.node q)
      | Greater ↦ λ _. look_child n q ks (and_second _ _ h)
    ] refl

-- what is found in a child
pub get-child : (k : Kind) (n : List ℕ) (q : List (List ℕ)) → AreSorted (kids_of k) → finite.get (map_of k) (n ∷ q) ≡ look_in (child n (kids_of k)) q
get-child k n q h = get-below k n q ∙ look_child n q (kids_of k) h

-- the entry at the root of a node's map is the node's own entry
pub read_root : (k : Kind) (v : TreeMap) → map_of k ≡ v → Some (own_entry k) ≡ finite.get v []
read_root k v view = sym (get-root k) ∙ ap (λ t. finite.get t []) view

-- below a node without children there is nothing
pub read_file : (k : Kind) (v : TreeMap) (n : List ℕ) (q : List (List ℕ)) → map_of k ≡ v → kids_of k ≡ [] → None ≡ finite.get v (n ∷ q)
read_file k v n q view none = sym (ap (λ t. finite.get t (n ∷ q)) (sym view) ∙ get-below k n q ∙ ap (λ ks. look_kids ks n q) none)

module _ (k : Kind) (ks : List Child) (v : TreeMap) (n : List ℕ) (q : List (List ℕ)) (view : map_of k ≡ v) (is : kids_of k ≡ ks)
    (sorted : AreSorted (kids_of k)) where
  pub read_child : finite.get v (n ∷ q) ≡ look_in (child n ks) q
  read_child = ap (λ t. finite.get t (n ∷ q)) (sym view) ∙ get-child k n q sorted ∙ ap (λ x. look_in (child n x) q) is

  -- what is found among the children has what the node has below the name
  pub read_found : (o : Option TreeMap) → o ≡ child n ks → look_in o q ≡ finite.get v (n ∷ q)
  read_found o found = ap (λ x. look_in x q) found ∙ sym read_child

-- a map of one file at the root has at each path what a lone file has: at the root itself, and below it nothing
pub file_alone : (m : MetaValue) (b c : List ℕ) → c ≡ b → (q : List (List ℕ))
    → finite.get {R = path_cmp} (finite.insert finite.empty [] (File m c)) q ≡ file_look m b q
file_alone m b c is [] = finite.get-insert path_cmp-IsTotalOrder finite.empty [] (File m c) [] ∙ ap (λ x. Some (File m x)) is
file_alone m b c is (n ∷ q) = finite.get-insert path_cmp-IsTotalOrder finite.empty [] (File m c) (n ∷ q) ∙ finite.get-empty path_cmp (n ∷ q)

abbrev pub bare : MetaValue → TreeMap
bare m = finite.insert finite.empty [] (Dir m)

-- a directory with nothing below it, where nothing was
pub dir_alone : (m : MetaValue) (look : Look) → ((n : List ℕ) (q : List (List ℕ)) → None ≡ look (n ∷ q)) → (q : List (List ℕ))
    → finite.get (bare m) q ≡ dir_look m look q
dir_alone m look none [] = finite.get-insert path_cmp-IsTotalOrder finite.empty [] (Dir m) []
dir_alone m look none (n ∷ q) = finite.get-insert path_cmp-IsTotalOrder finite.empty [] (Dir m) (n ∷ q) ∙ finite.get-empty path_cmp (n ∷ q) ∙ none n q

-- a directory that keeps its children, but gets another mode and owner, has the same entries below it
pub dir_kept : (k : Kind) (old : Kind) (v : TreeMap) (m : MetaValue) → own_entry k ≡ Dir m → kids_of k ≡ kids_of old → map_of old ≡ v
    → (q : List (List ℕ)) → finite.get (map_of k) q ≡ dir_look m (finite.get v) q
dir_kept k old v m own kids view [] = get-root k ∙ ap Some own
dir_kept k old v m own kids view (n ∷ q) = get-below k n q ∙ ap (λ ks. look_kids ks n q) kids ∙ sym (get-below old n q) ∙ ap (λ t. finite.get t (n ∷ q)) view

-- a node is the entry at it and what is found in its children
pub node_is : (k : Kind) (t : TreeMap) → AreSorted (kids_of k) → finite.get t [] ≡ Some (own_entry k)
    → ((n : List ℕ) (q : List (List ℕ)) → finite.get t (n ∷ q) ≡ look_in (child n (kids_of k)) q) → map_of k ≡ t
node_is k t h root below = finite.same_map path_cmp-IsTotalOrder path_cmp-IsAntisymmetric (map_of k) t by_path
  where
    by_path : (q : List (List ℕ)) → finite.get (map_of k) q ≡ finite.get t q
    by_path [] = get-root k ∙ sym root
    by_path (n ∷ q) = get-child k n q h ∙ sym (below n q)

-- the children of a directory are less high than it, and so are its pieces
pub pieces_below : (k : Kind) (m : MetaValue) (kids : Arc (Vec Piece Global) Global) (v : TreeMap) (ps : List Piece) → map_of k ≡ v
    → k ≡ kind.Dir m kids → ps ≡ (arc_value kids).items → most deep-Piece ps ≤ height v
pieces_below k m kids v ps view is same =
    subst (λ x. most deep-Piece ps ≤ height x) (ap map_of (sym is) ∙ view)
    (subst (λ xs. most deep-Piece xs ≤ height (map_of (kind.Dir m kids))) (sym same) (let all = falls (kind.Dir m kids) in omega arith))

-- the heights of the children in pieces, if those of the pieces are at most n
pub le_pieces : (n : ℕ) (ps : List Piece) → most deep-Piece ps ≤ n → most deep-Child (kids_in ps) ≤ n
le_pieces n [] h = omega arith
le_pieces n (p ∷ ps) h = both (rows_in p) (kids_in ps) (omega arith) (le_pieces n ps (omega arith))
  where
    both : (xs ys : List Child) → most deep-Child xs ≤ n → most deep-Child ys ≤ n → most deep-Child (xs ++ ys) ≤ n
    both [] ys g h = h
    both (x ∷ xs) ys g h = let rest = both xs ys (omega arith) h in omega arith

pub kids_below : (k : Kind) (m : MetaValue) (kids : Arc (Vec Piece Global) Global) (v : TreeMap) (ks : List Child) → map_of k ≡ v
    → k ≡ kind.Dir m kids → ks ≡ kids_in (arc_value kids).items → most deep-Child ks ≤ height v
kids_below k m kids v ks view is same =
    subst (λ xs. most deep-Child xs ≤ height v) (sym same) (le_pieces (height v) (arc_value kids).items (pieces_below k m kids v _ view is refl))
