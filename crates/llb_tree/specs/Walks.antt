-- The entries that a walk through a tree in path order has not passed yet.
use Rattle.std.specs.Prelude.{ℕ, ◌≤◌, not, List, [], ◌∷◌, ◌++◌, length, map, T, Option, Some, None}
use denote.Ref.{Bor}
use Rattle.std.specs.List.{All}
use Rattle.std.specs.FinMap as finite
use Rattle.std.specs.FinMap.Entries.{where_key, below_all}
use Rattle.llb_tree.specs.Path.{name_cmp, path_cmp, is_within}
use Rattle.llb_tree.specs.Tree.{Entry, moved}
use Rattle.llb_tree.specs.Nodes.{flat, pair_of, left_in, AreSorted}
use Rattle.llb_tree.specs.declared.node.Child.{Child}
use Rattle.llb_tree.specs.declared.node.Node.{Node}
use Rattle.llb_tree.specs.declared.children.Children.{Children}

-- the entries after the first entry, without the entries below the path of the first entry
abbrev pub past : List (List (List ℕ) × Entry) → List (List (List ℕ) × Entry)
past [] = []
past (e ∷ es) = where_key path_cmp (λ q. not (is_within e.0 q)) es

-- for each directory above the current entry, from the root down, the list of its children that the walk has not visited yet
abbrev pub levels_of : List Children → List (List Child)
levels_of = map left_in

-- the entries at and below the children in these lists, each with its path from the root. Each directory on a path has a list; the deepest one's comes first
abbrev pub behind : List (List ℕ) → List (List Child) → List (List (List ℕ) × Entry)
behind [] ls = []
behind (n ∷ p) [] = []
behind (n ∷ p) (l ∷ ls) = map (λ e. (n ∷ e.0, e.1)) (behind p ls) ++ flat l

-- for each name of the path there is a sorted list of children, whose names all come after that name
abbrev pub AreBehind : List (List ℕ) → List (List Child) → Type 0
AreBehind [] [] = Unit {0}
AreBehind [] (l ∷ ls) = ⊥
AreBehind (n ∷ p) [] = ⊥
AreBehind (n ∷ p) (l ∷ ls) = (T (below_all name_cmp n (map pair_of l)) × AreSorted l) × AreBehind p ls

-- the entries that the walk has not passed: the entries at and below the current node, and then the entries after these; none if the walk has ended
abbrev pub left : Option (Bor Node) → List (List ℕ) → List Children → List (List (List ℕ) × Entry)
left None p ls = []
left (Some node) p ls = map (moved 0 p) (finite.entries node.now) ++ behind p (levels_of ls)

-- the path of each entry has at most 128 names
abbrev pub AreShort : List (List (List ℕ) × Entry) → Type 0
AreShort = All (λ e. length e.0 ≤ 128)

-- unless the walk has ended: for each name of the path the unvisited children are sorted and after that name; each path not yet passed has at most 128 names
abbrev pub GoesOn : Option (Bor Node) → List (List ℕ) → List Children → Type 0
GoesOn None p ls = Unit {0}
GoesOn (Some node) p ls = AreBehind p (levels_of ls) × AreShort (left (Some node) p ls)
