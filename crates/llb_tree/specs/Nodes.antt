-- The nodes in which a tree is kept, and the tree that a node represents. A node is a file, or a directory with its children in the order
-- of their names. The contracts of most public calls describe a tree by its map from paths to entries, not by its nodes.
use Rattle.std.specs.Prelude.{cond, ◌≡◌, ℕ, ◌+◌, ◌≤◌, List, [], ◌∷◌, ◌++◌, map, T, Option, Some, None, Result, Ok, Err}
use denote.Ref.{Bor}
use Rattle.std.specs.Arc.{arc_value}
use Rattle.std.specs.Ordering.{is_eq}
use Rattle.std.specs.FinMap as finite
use Rattle.std.specs.FinMap.Entries.{by_order}
use Rattle.llb_tree.specs.Path.{name_cmp}
use Rattle.llb_tree.specs.Tree as base
use Rattle.llb_tree.specs.Tree.{TreeMap, Look}
use Rattle.llb_tree.specs.declared.node.Entry.{Entry}
use Rattle.llb_tree.specs.declared.node.Entry.TheVariants as entry
use Rattle.llb_tree.specs.declared.node.Kind.{Kind}
use Rattle.llb_tree.specs.declared.node.Kind.TheVariants as kind
use Rattle.llb_tree.specs.declared.node.Child.{Child}
use Rattle.llb_tree.specs.declared.node.Piece.{Piece}
use Rattle.llb_tree.specs.declared.children.Children.{Children}

-- a path with its entry, as contracts see them
abbrev pub Pair : Type 0
Pair = List (List ℕ) × base.Entry

-- an entry as contracts see it: the content of a file is a list of bytes
abbrev pub seen : Entry → base.Entry
seen (entry.Dir m) = base.Dir m
seen (entry.File m b) = base.File m b.now

-- a borrowed path and a value of the code's type `Entry`, as the pair that contracts see
abbrev pub pair_seen : Bor (List (List ℕ)) × Entry → Pair
pair_seen (p, e) = (p.now, seen e)

-- the bytes of a child's name
abbrev pub name_of : Child → List ℕ
name_of k = arc_value k.name

-- the entries at and below a child, each with its path from the directory that the child is in
abbrev pub below : Child → List Pair
below k = map (λ (e : Pair). (name_of k ∷ e.0, e.1)) (finite.entries k.node)

-- the entries at and below the children of a directory, one child after another, each with its path from that directory
abbrev pub flat : List Child → List Pair
flat [] = []
flat (k ∷ ks) = below k ++ flat ks

-- the children in a piece; a piece has consecutive children of a directory
abbrev pub rows_in : Piece → List Child
rows_in p = (arc_value p.rows).items

-- the children in pieces, one piece after another
abbrev pub kids_in : List Piece → List Child
kids_in [] = []
kids_in (p ∷ ps) = rows_in p ++ kids_in ps

-- the pieces that the children of a directory are in; a file has none
abbrev pub pieces_of : Kind → List Piece
pieces_of (kind.File m c) = []
pieces_of (kind.Dir m pieces) = (arc_value pieces).items

-- the children of a directory, in the order of the pieces in which they are kept; a file has none
abbrev pub kids_of : Kind → List Child
kids_of k = kids_in (pieces_of k)

-- the entry of the node itself
abbrev pub own_entry : Kind → base.Entry
own_entry (kind.File m c) = base.File m (arc_value c)
own_entry (kind.Dir m kids) = base.Dir m

-- the entries of a node, each with its path from the node: the node's entry at the empty path, and then the entries of its children
abbrev pub entries_of : Kind → List Pair
entries_of k = ([], own_entry k) ∷ flat (kids_of k)

-- the tree that a node represents: the entries at and below the node, by their paths from the node
abbrev pub map_of : Kind → TreeMap
map_of k = finite.from_entries (entries_of k)

-- a child as its name and the tree that its node represents
abbrev pub pair_of : Child → List ℕ × TreeMap
pair_of k = (name_of k, k.node)

-- the children are sorted by name, each name once
abbrev pub AreSorted : List Child → Type 0
AreSorted ks = T (finite.is_sorted name_cmp (map pair_of ks))

-- the tree of the child with this name, if there is one
abbrev pub child : List ℕ → List Child → Option TreeMap
child n ks = finite.find name_cmp n (map pair_of ks)

-- the entry at a path in a tree; none if no tree is given, or if it has no entry there
abbrev pub look_in : Option TreeMap → Look
look_in None q = None
look_in (Some t) q = finite.get t q

-- what `place`, defined next, returns after one more child is put in front of the list: the position, in `Ok` or in `Err`, grows by 1
abbrev pub later : Result ℕ ℕ → Result ℕ ℕ
later (Ok i) = Ok (i + 1)
later (Err i) = Err (i + 1)

-- the position of the child with this name, as `Ok`; if there is no such child, the position at which it would be inserted, as `Err`
abbrev pub place : List ℕ → List Child → Result ℕ ℕ
place p [] = Err 0
place p (r ∷ rows) = by_order (name_cmp p (name_of r)) (Err 0) (Ok 0) (later (place p rows))

-- the entry at each path after tree `t` replaces everything at or below path `p`; if there is no tree `t`, everything there is removed
abbrev pub set_look : List (List ℕ) → Option TreeMap → Look → Look
set_look [] t old q = look_in t q
set_look (n ∷ p) t old [] = old []
set_look (n ∷ p) t old (m ∷ q) = cond (is_eq (name_cmp m n)) (set_look p t (λ r. old (n ∷ r)) q) (old (m ∷ q))

-- the entry at each path after the root is replaced by a directory with this mode and owner; what is below the root stays
abbrev pub dir_look : base.MetaValue → Look → Look
dir_look m old [] = Some (base.Dir m)
dir_look m old (n ∷ q) = old (n ∷ q)

-- the entry at each path of a tree whose root is a file: that file at the root, and nothing below the root
abbrev pub file_look : base.MetaValue → List ℕ → Look
file_look m b [] = Some (base.File m b)
file_look m b (n ∷ q) = None

-- children as their names and the trees that they represent
abbrev pub Pairs : Type 0
Pairs = List (List ℕ × TreeMap)

-- the children `new` are `old` after tree `t` replaces everything at or below path `p` in child `n`; if there is no tree `t`, what is there is removed
pub record Sets (n : List ℕ) (p : List (List ℕ)) (t : Option TreeMap) (old new : Pairs) : Type 0 where
  pub sorted : T (finite.is_sorted name_cmp new)
  pub children : (m : List ℕ) (q : List (List ℕ)) → look_in (finite.find name_cmp m new) q
      ≡ cond (is_eq (name_cmp m n)) (set_look p t (look_in (finite.find name_cmp n old)) q) (look_in (finite.find name_cmp m old) q)

-- `root` is a tree whose paths have at most `depth` names, and `depth` is at most 128
pub record IsWhole (root : TreeMap) (depth : ℕ) : Type 0 where
  pub tree : base.IsTree root
  pub deep : base.height root ≤ depth + 1
  pub short : depth ≤ 128

-- the children that a `Children` of the code still has: those left of the current piece, and those of the later pieces (a directory keeps children in pieces)
abbrev pub left_in : Children → List Child
left_in c = c.rows.now ++ kids_in c.pieces.now

-- the result of splitting a list of children: the first child and the children after it, or nothing if the list is empty
abbrev pub SplitsFirst : List Child → Option (Bor Child × Children) → Type 0
SplitsFirst ks None = ks ≡ []
SplitsFirst ks (Some (kid, rest)) = ks ≡ kid.now ∷ left_in rest
