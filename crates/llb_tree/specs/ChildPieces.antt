-- A directory keeps its children in pieces. The pieces, one after another, have the children in the order of their names; only the first piece
-- may be empty. A child is seen here as a pair: its name, and the tree that its node represents.
use Rattle.std.specs.Prelude.{◌≡◌, ℕ, suc, ◌<◌, Bool, true, false, not, List, [], ◌∷◌, ◌++◌, length, map, drop, get_or, T, Option, Some, None}
use Rattle.std.specs.List.{remove}
use Rattle.std.specs.Ordering.{is_gt, eq_by_cmp}
use Rattle.std.specs.FinMap as finite
use Rattle.std.specs.FinMap.Entries.{where_key}
use Rattle.llb_tree.specs.Path.{name_cmp}
use Rattle.llb_tree.specs.Tree.{TreeMap}
use Rattle.llb_tree.specs.Nodes.{Pairs, pair_of, look_in, set_look, rows_in}
use Rattle.llb_tree.specs.declared.node.Piece.{Piece}

-- the children of a piece, as pairs of a name and a tree
abbrev pub row_pairs : Piece → Pairs
row_pairs p = map pair_of (rows_in p)

-- the children of all pieces, piece after piece, as pairs of a name and a tree
abbrev pub joined : List Pairs → Pairs
joined [] = []
joined (p ∷ ps) = p ++ joined ps

-- the children of all pieces as pairs of a name and a tree, given the pieces as values of the code's type `Piece`
abbrev pub pairs_of : List Piece → Pairs
pairs_of ps = joined (map row_pairs ps)

-- no piece is empty
abbrev pub AllFull : List Pairs → Type 0
AllFull [] = Unit {0}
AllFull (p ∷ ps) = (0 < length p) × AllFull ps

-- the children of all pieces, taken piece after piece, are sorted by name, each name once; and only the first piece may be empty
pub record IsPieced (ps : List Pairs) : Type 0 where
  pub sorted : T (finite.is_sorted name_cmp (joined ps))
  pub full : AllFull (drop 1 ps)

-- `IsPieced` holds for these pieces, given as values of the code's type `Piece`
abbrev pub ArePieced : List Piece → Type 0
ArePieced ps = IsPieced (map row_pairs ps)

-- whether the first name of a piece comes after the given name; false if the piece is empty
abbrev pub begins_after : List ℕ → Pairs → Bool
begins_after n [] = false
begins_after n (e ∷ es) = is_gt (name_cmp e.0 n)

-- `j` is the position of the piece that name `n` belongs to: the last piece that does not begin after `n`, or the first piece if all begin after `n`
pub record IsPieceOf (n : List ℕ) (ps : List Pairs) (j : ℕ) : Type 0 where
  pub in_range : j < length ps
  pub before : 0 < j → begins_after n (get_or ps j []) ≡ false
  pub after : suc j < length ps → begins_after n (get_or ps (suc j) []) ≡ true

-- the pieces without the piece at position j, if that piece, which is also the first argument, is empty; else all pieces
abbrev pub tidied_by : Pairs → ℕ → List Pairs → List Pairs
tidied_by [] j ps = remove ps j
tidied_by (e ∷ es) j ps = ps

-- the pieces without the piece at position j, if that piece is empty; else all pieces
abbrev pub tidied : ℕ → List Pairs → List Pairs
tidied j ps = tidied_by (get_or ps j []) j ps

-- the children without the child that has this name
abbrev pub without : List ℕ → Pairs → Pairs
without n = where_key name_cmp (λ m. not (eq_by_cmp name_cmp n m))

-- the children `es` after a change of the child with this name: it gets the given tree, or is added with that tree; if no tree is given, it is removed
abbrev pub change : List ℕ → Option TreeMap → Pairs → Pairs
change n (Some t) es = finite.put name_cmp n t es
change n None es = without n es

-- the children `new` are `old` after tree `t` replaces everything at or below path `p` in child `n`; if there is no tree `t`, what is there is removed
abbrev pub Changes : List ℕ → List (List ℕ) → Option TreeMap → Pairs → Pairs → Type 0
Changes n p t old new = (made : Option TreeMap) × (new ≡ change n made old)
    × ((q : List (List ℕ)) → look_in made q ≡ set_look p t (look_in (finite.find name_cmp n old)) q)
