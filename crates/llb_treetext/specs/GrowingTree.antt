-- The tree of the lines so far; one of its directories may be kept in a separate tree. Only this crate uses these definitions.
use Rattle.std.specs.Prelude.{◌≡◌, ℕ, List, ◌++◌, Option, Some, None, Ok, false}
use Rattle.std.specs.FinMap as finite
use Rattle.llb_tree.specs.Path.{is_within}
use Rattle.llb_tree.specs.Tree.{Entry, TreeMap, IsTree}
use Rattle.llb_treetext.specs.TreeText.{names_text}
use Rattle.llb_treetext.specs.TreeAfterNextLine.{put_row, IsOf}
use Rattle.llb_treetext.specs.declared.line_fields.Parts.{Parts}
use Rattle.llb_treetext.specs.declared.growing_tree.Growing.{Growing}
use Rattle.llb_treetext.specs.declared.growing_tree.Open.{Open}

-- tree t has, at and below the path `at`, what the tree `dir` has from its root down; everywhere else, t has what the tree `above` has
pub record HasBelow (t above : TreeMap) (at : List (List ℕ)) (dir : TreeMap) : Type 0 where
  pub inside : (q : List (List ℕ)) → finite.get t (at ++ q) ≡ finite.get dir q
  pub outside : (q : List (List ℕ)) → is_within at q ≡ false → finite.get t q ≡ finite.get above q

-- if no directory is kept as a tree of its own, t is `kept`; else t has the tree `kept` at and below that directory's path, and the tree `above` elsewhere
abbrev pub IsKept : TreeMap → Option Open → TreeMap → Type 0
IsKept kept None t = kept ≡ t
IsKept kept (Some o) t = HasBelow t o.above o.at kept × (o.text.now ≡ names_text o.at)

-- t is the tree of the lines so far
abbrev pub IsGrown : Growing → TreeMap → Type 0
IsGrown g t = IsKept g.tree g.open t

-- t is the tree of the lines so far, if the code still has a tree; once memory is refused, the code has none
abbrev pub IsGrownIfAny : Option Growing → TreeMap → Type 0
IsGrownIfAny None t = Unit {0}
IsGrownIfAny (Some g) t = IsGrown g t

-- t is the given tree, if a tree is given
abbrev pub IsIfAny : Option TreeMap → TreeMap → Type 0
IsIfAny None t = Unit {0}
IsIfAny (Some u) t = u ≡ t

-- the next line is the line of the entry `row` and has the fields x; the tree t has nothing at the entry's path yet, and the entry can be put there
pub record Follows (t : TreeMap) (row : List (List ℕ) × Entry) (x : Parts) : Type 0 where
  pub tree : IsTree t
  pub of : IsOf row x
  pub free : finite.get t row.0 ≡ None
  pub put : put_row t row ≡ Ok (finite.insert t row.0 row.1)
