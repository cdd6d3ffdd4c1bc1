-- How the tree of the lines so far changes when one more line of a text is read. Only this crate uses these definitions.
use Rattle.std.specs.Prelude.{◌≡◌, ℕ, ◌+◌, ◌<◌, ◌==◌, Bool, true, false, List, [], ◌∷◌, ◌++◌, length, map, None, Result, Ok, Err, if◌then◌else◌}
use Rattle.std.specs.FinMap as finite
use Rattle.std.specs.declared.cmp.Ordering.{Ordering}
use Rattle.std.specs.Ordering.{nat_cmp}
use Rattle.std.specs.Cmp.Lexicographic.{slice_cmp}
use Rattle.llb_tree.specs.Tree.{Entry, Dir, File, TreeMap, IsTree, empty_tree, put_dir, put_file}
use Rattle.llb_tree.specs.declared.fault.TreeFault.{TreeFault}
use Rattle.llb_treetext.specs.declared.fault.TextFault.{TextFault}
use Rattle.llb_treetext.specs.TreeText.{names_text, tree_text}
use Rattle.llb_treetext.specs.TextGrammar.{IsRow, IsFault}
use Rattle.llb_treetext.specs.LineFields.{parts_seen, parts_from}
use Rattle.llb_treetext.specs.CallResults.{is_memory}
use Rattle.llb_treetext.specs.declared.line_fields.Parts.{Parts}
use Rattle.llb_treetext.specs.declared.line_check.Place.{Place}
use Rattle.llb_treetext.specs.declared.line_check.Line.{Line}

-- the tree after an entry is put at its path, or the fault
abbrev pub put_row : TreeMap → List (List ℕ) × Entry → Result TreeMap TreeFault
put_row t (p, Dir m) = put_dir t p m
put_row t (p, File m content) = put_file t p m content

-- x is the fields of the line that is written for the entry `row`
abbrev pub IsOf : List (List ℕ) × Entry → Parts → Type 0
IsOf row x = IsRow row × (parts_seen x ≡ parts_from row)

-- one more line is in the tree: the text of the tree and the text that remains to be read are together the same as before, and less text remains
pub record GoesOn (old new : TreeMap) (rest later : List ℕ) : Type 0 where
  pub tree : IsTree new
  pub text : tree_text old ++ rest ≡ tree_text new ++ later
  pub shorter : length later < length rest

-- t is the tree of the lines at the start of some bytes, and `rest` is the bytes after these lines
pub record IsFront (bytes : List ℕ) (t : TreeMap) (rest : List ℕ) : Type 0 where
  pub tree : IsTree t
  pub text : bytes ≡ tree_text t ++ rest

-- ---- checks without allocating: to check a line, the code needs only the path of the line before it, and whether that line's entry is a directory

-- whether an entry is a directory
abbrev pub is_dir : Entry → Bool
is_dir (Dir m) = true
is_dir (File m content) = false

-- a byte's rank in the order of paths: a slash is before all bytes of names
abbrev pub rank : ℕ → ℕ
rank b = if b == 47 then 0 else b

-- how two texts of names, with a slash before each name, are ordered as paths
abbrev pub trail_cmp : List ℕ → List ℕ → Ordering
trail_cmp p q = slice_cmp nat_cmp (map rank p) (map rank q)

-- whether a beginning of the last entry's path is the path of a directory; the given bytes are the rest of that path. If there is no rest, `dir` (whether the
-- last entry is a directory) is the answer; else the beginning is the path of a directory exactly if the rest begins with a slash.
abbrev pub opens : List ℕ → Bool → Bool
opens [] dir = dir
opens (b ∷ later) dir = b == 47

-- `place` has the last path of a tree, and whether the entry at this path is a directory
pub record IsLast (t : TreeMap) (place : Place) : Type 0 where
  pub front : List (List (List ℕ) × Entry)
  pub row : List (List ℕ) × Entry
  pub entries : finite.entries t ≡ front ++ row ∷ []
  pub names : place.names.now ≡ names_text row.0
  pub kind : place.is_dir ≡ is_dir row.1

-- the result of reading the first line: the tree of this line alone, or the fault of the line
abbrev pub Starts : List ℕ → Result Line TextFault → Type 0
Starts bytes (Ok x) = let t = finite.insert empty_tree [] (Dir x.parts.meta) in IsFront bytes t x.later.now × IsLast t x.place × (finite.len t ≡ 1)
Starts bytes (Err e) = (is_memory e ≡ false) × IsFault [] bytes e

-- the result of reading one more line: the tree with the entry of this line, at a path at which nothing was before; or the fault of the line
abbrev pub GoesTo : TreeMap → List ℕ → Result Line TextFault → Type 0
GoesTo t rest (Ok x) = (row : List (List ℕ) × Entry) × IsOf row x.parts × (finite.get t row.0 ≡ None) × (put_row t row ≡ Ok (finite.insert t row.0 row.1))
    × GoesOn t (finite.insert t row.0 row.1) rest x.later.now × IsLast (finite.insert t row.0 row.1) x.place
    × (finite.len (finite.insert t row.0 row.1) ≡ finite.len t + 1)
GoesTo t rest (Err e) = (is_memory e ≡ false) × IsFault (finite.entries t) rest e
