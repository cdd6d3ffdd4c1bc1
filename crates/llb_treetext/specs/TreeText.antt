-- The text of a tree: one line for each entry in path order.
use Rattle.std.specs.Prelude.{ℕ, ◌/◌, ◌%◌, List, [], ◌∷◌, ◌++◌, codes}
use Rattle.std.specs.List.{flat_map}
use Rattle.std.specs.Fmt.{decimal}
use Rattle.std.specs.FinMap as finite
use Rattle.llb_wire.specs.Hexadecimal.{hex_text}
use Rattle.llb_tree.specs.Tree.{Entry, Dir, File, MetaValue, TreeMap}

-- the text of a mode: four octal digits
abbrev pub mode_text : ℕ → List ℕ
mode_text mode = decimal (mode / 512) ++ (decimal (mode / 64 % 8) ++ (decimal (mode / 8 % 8) ++ decimal (mode % 8)))

-- the mode of an entry in four octal digits, and the user and the group in decimal, with a space after each of the three
abbrev pub meta_text : MetaValue → List ℕ
meta_text m = mode_text m.mode ++ (codes " " ++ (decimal m.uid ++ (codes " " ++ (decimal m.gid ++ codes " "))))

-- the names of a path, with a slash before each; empty for the root
abbrev pub names_text : List (List ℕ) → List ℕ
names_text p = flat_map (λ name. codes "/" ++ name) p

-- the text of a path: the text of its names, and one slash for the root, which has no names
abbrev pub path_text : List (List ℕ) → List ℕ
path_text [] = codes "/"
path_text (n ∷ p) = names_text (n ∷ p)

-- the line of an entry, without the line feed at its end
abbrev pub row_text : List (List ℕ) × Entry → List ℕ
row_text (p, Dir m) = codes "d " ++ (meta_text m ++ path_text p)
row_text (p, File m content) = codes "f " ++ (meta_text m ++ (hex_text content ++ (codes " " ++ path_text p)))

-- the line of an entry, with the line feed at its end (docs/FORMATS.md, "The texts of a tree and of a graph")
abbrev pub line_of : List (List ℕ) × Entry → List ℕ
line_of e = row_text e ++ codes "\n"

-- the lines of some entries
abbrev pub lines_of : List (List (List ℕ) × Entry) → List ℕ
lines_of entries = flat_map line_of entries

-- the text of a tree: the lines of all its entries, in path order
abbrev pub tree_text : TreeMap → List ℕ
tree_text t = lines_of (finite.entries t)
