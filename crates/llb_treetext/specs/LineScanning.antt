-- The fields of a line, and the line at the start of some bytes, as the code finds them without allocating.
use Rattle.std.specs.Prelude.{◌≡◌, ◌≢◌, ℕ, List, ◌++◌, Option, Some, None}
use denote.Ref.{Bor}
use Rattle.llb_tree.specs.Tree.{Entry}
use Rattle.llb_treetext.specs.TreeText.{row_text, line_of}
use Rattle.llb_treetext.specs.TextGrammar.{IsRow, Begins}
use Rattle.llb_treetext.specs.LineFields.{parts_seen, parts_from}
use Rattle.llb_treetext.specs.declared.line_fields.Parts.{Parts}

-- the line is the line of an entry, and has the given fields; or no fields are given, and the line is not the line of any entry
abbrev pub Spells : List ℕ → Option Parts → Type 0
Spells line None = (row : List (List ℕ) × Entry) → IsRow row → line ≢ row_text row
Spells line (Some x) = (row : List (List ℕ) × Entry) × IsRow row × (line ≡ row_text row) × (parts_seen x ≡ parts_from row)

-- if x, fields with some bytes, is given: the bytes are an entry's line with the fields `x.0`, and then `x.1`; else the bytes begin with no entry's line
abbrev pub BeginsWith : List ℕ → Option (Parts × Bor (List ℕ)) → Type 0
BeginsWith bytes None = (row : List (List ℕ) × Entry) → ¬ Begins bytes row
BeginsWith bytes (Some x) = (row : List (List ℕ) × Entry) × IsRow row × (bytes ≡ line_of row ++ x.1.now) × (parts_seen x.0 ≡ parts_from row)
