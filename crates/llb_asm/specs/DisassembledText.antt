-- The one text that is written for a list of entries.
use Rattle.std.specs.Prelude.{◌≡◌, ◌≢◌, ℕ, ◌+◌, ◌*◌, if◌then◌else◌, List, [], ◌∷◌, ◌++◌, map, codes, position, replicate, Option, Some, None, Ok}
use Rattle.std.specs.List.{flat_map}
use Rattle.llb_wire.specs.Digest.{digest_text}
use Rattle.llb_wire.specs.Hexadecimal.{hex_text}
use Rattle.llb_ops.specs.declared.op.Op.{Op}
use Rattle.llb_ops.specs.declared.table.FieldKind.{FieldKind}
use Rattle.llb_ops.specs.declared.table.FieldKind.TheVariants as kind
use Rattle.llb_ops.specs.Messages.{op_of}
use Rattle.llb_ops.specs.Writing.{op_bytes}
use Rattle.llb_ops.specs.CanonicalFields.{Fields, extra, number, bytes, message, without_empty, HasFields}
use Rattle.llb_ops.specs.Definition.{definition_of, definition_bytes}
use Rattle.llb_asm.specs.ItemLines.{kept}
use Rattle.llb_asm.specs.TextGrammar.{SpellsEntries}
use Rattle.llb_asm.specs.FieldValueTexts.{number_text, string_text, label_text}
use Rattle.llb_wire.specs.TextComparison.{is_text}

-- ---- values

-- the number of the first entry with this digest text; nothing if there is none
abbrev pub label_for : List (List ℕ) → List ℕ → Option ℕ
label_for labels digest = position (is_text digest) labels

-- the value that is written for a string: the label of entry k (`%` and k) if a number k is given, else the string between quotes
abbrev pub labelled_text : List ℕ → Option ℕ → List ℕ
labelled_text string None = string_text string
labelled_text string (Some k) = label_text k

-- the value that is written for a string: an entry's label, if the field is `digest` and the string is the entry's digest text; else the string in quotes
abbrev pub string_for : List (List ℕ) → List ℕ → List ℕ → List ℕ
string_for labels name string = labelled_text string (if is_text name (codes "digest") then label_for labels string else None)

-- the value that is written for the bytes of a String or Bytes field with this name; empty for the other kinds
abbrev pub held_text : FieldKind → List (List ℕ) → List ℕ → List ℕ → List ℕ
held_text kind.String labels name held = string_for labels name held
held_text kind.Bytes labels name held = hex_text held
held_text kind.Int64 labels name held = []
held_text kind.Int32 labels name held = []
held_text kind.Uint32 labels name held = []
held_text kind.Enum labels name held = []
held_text kind.Bool labels name held = []
held_text (kind.Message m) labels name held = []

-- ---- lines, each with its depth

-- a line that is written: how many messages and ops are open around it, and its text without indentation and line end
abbrev pub PlainLine : Type 0
PlainLine = ℕ × List ℕ

-- the line of an item: its name, one space and its value
abbrev pub item_line : ℕ → List ℕ → List ℕ → PlainLine
item_line depth name value = (depth, name ++ 32 ∷ value)

-- the value that opens a message or an op
abbrev pub opening : List ℕ
opening = codes "{"

-- the line that closes a message or an op, at the depth of the line that opened it
abbrev pub closing_line : ℕ → PlainLine
closing_line depth = (depth, codes "}")

-- the line of the extra bytes; none if there are no extra bytes
abbrev pub extra_lines : ℕ → List ℕ → List PlainLine
extra_lines depth [] = []
extra_lines depth (b ∷ more) = item_line depth (codes "extra") (hex_text (b ∷ more)) ∷ []

-- the lines that are written for the fields of a message; `depth` is the depth of these lines
abbrev pub field_lines : List (List ℕ) → ℕ → Fields → List PlainLine
field_lines labels depth (extra more) = extra_lines depth more
field_lines labels depth (number row v rest) = item_line depth row.0 (number_text row.1.kind v) ∷ field_lines labels depth rest
field_lines labels depth (bytes row held rest) = item_line depth row.0 (held_text row.1.kind labels row.0 held) ∷ field_lines labels depth rest
field_lines labels depth (message row inner rest) =
    item_line depth row.0 opening ∷ (field_lines labels (depth + 1) inner ++ (closing_line depth ∷ field_lines labels depth rest))

-- ---- entries

-- the entry is read as an op, and the canonical bytes of that op are exactly the entry; such an entry is written as an op
abbrev pub IsStructured : List ℕ → Type 0
IsStructured entry = (op : Op) × (op_of entry ≡ Ok op) × (op_bytes op ≡ entry)

-- how an entry is written: as an op, by the fields of its canonical bytes, or as raw bytes
pub data Form : Type 0 where
  structured : (op : Op) → HasFields op → Form
  raw : Form

-- an entry has the form of an op if it is read as this op and is the op's canonical bytes; it has the form `raw` if there is no such op
abbrev pub HasForm : List ℕ → Form → Type 0
HasForm entry (structured op has) = (op_of entry ≡ Ok op) × (op_bytes op ≡ entry)
HasForm entry raw = ¬ IsStructured entry

-- an entry has the words of an op if it is read as this op, whatever its bytes are; it has the form `raw` if it can't be read as an op
abbrev pub HasWords : List ℕ → Form → Type 0
HasWords entry (structured op has) = op_of entry ≡ Ok op
HasWords entry raw = (op : Op) → op_of entry ≢ Ok op

-- the lines of an entry: `op {`, the op's fields (in entries of maps, empty keys and values are left out), and `}`; or `raw` and the entry's bytes
abbrev pub entry_lines : List (List ℕ) → List ℕ → Form → List PlainLine
entry_lines labels entry (structured op has) = item_line 0 (codes "op") opening ∷ (field_lines labels 1 (without_empty has.fields) ++ (closing_line 0 ∷ []))
entry_lines labels entry raw = item_line 0 (codes "raw") (hex_text entry) ∷ []

-- an entry with its form: how the entry is written, as an op or as raw bytes
abbrev pub Formed : Type 0
Formed = List ℕ × Form

-- each of these entries has, by the rule `Has`, the form (an op, or raw bytes) with which it is paired
abbrev pub HaveForms : (List ℕ → Form → Type 0) → List Formed → Type 0
HaveForms Has [] = Unit {0}
HaveForms Has (x ∷ xs) = Has x.0 x.1 × HaveForms Has xs

-- `xs` has the entries in their order, each with the form that it has by the rule `Has`
pub record AreFormedBy (Has : List ℕ → Form → Type 0) (entries : List (List ℕ)) (xs : List Formed) : Type 0 where
  pub same : map (λ x. x.0) xs ≡ entries
  pub forms : HaveForms Has xs

-- `xs` has the entries in their order, each with the form in which it is disassembled
abbrev pub AreFormed : List (List ℕ) → List Formed → Type 0
AreFormed = AreFormedBy HasForm

-- `xs` has the entries in their order, each with its op if it can be read: its words are those that are written for the op's canonical bytes
abbrev pub AreWorded : List (List ℕ) → List Formed → Type 0
AreWorded = AreFormedBy HasWords

-- the lines of entries, given the digest texts of the entries before them; a label may name any earlier entry
abbrev pub plain_lines : List (List ℕ) → List Formed → List PlainLine
plain_lines labels [] = []
plain_lines labels (x ∷ xs) = entry_lines labels x.0 x.1 ++ plain_lines (labels ++ digest_text x.0 ∷ []) xs

-- ---- the text: two spaces for each level before a line, and a line feed after it

-- a line as it is written: two spaces for each level of its depth, its text, and a line feed
abbrev pub line_text : PlainLine → List ℕ
line_text l = replicate (2 * l.0) 32 ++ (l.1 ++ 10 ∷ [])

-- lines as they are written, one after another
abbrev pub text_of_lines : List PlainLine → List ℕ
text_of_lines lines = flat_map line_text lines

-- the text that is written for entries in their forms; the label of the first entry has number 0 (docs/FORMATS.md, "The text of entries")
abbrev pub plain_text : List Formed → List ℕ
plain_text xs = text_of_lines (plain_lines [] xs)

-- ---- the law: a written text is read back

-- the text that is written for the entries of a definition is read as the same entries
abbrev pub ReadsBack : List (List ℕ) → Type 0
ReadsBack entries =
    definition_of (definition_bytes entries) ≡ Ok entries → (xs : List Formed) → AreFormed entries xs
    → SpellsEntries (kept (plain_text xs)) entries
