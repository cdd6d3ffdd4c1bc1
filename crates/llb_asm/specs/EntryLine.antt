-- One line inside an entry: what it adds to the current message, or why it is refused.
use Rattle.std.specs.Prelude.{ℕ, ◌+◌, ◌==◌, ◌&&◌, ◌||◌, not, nat_le, nat_eq, if◌then◌else◌, Bool, true, false, List, [], length, take, drop, position}
use Rattle.std.specs.Prelude.{codes, slice_get, Option, Some, None, Result, Ok, Err, option_map}
use Rattle.std.specs.Str.{is_utf8}
use Rattle.llb_wire.specs.CallResults.{◌>>=◌}
use Rattle.llb_ops.specs.declared.table.MessageName.{MessageName}
use Rattle.llb_ops.specs.declared.table.FieldKind.{FieldKind}
use Rattle.llb_ops.specs.declared.table.FieldKind.TheVariants as kind
use Rattle.llb_ops.specs.declared.table.NamedField.{NamedField}
use Rattle.llb_ops.specs.Limits.{field_limit}
use Rattle.llb_ops.specs.Table.{Row, row_named}
use Rattle.llb_ops.specs.Writing.{set_number, set_bytes}
use Rattle.llb_ops.specs.CanonicalFields.{may_follow, may_be_empty, are_unnamed}
use Rattle.llb_asm.specs.declared.fault.Rule.TheVariants.{Syntax, UnknownField, Order, BadValue, OverLimit}
use Rattle.llb_asm.specs.declared.line.Refusal.{Refusal}
use Rattle.llb_asm.specs.declared.line.Refusal.TheVariants.{Breaks, UnknownLabel}
use Rattle.llb_asm.specs.declared.line.Here.{Here}
use Rattle.llb_asm.specs.declared.line.Held.{Held}
use Rattle.llb_asm.specs.declared.line.Held.TheVariants.{Record, Opens}
use Rattle.llb_asm.specs.declared.line.Item.{Item}
use Rattle.llb_asm.specs.FieldValueTexts.{number_in, string_in, bytes_spelled, label_in}
use Rattle.llb_wire.specs.TextComparison.{is_text}

-- the value if there is one, else this refusal
abbrev pub or_else : {A : Type 0} → Refusal → Option A → Result A Refusal
or_else e None = Err e
or_else e (Some x) = Ok x

-- success if the test passes, else this refusal
abbrev pub guard : Refusal → Bool → Result (Unit {0}) Refusal
guard e true = Ok tt
guard e false = Err e

-- ---- the name and the value of an item, with one space between them

-- a line split at a position, without the byte at that position; nothing if no position is given
abbrev pub parted_at : List ℕ → Option ℕ → Option (List ℕ × List ℕ)
parted_at line None = None
parted_at line (Some at) = Some (take at line, drop 1 (drop at line))

-- a line split at its first space; nothing if it has no space or is not UTF-8
unfoldable pub parted : List ℕ → Option (List ℕ × List ℕ)
parted line = if is_utf8 line then parted_at line (position (λ b. nat_eq b 32) line) else None

-- ---- values

-- the record that a line of field f with the number v adds; no bytes if v is 0 and the field is left out when it is 0 (`may_be_empty` is false)
abbrev pub number_record : NamedField → ℕ → Held
number_record f v = Record (if (v == 0) && not (may_be_empty f) then [] else set_number f.number v)

-- the record that a line of field f with this value adds; no bytes if the value is empty and the field is left out when it is empty (`may_be_empty` is false)
abbrev pub bytes_record : NamedField → List ℕ → Held
bytes_record f held = Record (if (length held == 0) && not (may_be_empty f) then [] else set_bytes f.number held)

-- the digest text of entry k; a refusal if k is not the number of an earlier entry
abbrev pub labelled : List (List ℕ) → ℕ → Result (List ℕ) Refusal
labelled labels k = or_else UnknownLabel (slice_get labels k)

-- the digest text of entry k, if the text is the label with the number k; else the string that the text spells between quotes
abbrev pub digest_or_string : List (List ℕ) → Option ℕ → List ℕ → Result (List ℕ) Refusal
digest_or_string labels (Some k) text = labelled labels k
digest_or_string labels None text = or_else (Breaks BadValue) (string_in text)

-- the string that a text spells as the value of a field with this name; only in a field `digest` may the text be a label
abbrev pub string_of : List (List ℕ) → List ℕ → List ℕ → Result (List ℕ) Refusal
string_of labels name text = digest_or_string labels (if is_text name (codes "digest") then label_in text else None) text

-- the record of a String field whose value is spelled as the label k; the record has the digest text of entry k
abbrev pub labelled_record : List (List ℕ) → NamedField → ℕ → Result Held Refusal
labelled_record labels f k = labelled labels k >>= λ s. Ok (bytes_record f s)

-- the record of a String field with the value that this text spells
abbrev pub string_record : List (List ℕ) → Row → List ℕ → Result Held Refusal
string_record labels row text = string_of labels row.0 text >>= λ s. Ok (bytes_record row.1 s)

-- the record of a Bytes field with the value that this text spells
abbrev pub spelled_record : NamedField → List ℕ → Result Held Refusal
spelled_record f text = or_else (Breaks BadValue) (option_map (bytes_record f) (bytes_spelled text))

-- the opening of a message in field f; a refusal if the text is not `{`
abbrev pub opening_in : NamedField → MessageName → List ℕ → Result Held Refusal
opening_in f m text = if is_text text (codes "{") then Ok (Opens f.number m) else Err (Breaks BadValue)

-- what the line of a field adds, if the text spells a value of this kind; else a refusal
abbrev pub held_by : List (List ℕ) → Row → FieldKind → List ℕ → Result Held Refusal
held_by labels row (kind.Message m) text = opening_in row.1 m text
held_by labels row kind.String text = string_record labels row text
held_by labels row kind.Bytes text = spelled_record row.1 text
held_by labels row kind.Int64 text = or_else (Breaks BadValue) (option_map (number_record row.1) (number_in kind.Int64 text))
held_by labels row kind.Int32 text = or_else (Breaks BadValue) (option_map (number_record row.1) (number_in kind.Int32 text))
held_by labels row kind.Uint32 text = or_else (Breaks BadValue) (option_map (number_record row.1) (number_in kind.Uint32 text))
held_by labels row kind.Enum text = or_else (Breaks BadValue) (option_map (number_record row.1) (number_in kind.Enum text))
held_by labels row kind.Bool text = or_else (Breaks BadValue) (option_map (number_record row.1) (number_in kind.Bool text))

-- what the line of a field adds, if the text spells a value of the kind that the table has for the field; else a refusal
unfoldable pub held_in : List (List ℕ) → Row → List ℕ → Result Held Refusal
held_in labels row text = held_by labels row row.1.kind text

-- ---- the context of a line: the message, its last field so far, how many times in succession that field has occurred, whether a member of the oneof is set

-- the context (`Here`: the message, and what came before the line in it) of the first line of a message
abbrev pub inside : MessageName → Here
inside m = record { message = m; last = 0; set = false; count = 0; ended = false }

-- the context of the next line (what came before it in its message, `Here`) after a line of field f
abbrev pub behind : Here → NamedField → Here
behind here f = record {
  message = here.message;
  last = f.number;
  set = here.set || f.member;
  count = if here.last == f.number then here.count + 1 else 1;
  ended = false;
}

-- the context (`Here`) of what follows the line of the extra bytes; no other item of the same message may come after this line
abbrev pub at_end : Here → Here
at_end here = record { message = here.message; last = here.last; set = here.set; count = here.count; ended = true }

-- whether one more value of field f is within the limit of repeated fields
abbrev pub has_room : Here → NamedField → Bool
has_room here f = not ((here.last == f.number) && nat_le field_limit here.count)

-- whether a line of field f may follow what came before in its message (`Here`)
abbrev pub follows : Here → NamedField → Bool
follows here f = not here.ended && may_follow here.last here.set f

-- ---- the tests of a line, in their order

-- the item of a line `extra`, whose bytes have to be records of fields that the table lacks for the message; or why the line is refused
abbrev pub extra_in : Here → List ℕ → Result Item Refusal
extra_in here text = do
  _ ← guard (Breaks Order) (not here.ended)
  bytes ← or_else (Breaks BadValue) (bytes_spelled text)
  _ ← guard (Breaks BadValue) (are_unnamed here.message bytes)
  Ok (record { next = at_end here; held = Record bytes })

-- the `Item` (what the line adds, and the context of the next line) of a line with this field name and this value; or why the line is refused
abbrev pub field_in : List (List ℕ) → Here → List ℕ × List ℕ → Result Item Refusal
field_in labels here p = do
  row ← or_else (Breaks UnknownField) (row_named here.message p.0)
  _ ← guard (Breaks Order) (follows here row.1)
  held ← held_in labels row p.1
  _ ← guard (Breaks OverLimit) (has_room here row.1)
  Ok (record { next = behind here row.1; held = held })

-- the `Item` of a line (what it adds, and the context of the next line), given what came before in its message (`Here`); or why the line is refused
unfoldable pub line_in : List (List ℕ) → Here → List ℕ → Result Item Refusal
line_in labels here line = do
  p ← or_else (Breaks Syntax) (parted line)
  if is_text p.0 (codes "extra") then extra_in here p.1 else field_in labels here p
