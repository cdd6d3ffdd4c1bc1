-- Which lines spell the items of a message, which lines spell the entries of a definition, and which line of a text is the first that is
-- refused. This file says nothing of the code that reads the lines.
use Rattle.std.specs.Prelude.{◌≡◌, ◌≢◌, ◌≤◌, ℕ, ◌+◌, ◌&&◌, ◌⊎◌, nat_lt, nat_le, Bool, if◌then◌else◌, List, [], ◌∷◌, ◌++◌, length, map, codes, Option}
use Rattle.std.specs.Prelude.{Some, None, Result, Ok, Err}
use Rattle.llb_wire.specs.CallResults.{◌>>=◌}
use Rattle.llb_wire.specs.Digest.{digest_text}
use Rattle.llb_wire.specs.Spelling.{varint_text, tag_text}
use Rattle.llb_wire.specs.declared.field.Wire.TheVariants as wire
use Rattle.llb_ops.specs.declared.fault.OpFault.{OpFault}
use Rattle.llb_ops.specs.declared.op.Op.{Op}
use Rattle.llb_ops.specs.declared.table.MessageName.{MessageName}
use Rattle.llb_ops.specs.declared.table.MessageName.TheVariants as named
use Rattle.llb_ops.specs.Limits.{definition_limit, entries_limit, entry_limit}
use Rattle.llb_ops.specs.Messages.{op_of}
use Rattle.llb_ops.specs.Writing.{set_bytes, op_bytes}
use Rattle.llb_ops.specs.Definition.{definition_bytes}
use Rattle.llb_asm.specs.declared.fault.AsmFault.{AsmFault}
use Rattle.llb_asm.specs.declared.fault.AsmFault.TheVariants as fault
use Rattle.llb_asm.specs.declared.fault.Rule.TheVariants.{Syntax, BadValue, OverLimit, Unclosed}
use Rattle.llb_asm.specs.declared.line.Refusal.{Refusal}
use Rattle.llb_asm.specs.declared.line.Refusal.TheVariants.{Breaks, UnknownLabel}
use Rattle.llb_asm.specs.declared.line.Here.{Here}
use Rattle.llb_asm.specs.declared.line.Held.{Held}
use Rattle.llb_asm.specs.declared.line.Held.TheVariants.{Record, Opens}
use Rattle.llb_asm.specs.declared.line.Item.{Item}
use Rattle.llb_asm.specs.declared.entry.Begun.{Begun}
use Rattle.llb_asm.specs.declared.entry.Begun.TheVariants.{Raw, Structured}
use Rattle.llb_asm.specs.FieldValueTexts.{bytes_spelled}
use Rattle.llb_wire.specs.TextComparison.{is_text}
use Rattle.llb_asm.specs.ItemLines.{Line, kept}
use Rattle.llb_asm.specs.EntryLine.{or_else, guard, parted, inside, line_in}

-- ---- limits

-- how many bytes the record of the LEN field `number` has if its payload has `size` bytes
abbrev pub record_length : ℕ → ℕ → ℕ
record_length number size = length (tag_text number wire.Len) + (length (varint_text size) + size)

-- whether, with one more entry of this length after the earlier ones, both the entry and the definition are within their limits of bytes
abbrev pub is_within : List (List ℕ) → ℕ → Bool
is_within earlier size = nat_le size entry_limit && nat_le (length (definition_bytes earlier) + record_length 1 size) definition_limit

-- ---- the current message

-- the current message: the context of its next line, its bytes so far, and `room`. `room n` says whether the entry is within the limits if this message has
-- n bytes when all messages are closed.
pub record Hand : Type 0 where
  pub here : Here
  pub bytes : List ℕ
  pub room : ℕ → Bool

-- how many bytes a line adds to its message; a line that opens a message counts as the record of an empty message
abbrev pub added : Held → ℕ
added (Record bytes) = length bytes
added (Opens number m) = record_length number 0

-- the item that a line adds to the current message, if the entry is within the limits with this item; else a refusal
abbrev pub item_at : List (List ℕ) → Hand → List ℕ → Result Item Refusal
item_at labels hand line = do
  i ← line_in labels hand.here line
  _ ← guard (Breaks OverLimit) (hand.room (length hand.bytes + added i.held))
  Ok i

-- the current message after these bytes are added to it; `next` is the context of its next line (what came before that line in the message, `Here`)
abbrev pub beyond : Hand → Here → List ℕ → Hand
beyond hand next bytes = record { here = next; bytes = hand.bytes ++ bytes; room = hand.room }

-- the new current message after a line opens a message in field `number` of the current one
abbrev pub within : Hand → ℕ → MessageName → Hand
within hand number sub = record { here = inside sub; bytes = []; room = λ size. hand.room (length hand.bytes + record_length number size) }

-- ---- the items of a message

-- Items with the lines that spell them: an item is a line with its record, or a message between an opening line and a closing one. The last item
-- may be a message that is not closed yet.
pub data Items : Type 0 where
  done : Items
  single : List ℕ → Here → List ℕ → Items → Items
  nested : List ℕ → Here → ℕ → MessageName → Items → Items → Items
  unclosed : List ℕ → Here → ℕ → MessageName → Items → Items

-- the line that closes a message or an op
abbrev pub closing : List ℕ
closing = codes "}"

-- the lines that spell items
abbrev pub lines_of : Items → List (List ℕ)
lines_of done = []
lines_of (single line next bytes rest) = line ∷ lines_of rest
lines_of (nested line next number sub inner rest) = line ∷ (lines_of inner ++ (closing ∷ lines_of rest))
lines_of (unclosed line next number sub inner) = line ∷ lines_of inner

-- the bytes of the records of items; a message that is not closed yet counts as if it were closed after its last item
abbrev pub records_of : Items → List ℕ
records_of done = []
records_of (single line next bytes rest) = bytes ++ records_of rest
records_of (nested line next number sub inner rest) = set_bytes number (records_of inner) ++ records_of rest
records_of (unclosed line next number sub inner) = set_bytes number (records_of inner)

-- no message is left open after these items; `AreItems` says the same of the items inside nested messages
abbrev pub IsWhole : Items → Type 0
IsWhole done = Unit {0}
IsWhole (single line next bytes rest) = IsWhole rest
IsWhole (nested line next number sub inner rest) = IsWhole rest
IsWhole (unclosed line next number sub inner) = ⊥

-- the item of a line: what the line adds (`held`), and the context (`Here`: what came before) of the next line of the same message (`next`)
abbrev pub item : Here → Held → Item
item next held = record { next = next; held = held }

-- each line of these items is read as the item that is given beside it; a line is read in the message that is current there, the first one in `hand`
abbrev pub AreItems : List (List ℕ) → Hand → Items → Type 0
AreItems labels hand done = Unit {0}
AreItems labels hand (single line next bytes rest) = (item_at labels hand line ≡ Ok (item next (Record bytes))) × AreItems labels (beyond hand next bytes) rest
AreItems labels hand (nested line next number sub inner rest) =
    (item_at labels hand line ≡ Ok (item next (Opens number sub))) × AreItems labels (within hand number sub) inner × IsWhole inner
    × AreItems labels (beyond hand next (set_bytes number (records_of inner))) rest
AreItems labels hand (unclosed line next number sub inner) = (item_at labels hand line ≡ Ok (item next (Opens number sub)))
    × AreItems labels (within hand number sub) inner

-- the current message after these items: the innermost message that they leave open or, if they leave none open, `hand` with the items' bytes added
abbrev pub at_hand : Hand → Items → Hand
at_hand hand done = hand
at_hand hand (single line next bytes rest) = at_hand (beyond hand next bytes) rest
at_hand hand (nested line next number sub inner rest) = at_hand (beyond hand next (set_bytes number (records_of inner))) rest
at_hand hand (unclosed line next number sub inner) = at_hand (within hand number sub) inner

-- ---- the entries of a text

-- what a line begins: a raw entry with its bytes, or an op; or why the line begins no entry
abbrev pub begun_by : List ℕ → Option (List ℕ × List ℕ) → Result Begun Refusal
begun_by line None = Err (Breaks Syntax)
begun_by line (Some p) =
    if is_text line (codes "op {") then Ok Structured
    else if is_text p.0 (codes "raw") then (or_else (Breaks BadValue) (bytes_spelled p.1) >>= λ bytes. Ok (Raw bytes))
    else Err (Breaks Syntax)

-- how many bytes an entry has after its first line: all bytes of a raw entry, and none of an op
abbrev pub begun_size : Begun → ℕ
begun_size (Raw bytes) = length bytes
begun_size Structured = 0

-- what a line begins (a raw entry or an op); a refusal if it begins no entry, or if the earlier entries and this one together exceed a definition's limits
unfoldable pub begun_in : List (List ℕ) → List ℕ → Result Begun Refusal
begun_in earlier line = do
  b ← begun_by line (parted line)
  _ ← guard (Breaks OverLimit) (nat_lt (length earlier) entries_limit && is_within earlier (begun_size b))
  Ok b

-- the canonical bytes of the op, if one was read
abbrev pub canonical_of : Result Op OpFault → Option (List ℕ)
canonical_of (Err f) = None
canonical_of (Ok op) = Some (op_bytes op)

-- the canonical bytes of an op, if an op was read and an entry of these bytes is within the limits; else a refusal
abbrev pub canonical_in : List (List ℕ) → Option (List ℕ) → Result (List ℕ) Refusal
canonical_in earlier None = Err (Breaks OverLimit)
canonical_in earlier (Some entry) = if is_within earlier (length entry) then Ok entry else Err (Breaks OverLimit)

-- the canonical bytes of the op that these records are read as, if the entry is within the limits; else a refusal
unfoldable pub entry_in : List (List ℕ) → List ℕ → Result (List ℕ) Refusal
entry_in earlier records = canonical_in earlier (canonical_of (op_of records))

-- the digest texts of these entries; label k names the entry at position k
abbrev pub labels_of : List (List ℕ) → List (List ℕ)
labels_of earlier = map digest_text earlier

-- what the code keeps with the entries: their digest texts, and how many bytes a definition of these entries has, at most `definition_limit`
pub record IsKept (entries labels : List (List ℕ)) (size : ℕ) : Type 0 where
  pub digests : labels ≡ labels_of entries
  pub bytes : size ≡ length (definition_bytes entries)
  pub small : size ≤ definition_limit

-- the current message at the start of an op, after the earlier entries
abbrev pub outermost : List (List ℕ) → Hand
outermost earlier = record { here = inside named.Op; bytes = []; room = is_within earlier }

-- entries with the lines that spell them: an entry is a `raw` line, or an op between an opening line and a closing one; the last one may be an op that is not
-- closed yet
pub data Entries : Type 0 where
  none : Entries
  raw : List ℕ → List ℕ → Entries → Entries
  op : List ℕ → Items → List ℕ → Entries → Entries
  open_op : List ℕ → Items → Entries

-- the lines that spell entries
abbrev pub text_of : Entries → List (List ℕ)
text_of none = []
text_of (raw line bytes rest) = line ∷ text_of rest
text_of (op line items entry rest) = line ∷ (lines_of items ++ (closing ∷ text_of rest))
text_of (open_op line items) = line ∷ lines_of items

-- the bytes of each entry, in order; an op whose closing line is missing has no bytes here
abbrev pub entries_of : Entries → List (List ℕ)
entries_of none = []
entries_of (raw line bytes rest) = bytes ∷ entries_of rest
entries_of (op line items entry rest) = entry ∷ entries_of rest
entries_of (open_op line items) = []

-- no op is left open
abbrev pub AreClosed : Entries → Type 0
AreClosed none = Unit {0}
AreClosed (raw line bytes rest) = AreClosed rest
AreClosed (op line items entry rest) = AreClosed rest
AreClosed (open_op line items) = ⊥

-- the lines of each entry are read as this entry, given the entries before it; the last entry may be an op without its closing line, and then is only begun
abbrev pub AreEntries : List (List ℕ) → Entries → Type 0
AreEntries earlier none = Unit {0}
AreEntries earlier (raw line bytes rest) = (begun_in earlier line ≡ Ok (Raw bytes)) × AreEntries (earlier ++ bytes ∷ []) rest
AreEntries earlier (op line items entry rest) =
    (begun_in earlier line ≡ Ok Structured) × AreItems (labels_of earlier) (outermost earlier) items × IsWhole items
    × (entry_in earlier (records_of items) ≡ Ok entry) × AreEntries (earlier ++ entry ∷ []) rest
AreEntries earlier (open_op line items) = (begun_in earlier line ≡ Ok Structured) × AreItems (labels_of earlier) (outermost earlier) items

-- The lines are read as these entries, and no op is left open.
pub record SpellsEntries (lines : List Line) (entries : List (List ℕ)) : Type 0 where
  pub parts : Entries
  pub are : AreEntries [] parts
  pub closed : AreClosed parts
  pub text : map (λ l. l.1) lines ≡ text_of parts
  pub same : entries ≡ entries_of parts

-- ---- the first line that is refused

-- A line in an op that is not closed is refused with e: the line closes the op, and the op's entry is refused; or the line's item is refused.
abbrev pub IsRefusedIn : List (List ℕ) → Items → List ℕ → Refusal → Type 0
IsRefusedIn earlier items line e =
    ((line ≡ closing) × IsWhole items × (entry_in earlier (records_of items) ≡ Err e))
    ⊎ ((line ≢ closing) × (item_at (labels_of earlier) (at_hand (outermost earlier) items) line ≡ Err e))

-- A line after these entries is refused with e; the last entry may be an op that is not closed.
abbrev pub IsRefused : List (List ℕ) → Entries → List ℕ → Refusal → Type 0
IsRefused earlier none line e = begun_in earlier line ≡ Err e
IsRefused earlier (raw l bytes rest) line e = IsRefused (earlier ++ bytes ∷ []) rest line e
IsRefused earlier (op l items entry rest) line e = IsRefused (earlier ++ entry ∷ []) rest line e
IsRefused earlier (open_op l items) line e = IsRefusedIn earlier items line e

-- line n is refused with e, and the lines before it are read as entries
pub record StopsAt (lines : List Line) (n : ℕ) (e : Refusal) : Type 0 where
  pub before : List Line
  pub line : List ℕ
  pub after : List Line
  pub split : lines ≡ before ++ (n, line) ∷ after
  pub parts : Entries
  pub are : AreEntries [] parts
  pub text : map (λ l. l.1) before ≡ text_of parts
  pub refused : IsRefused [] parts line e

-- All lines are read as entries, the last of which is an op that is not closed; n is the number of the last line.
pub record EndsOpen (lines : List Line) (n : ℕ) : Type 0 where
  pub before : List Line
  pub line : List ℕ
  pub split : lines ≡ before ++ (n, line) ∷ []
  pub parts : Entries
  pub are : AreEntries [] parts
  pub text : map (λ l. l.1) lines ≡ text_of parts
  pub not_closed : ¬ AreClosed parts

-- Line n is the first line that is refused, with e; or the lines end in an op that is not closed: then n is the last line's number, and e is `Unclosed`.
abbrev pub FaultAt : List Line → ℕ → Refusal → Type 0
FaultAt lines n e = StopsAt lines n e ⊎ (EndsOpen lines n × (e ≡ Breaks Unclosed))

-- what assembling a text returns: the entries, or the first fault of the text (`FaultAt`), or the fault for refused memory
abbrev pub Assembles : List ℕ → Result (List (List ℕ)) AsmFault → Type 0
Assembles text (Ok entries) = SpellsEntries (kept text) entries
Assembles text (Err (fault.Line n rule)) = FaultAt (kept text) n (Breaks rule)
Assembles text (Err (fault.UnknownLabel n)) = FaultAt (kept text) n UnknownLabel
Assembles text (Err fault.Memory) = Unit {0}
Assembles text (Err fault.Write) = ⊥

-- a refusal with the number of its line
abbrev pub at_line : ℕ → Refusal → ℕ × Refusal
at_line n e = (n, e)

-- A text is read as at most one list of entries, and has at most one first fault; a text that is read as a list has no fault.
pub record HasOneAnswer (text : List ℕ) : Type 0 where
  pub entries : (a b : List (List ℕ)) → SpellsEntries (kept text) a → SpellsEntries (kept text) b → a ≡ b
  pub apart : (a : List (List ℕ)) (n : ℕ) (e : Refusal) → SpellsEntries (kept text) a → ¬ FaultAt (kept text) n e
  pub faults : (n : ℕ) (d : Refusal) (m : ℕ) (e : Refusal) → FaultAt (kept text) n d → FaultAt (kept text) m e → at_line n d ≡ at_line m e
