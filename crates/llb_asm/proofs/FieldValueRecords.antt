-- What is written for the value of a field is taken as its record.
use Rattle.std.proofs.Common.{◌≡◌, ℕ, ◌^◌, ◌<◌, Bool, true, false, List, [], length, get_or, codes, Option, Some, None, Ok, refl, sym, ap, ◌∙◌, arith}
use Rattle.std.specs.Prelude.{slice_get, if◌then◌else◌, not, ◌==◌, ◌&&◌, ◌||◌}
use Rattle.std.specs.Str.{is_utf8}
use Rattle.std.proofs.lemmas.List.Quantifiers.{position-Some}
use Rattle.std.proofs.lemmas.Option.{slice_get-get_or}
use Rattle.llb_wire.specs.CallResults.{◌>>=◌}
use Rattle.llb_wire.specs.Hashing.{same_text}
use Rattle.llb_wire.specs.Spelling.{AreBytes}
use Rattle.llb_ops.specs.declared.table.MessageName.{MessageName}
use Rattle.llb_ops.specs.declared.table.FieldKind.{FieldKind}
use Rattle.llb_ops.specs.declared.table.FieldKind.TheVariants.{Int64, Int32, Uint32, Enum, Bool as Flag, String, Bytes, Message}
use Rattle.llb_ops.specs.Table.{Row}
use Rattle.llb_ops.specs.Writing.{set_number, set_bytes}
use Rattle.llb_ops.specs.CanonicalFields.{may_be_empty, IsNumberOf, IsBytesOf}
use Rattle.llb_asm.specs.declared.fault.Rule.TheVariants.{BadValue}
use Rattle.llb_asm.specs.declared.line.Refusal.TheVariants.{Breaks}
use Rattle.llb_asm.specs.declared.line.Held.TheVariants.{Record, Opens}
use Rattle.llb_asm.specs.FieldValueTexts.{number_text, string_text, label_in}
use Rattle.llb_wire.specs.TextComparison.{is_text}
use Rattle.llb_asm.specs.EntryLine.{or_else, number_record, bytes_record, digest_or_string, string_of, held_by, held_in}
use Rattle.llb_asm.specs.DisassembledText.{label_for, labelled_text, string_for, held_text, opening}
use Rattle.llb_asm.proofs.ValueRoundTrip.{number_back, string_back, bytes_back, label_back, string_no_label}
use Rattle.llb_asm.proofs.OneLineValues.{number_solid, string_solid, bytes_solid, label_solid}

-- ---- strings, and labels for some of them

module _ (labels : List (List ℕ)) (small : length labels < 2 ^ 64) where
  -- the label that is written is that of the string
  label_names : (string : List ℕ) (k : ℕ) → label_for labels string ≡ Some k → (k < 2 ^ 64) × (slice_get labels k ≡ Some string)
  label_names string k e =
      let at = position-Some (is_text string) labels k [] e in
      let same = same_text string (get_or labels k []) at.1 in
      (omega (arith, at.0), slice_get-get_or labels k [] at.0 ∙ ap (λ s. Some s) (sym same))

  labelled_back : (string : List ℕ) (o : Option ℕ) → label_for labels string ≡ o
      → digest_or_string labels (label_in (labelled_text string o)) (labelled_text string o) ≡ Ok string
  labelled_back string None e =
      ap (λ k. digest_or_string labels k (string_text string)) (string_no_label string) ∙ ap (or_else (Breaks BadValue)) (string_back string)
  labelled_back string (Some k) e =
      let is = label_names string k e in
      rw (label_back k is.0, is.1) refl

  string_said : (name string : List ℕ) → string_of labels name (string_for labels name string) ≡ Ok string
  string_said name string = go (is_text name (codes "digest"))
    where
      go : (b : Bool)
          → digest_or_string labels (if b then label_in (labelled_text string (if b then label_for labels string else None)) else None)
          (labelled_text string (if b then label_for labels string else None))
          ≡ Ok string
      go true = labelled_back string (label_for labels string) refl
      go false = ap (or_else (Breaks BadValue)) (string_back string)

  labelled_utf8 : (string : List ℕ) → is_utf8 string ≡ true → (o : Option ℕ) → label_for labels string ≡ o → is_utf8 (labelled_text string o) ≡ true
  labelled_utf8 string utf8 None e = (string_solid string utf8).utf8
  labelled_utf8 string utf8 (Some k) e = (label_solid k (label_names string k e).0).utf8

  string_utf8 : (name string : List ℕ) → is_utf8 string ≡ true → is_utf8 (string_for labels name string) ≡ true
  string_utf8 name string utf8 = go (is_text name (codes "digest"))
    where
      go : (b : Bool) → is_utf8 (labelled_text string (if b then label_for labels string else None)) ≡ true
      go true = labelled_utf8 string utf8 (label_for labels string) refl
      go false = (string_solid string utf8).utf8

  -- ---- bytes

  -- the text of a string or of bytes is read back as the record of what is held
  pub bytes_said : (row : Row) (kind : FieldKind) (held : List ℕ) → IsBytesOf kind held → AreBytes held
      → held_by labels row kind (held_text kind labels row.0 held) ≡ Ok (bytes_record row.1 held)
  bytes_said row String held is bytes = ap (λ r. r >>= λ s. Ok (bytes_record row.1 s)) (string_said row.0 held)
  bytes_said row Bytes held is bytes = rw (bytes_back held bytes) refl
  bytes_said row Int64 held is bytes = absurd is
  bytes_said row Int32 held is bytes = absurd is
  bytes_said row Uint32 held is bytes = absurd is
  bytes_said row Enum held is bytes = absurd is
  bytes_said row Flag held is bytes = absurd is
  bytes_said row (Message m) held is bytes = absurd is

  -- and that text is UTF-8, also where the bytes themselves are not
  pub bytes_utf8 : (row : Row) (kind : FieldKind) (held : List ℕ) → IsBytesOf kind held → AreBytes held
      → is_utf8 (held_text kind labels row.0 held) ≡ true
  bytes_utf8 row String held is bytes = string_utf8 row.0 held is
  bytes_utf8 row Bytes held is bytes = (bytes_solid held bytes).utf8
  bytes_utf8 row Int64 held is bytes = absurd is
  bytes_utf8 row Int32 held is bytes = absurd is
  bytes_utf8 row Uint32 held is bytes = absurd is
  bytes_utf8 row Enum held is bytes = absurd is
  bytes_utf8 row Flag held is bytes = absurd is
  bytes_utf8 row (Message m) held is bytes = absurd is

-- ---- numbers

-- the text of a number is taken as the number's record
pub number_said : (labels : List (List ℕ)) (row : Row) (kind : FieldKind) (v : ℕ) → IsNumberOf kind v
    → held_by labels row kind (number_text kind v) ≡ Ok (number_record row.1 v)
number_said labels row Int64 v is = rw (number_back Int64 v is) refl
number_said labels row Int32 v is = rw (number_back Int32 v is) refl
number_said labels row Uint32 v is = rw (number_back Uint32 v is) refl
number_said labels row Enum v is = rw (number_back Enum v is) refl
number_said labels row Flag v is = rw (number_back Flag v is) refl
number_said labels row String v is = absurd is
number_said labels row Bytes v is = absurd is
number_said labels row (Message m) v is = absurd is

-- the text of a number is UTF-8
pub number_utf8 : (kind : FieldKind) (v : ℕ) → IsNumberOf kind v → is_utf8 (number_text kind v) ≡ true
number_utf8 kind v is = (number_solid kind v is).utf8

-- ---- messages

-- a brace in a field for a message opens that message
pub opening_said : (labels : List (List ℕ)) (row : Row) (m : MessageName) → row.1.kind ≡ Message m
    → held_in labels row opening ≡ Ok (Opens row.1.number m)
unfolding held_in
opening_said labels row m is = ap (λ k. held_by labels row k opening) is

-- ---- a record is left out only where its value is 0 or empty and may not be so

left_in : (none may : Bool) (record_of_it : List ℕ) → not none || may ≡ true → (if none && not may then [] else record_of_it) ≡ record_of_it
left_in true true r e = refl
left_in true false r e = absurd cc
left_in false may r e = refl

-- a number that is not 0, or may be written as 0, adds its record and is not left out
pub number_left_in : (row : Row) (v : ℕ) → not (v == 0) || may_be_empty row.1 ≡ true → number_record row.1 v ≡ Record (set_number row.1.number v)
number_left_in row v e = ap (λ b. Record b) (left_in (v == 0) (may_be_empty row.1) (set_number row.1.number v) e)

-- bytes that are not empty, or may be written empty, add their record and are not left out
pub bytes_left_in : (row : Row) (held : List ℕ) → not (length held == 0) || may_be_empty row.1 ≡ true
    → bytes_record row.1 held ≡ Record (set_bytes row.1.number held)
bytes_left_in row held e = ap (λ b. Record b) (left_in (length held == 0) (may_be_empty row.1) (set_bytes row.1.number held) e)
