-- The record at the start of a message's canonical bytes: that of a named field, or an extra one.
use Rattle.std.proofs.Common.{◌≡◌, refl, sym, ap, subst, ◌∙◌, ℕ, ◌+◌, ◌-◌, ◌*◌, ◌<◌, ◌≤◌, ◌^◌, Bool, true, false, cond, List, [], ◌∷◌, ◌++◌, length, take, drop}
use Rattle.std.proofs.Common.{Some, None, Result, Ok, Err, arith, length-append, map}
use Rattle.std.specs.Prelude.{◌==◌, ◌&&◌, nat_lt, nat_le, is_none, find, option_map}
use Rattle.std.specs.List.{AllByRecursion, list_all}
use Rattle.std.proofs.lemmas.Bool.{and_parts, ltb-true, leb-true}
use Rattle.std.proofs.lemmas.List.{drop_at}
use Rattle.llb_wire.specs.CallResults.{◌>>=◌}
use Rattle.llb_wire.proofs.RuleComposition.{bind_ok}
use Rattle.llb_wire.specs.declared.fault.WireFault.{WireFault}
use Rattle.llb_wire.specs.declared.field.Wire.TheVariants as wire
use Rattle.llb_wire.specs.declared.field.Field.{Field}
use Rattle.llb_wire.specs.Spelling.{Spells, IsFieldNumber, code_of, record_text, tag_text, varint_text}
use Rattle.llb_wire.specs.Reading.{next_field, field_at}
use Rattle.llb_wire.specs.Records.{Record, IsRecord, record_of, placed, written_record}
use Rattle.llb_wire.proofs.SpelledRecords.{record_read, record_kept, written_is_record}
use Rattle.llb_ops.specs.declared.fault.OpFault.{OpFault}
use Rattle.llb_ops.specs.declared.fault.OpFault.TheVariants.{WrongWireType, NotUtf8}
use Rattle.llb_ops.specs.declared.payloads_and_limits.Form.{Form}
use Rattle.llb_ops.specs.declared.table.MessageName.{MessageName}
use Rattle.llb_ops.specs.declared.table.MessageName.TheVariants as message
use Rattle.llb_ops.specs.Table.{Row, rows_of, by_number, row_numbered, form_of_kind, shape_of}
use Rattle.llb_ops.specs.Records.{form_of, wire_fits, from_wire, first_record, records_from, texts_fit, parts}
use Rattle.llb_ops.specs.CanonicalFields.{AreUnnamed}
use Rattle.llb_ops.specs.Writing.{set_number, set_bytes}
use Rattle.llb_asm.specs.declared.print.Front.{Front}
use Rattle.llb_asm.specs.PrintedPrefix.{Finds, found}

-- ---- a record that is at the start is found there

some_bytes : (bytes : List ℕ) (n : ℕ) → Spells bytes n → 0 < length bytes
some_bytes [] n h = absurd h
some_bytes (b ∷ bytes) n h = omega arith

some_text : (r : Record) → IsRecord r → 0 < length r.text
some_text r h = omega (arith, ap length h.text, length-append h.tag h.behind, some_bytes h.tag (8 * r.number + code_of r.wire) h.tagged.spells)

field_is : (f g : Field) → found f ≡ found g → f ≡ g
field_is f g e = cc

pub next_is : (r : Record) (rest : List ℕ) → IsRecord r → next_field (r.text ++ rest) 0 ≡ found (placed 0 r)
unfolding next_field
next_is r rest h = go (0 == length (r.text ++ rest)) refl
  where
    go : (b : Bool) → (0 == length (r.text ++ rest)) ≡ b → cond b (Ok None) (field_at (r.text ++ rest) 0 >>= λ f. Ok (Some f)) ≡ found (placed 0 r)
    go false e = rw (record_read r rest h) refl
    go true e = absurd (let some = some_text r h in let count = length-append r.text rest in grind arith)

-- what is found where a record is
pub record Holds (front : Front) (r : Record) (rest : List ℕ) : Type 0 where
  pub number : front.number ≡ r.number
  pub value : front.value ≡ r.value
  pub payload : front.payload.now ≡ r.payload
  pub after : front.after.now ≡ rest

-- what is found where a record is at the start has its number, value and payload, and the bytes after it are left
pub front_holds : (bytes : List ℕ) (front : Front) (r : Record) (rest : List ℕ) → Finds bytes (Some front) → IsRecord r → bytes ≡ r.text ++ rest
    → Holds front r rest
front_holds bytes front r rest (f, next, number, value, payload, after) h split =
    let is : f ≡ placed 0 r = field_is f (placed 0 r) (sym next ∙ ap (λ x. next_field x 0) split ∙ next_is r rest h) in
    let kept : drop (placed 0 r).start (take (placed 0 r).«end» (r.text ++ rest)) ≡ r.payload = ap (λ (x : Record). x.payload) (record_kept r rest h) in
    record {
      number = number ∙ ap (λ (g : Field). g.number) is;
      value = value ∙ ap (λ (g : Field). g.value) is;
      payload = payload ∙ ap (λ (g : Field). drop g.start (take g.«end» bytes)) is ∙ ap (λ x. drop (placed 0 r).start (take (placed 0 r).«end» x)) split ∙ kept;
      after = after ∙ ap (λ (g : Field). drop g.«end» bytes) is ∙ ap (λ x. drop (placed 0 r).«end» x) split
          ∙ drop_at r.text rest (placed 0 r).«end» (let c : length r.text ≡ 0 + length r.text = omega arith in c);
    }

-- where nothing is found at the start, no record is there
pub front_there : (bytes : List ℕ) (r : Record) (rest : List ℕ) → Finds bytes None → IsRecord r → bytes ≡ r.text ++ rest → ⊥
front_there bytes r rest none h split = none (placed 0 r) (ap (λ x. next_field x 0) split ∙ next_is r rest h)

-- ---- the records of named fields

abbrev in_range : List Row → Bool
in_range rows = list_all (λ r. nat_lt 0 r.1.number && nat_le r.1.number 536_870_911) rows

table_in_range : (m : MessageName) → in_range (rows_of m) ≡ true
table_in_range message.Definition = refl
table_in_range message.Op = refl
table_in_range message.Input = refl
table_in_range message.SourceOp = refl
table_in_range message.AttributeEntry = refl
table_in_range message.FileOp = refl
table_in_range message.FileAction = refl
table_in_range message.FileActionCopy = refl
table_in_range message.FileActionMkFile = refl
table_in_range message.FileActionMkDir = refl
table_in_range message.FileActionRm = refl
table_in_range message.ChownOpt = refl
table_in_range message.UserOpt = refl
table_in_range message.ExecOp = refl
table_in_range message.Meta = refl
table_in_range message.Mount = refl
table_in_range message.TmpfsOpt = refl
table_in_range message.CacheOpt = refl
table_in_range message.MergeOp = refl
table_in_range message.MergeInput = refl

row_in_range : (rows : List Row) (n : ℕ) (row : Row) → in_range rows ≡ true → by_number n rows ≡ Some row → IsFieldNumber row.1.number
row_in_range [] n row all e = absurd cc
row_in_range (r ∷ rows) n row all e = go (λ good later. row_in_range rows n row good later) (r.1.number == n) e
  where
    both : (nat_lt 0 r.1.number && nat_le r.1.number 536_870_911 ≡ true) × (in_range rows ≡ true)
    both = and_parts (nat_lt 0 r.1.number && nat_le r.1.number 536_870_911) (in_range rows) all

    go : (in_range rows ≡ true → by_number n rows ≡ Some row → IsFieldNumber row.1.number) → (b : Bool) → cond b (Some r) (by_number n rows) ≡ Some row
        → IsFieldNumber row.1.number
    go again true same =
        let is : r ≡ row = cc in
        let range = and_parts (nat_lt 0 r.1.number) (nat_le r.1.number 536_870_911) both.0 in
        let some = ltb-true 0 r.1.number range.0 in
        subst (λ (x : Row). IsFieldNumber x.1.number) is ((let g : 1 ≤ r.1.number = omega (arith, some) in g), leb-true r.1.number 536_870_911 range.1)
    go again false later = again both.1 later

-- the number of a row of the table is one that a field may have
pub named_number : (m : MessageName) (row : Row) → by_number row.1.number (rows_of m) ≡ Some row → IsFieldNumber row.1.number
named_number m row e = row_in_range (rows_of m) row.1.number row (table_in_range m) e

abbrev pub number_record : ℕ → ℕ → Record
number_record n v = written_record n wire.Varint v []

abbrev pub bytes_record : ℕ → List ℕ → Record
bytes_record n held = written_record n wire.Len 0 held

-- what a number of 64 bits is written as is a record by the grammar
pub number_is_record : (n v : ℕ) → IsFieldNumber n → v < 2 ^ 64 → IsRecord (number_record n v)
number_is_record n v named small = written_is_record n wire.Varint v [] named small (omega arith) (λ x. absurd cc)

-- what bytes are written as, where they are not too many, is a record by the grammar
pub bytes_is_record : (n : ℕ) (held : List ℕ) → IsFieldNumber n → length held < 2 ^ 64 → IsRecord (bytes_record n held)
bytes_is_record n held named small = written_is_record n wire.Len 0 held named (omega arith) small (λ x. absurd cc)

-- a number in a field, whatever follows it, begins with the bytes of its record
pub number_split : (n v : ℕ) (rest : List ℕ) → set_number n v ++ rest ≡ (number_record n v).text ++ rest
unfolding set_number
number_split n v rest = refl

-- bytes in a field, whatever follows them, begin with the bytes of their record
pub bytes_split : (n : ℕ) (held rest : List ℕ) → set_bytes n held ++ rest ≡ (bytes_record n held).text ++ rest
unfolding set_bytes
bytes_split n held rest = refl

-- a record is no shorter than its payload
pub payload_fits : (n : ℕ) (held rest : List ℕ) → length held ≤ length ((bytes_record n held).text ++ rest)
payload_fits n held rest =
    omega (
      arith,
      length-append (record_text n wire.Len 0 held) rest,
      length-append (tag_text n wire.Len) (varint_text (length held) ++ held),
      length-append (varint_text (length held)) held,
    )

-- ---- the records of fields that the message doesn't name

-- the record at the start is of none
pub record Unnamed (m : MessageName) (bytes : List ℕ) : Type 0 where
  pub field : Field
  pub next : next_field bytes 0 ≡ found field
  pub none : row_numbered m field.number ≡ None

abbrev named_form : ℕ × Form → Form
named_form n = n.1

rows_named : (rows : List Row) (n : ℕ) → is_none (form_of (map (λ r. (r.1.number, form_of_kind r.1.kind)) rows) n) ≡ true → by_number n rows ≡ None
rows_named [] n e = refl
rows_named (r ∷ rows) n e = go (λ k. rows_named rows n k) (r.1.number == n) e
  where
    go : (is_none (form_of (map (λ r. (r.1.number, form_of_kind r.1.kind)) rows) n) ≡ true → by_number n rows ≡ None) → (b : Bool)
        → is_none (option_map named_form (cond b (Some (r.1.number, form_of_kind r.1.kind))
        (find (λ x. x.0 == n) (map (λ r. (r.1.number, form_of_kind r.1.kind)) rows)))) ≡ true
        → cond b (Some r) (by_number n rows) ≡ None
    go again true e = absurd cc
    go again false e = again e

next_of : (b : ℕ) (bytes : List ℕ) (f : Field) → field_at (b ∷ bytes) 0 ≡ Ok f → next_field (b ∷ bytes) 0 ≡ found f
unfolding next_field
next_of b bytes f e = go (0 == length (b ∷ bytes)) refl
  where
    go : (t : Bool) → (0 == length (b ∷ bytes)) ≡ t → cond t (Ok None) (field_at (b ∷ bytes) 0 >>= λ f. Ok (Some f)) ≡ found f
    go false end = rw e refl
    go true end = absurd (grind arith)

wire_ok : {A : Type 0} (r : Result A WireFault) (x : A) → from_wire r ≡ Ok x → r ≡ Ok x
wire_ok (Ok y) x e = let is : y ≡ x = cc in ap (λ z. Ok z) is
wire_ok (Err f) x e = absurd cc

kept_if : {A : Type 0} (b : Bool) (x y : A) (e : OpFault) → cond b (Ok x) (Err e) ≡ Ok y → x ≡ y
kept_if true x y e same = cc
kept_if false x y e same = absurd cc

-- the records of a message begin with the one that is read first
record Begins (m : MessageName) (bytes : List ℕ) (records : List Record) : Type 0 where
  field : Field
  more : List Record
  read : field_at bytes 0 ≡ Ok field
  are : records ≡ record_of bytes field ∷ more

module _ (m : MessageName) (b : ℕ) (bytes : List ℕ) where
  first_ok : (f : Field) → first_record (shape_of m) (b ∷ bytes) ≡ Ok f → field_at (b ∷ bytes) 0 ≡ Ok f
  first_ok f e =
      let fits = λ (f : Field). cond (wire_fits (form_of (shape_of m) f.number) f.wire) (Ok f) (Err WrongWireType) in
      let (g, is, kept) = bind_ok (from_wire (field_at (b ∷ bytes) 0)) fits f e in
      wire_ok (field_at (b ∷ bytes) 0) g is ∙ ap (λ x. Ok x) (kept_if (wire_fits (form_of (shape_of m) g.number) g.wire) g f WrongWireType kept)

  records_ok : (records : List Record) → records_from (shape_of m) 0 (b ∷ bytes) ≡ Ok records → Begins m (b ∷ bytes) records
  unfolding records_from
  records_ok records e =
      let behind = λ (f : Field) (rs : List Record). let x : Result (List Record) OpFault = Ok (record_of (b ∷ bytes) f ∷ rs) in x in
      let (f, first, then) = bind_ok (first_record (shape_of m) (b ∷ bytes)) (λ f. records_from (shape_of m) (f.«end» - 1) bytes >>= behind f) records e in
      let (rs, later, last) = bind_ok (records_from (shape_of m) (f.«end» - 1) bytes) (behind f) records then in
      record { field = f; more = rs; read = first_ok f first; are = cc }

  parts_ok : (records : List Record) → parts (shape_of m) (b ∷ bytes) ≡ Ok records → Begins m (b ∷ bytes) records
  unfolding parts
  parts_ok records e =
      let texts = λ (rs : List Record). cond (texts_fit (shape_of m) rs) (Ok rs) (Err NotUtf8) in
      let (rs, is, kept) = bind_ok (records_from (shape_of m) 0 (b ∷ bytes)) texts records e in
      records_ok records (is ∙ ap (λ x. Ok x) (kept_if (texts_fit (shape_of m) rs) rs records NotUtf8 kept))

  -- bytes of fields that the message doesn't name begin with the record of such a field
  pub unnamed_first : AreUnnamed m (b ∷ bytes) → Unnamed m (b ∷ bytes)
  unfolding row_numbered
  unnamed_first h =
      let x = parts_ok h.records h.read in
      let all : AllByRecursion (λ r. is_none (form_of (shape_of m) r.number) ≡ true) (record_of (b ∷ bytes) x.field ∷ x.more) = subst
      (λ rs. AllByRecursion (λ r. is_none (form_of (shape_of m) r.number) ≡ true) rs) x.are h.unnamed in
      record { field = x.field; next = next_of b bytes x.field x.read; none = rows_named (rows_of m) x.field.number all.0 }

-- nothing is found at the end
pub next_nothing : (all : List ℕ) (front : Front) → all ≡ [] → Finds all (Some front) → ⊥
unfolding next_field
next_nothing all front is (f, next, number, value, payload, after) = let e : next_field all 0 ≡ next_field [] 0 = ap (λ x. next_field x 0) is in cc

-- the number that is found at the start is that of the record which is read there
pub unnamed_number : (all : List ℕ) (front : Front) (g : Field) → Finds all (Some front) → next_field all 0 ≡ found g → front.number ≡ g.number
unnamed_number all front g (f, next, number, value, payload, after) e = number ∙ ap (λ (h : Field). h.number) (field_is f g (sym next ∙ e))
