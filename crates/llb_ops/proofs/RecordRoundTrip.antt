-- What is written is read again.
use Rattle.std.proofs.Common.{◌≡◌, ℕ, ◌+◌, ◌-◌, ◌*◌, ◌^◌, ◌≤◌, ◌<◌, true, List, [], ◌∷◌, ◌++◌, length, drop, Ok, refl, sym, ap, subst, ◌∙◌, arith}
use Rattle.std.specs.List.{AllByRecursion, flat_map}
use Rattle.std.proofs.lemmas.List.{drop_at, length-append}
use Rattle.llb_wire.specs.declared.field.Wire.TheVariants as wire
use Rattle.llb_wire.specs.declared.field.Field.{Field}
use Rattle.llb_wire.specs.CallResults.{◌>>=◌}
use Rattle.llb_wire.specs.Reading.{field_at}
use Rattle.llb_wire.specs.Spelling.{code_of, Spells, varint_text, record_text}
use Rattle.llb_wire.specs.Records.{Record, record_of, placed, IsRecord}
use Rattle.llb_wire.proofs.SpelledRecords.{record_read, record_kept, written_is_record}
use Rattle.llb_ops.specs.Records.{Shape, form_of, wire_fits, records_from}
use Rattle.llb_ops.proofs.RecordSplittingLoop.{parts_skip, drop_pred}

-- the records of a number and of bytes, in their shortest spelling
abbrev pub number_part : ℕ → ℕ → Record
number_part n v = record { number = n; wire = wire.Varint; value = v; payload = varint_text v; text = record_text n wire.Varint v [] }

abbrev pub bytes_part : ℕ → List ℕ → Record
bytes_part n bytes = record { number = n; wire = wire.Len; value = length bytes; payload = bytes; text = record_text n wire.Len 0 bytes }

-- the bytes of records, one after the other
abbrev pub spelled : List Record → List ℕ
spelled rs = flat_map (λ r. r.text) rs

-- the bytes of a record are read as this record, whatever follows
pub record IsPart (r : Record) : Type 0 where
  pub field : Field
  pub ends : field.«end» ≡ length r.text
  pub some : 0 < length r.text
  pub reads : (rest : List ℕ) → field_at (r.text ++ rest) 0 ≡ Ok field
  pub again : (rest : List ℕ) → record_of (r.text ++ rest) field ≡ r

pub record FitsShape (shape : Shape) (r : Record) : Type 0 where
  pub part : IsPart r
  pub wire : wire_fits (form_of shape r.number) r.wire ≡ true

front : (shape : Shape) (bytes : List ℕ) (f : Field) → 0 < length bytes → field_at bytes 0 ≡ Ok f
    → wire_fits (form_of shape f.number) f.wire ≡ true → 0 < f.«end»
    → records_from shape 0 bytes ≡ (records_from shape 0 (drop f.«end» bytes) >>= λ rs. Ok (record_of bytes f ∷ rs))
unfolding records_from
front shape [] f long e fits some = absurd (omega (arith, long))
front shape (b ∷ bytes) f long e fits some =
    let pred : drop f.«end» (b ∷ bytes) ≡ drop (f.«end» - 1) bytes = drop_pred f.«end» b bytes some in
    rw (e, fits, pred, ← parts_skip shape (f.«end» - 1) bytes) refl

-- records that are spelled one after the other are read as these records
pub parts_again : (shape : Shape) (rs : List Record) → AllByRecursion (FitsShape shape) rs → records_from shape 0 (spelled rs) ≡ Ok rs
unfolding records_from
parts_again shape [] fits = refl
parts_again shape (r ∷ rs) fits =
    let p = fits.0.part in
    let f = p.field in
    let rest = spelled rs in
    let same : record_of (r.text ++ rest) f ≡ r = p.again rest in
    let long : 0 < length (r.text ++ rest) = omega (arith, length-append r.text rest, p.some) in
    let fits_f : wire_fits (form_of shape f.number) f.wire ≡ true =
    subst (λ (x : Record). wire_fits (form_of shape x.number) x.wire ≡ true) (sym same) fits.0.wire in
    let one = front shape (r.text ++ rest) f long (p.reads rest) fits_f (omega (arith, p.ends, p.some)) in
    let behind : drop f.«end» (r.text ++ rest) ≡ rest = drop_at r.text rest f.«end» (sym p.ends) in
    one ∙ rw (behind, parts_again shape rs fits.1, same) refl

some_bytes : (bytes : List ℕ) (n : ℕ) → Spells bytes n → 0 < length bytes
some_bytes [] n h = absurd h
some_bytes (b ∷ bytes) n h = omega arith

-- a record that the grammar spells has one byte or more
pub some_text : (r : Record) → IsRecord r → 0 < length r.text
some_text r h = omega (arith, ap length h.text, length-append h.tag h.behind, some_bytes h.tag (8 * r.number + code_of r.wire) h.tagged.spells)

-- what is spelled by the grammar is read again
part_of : (r : Record) → IsRecord r → IsPart r
part_of r h =
    let ends : 0 + length r.text ≡ length r.text = omega arith in
    record {
      field = placed 0 r;
      ends = ends;
      some = some_text r h;
      reads = λ rest. record_read r rest h;
      again = λ rest. record_kept r rest h;
    }

-- the record that a number of 64 bits is written as is read again, whatever follows its bytes
pub number_part_is : (n v : ℕ) → 0 < n → n ≤ 536_870_911 → v < 2 ^ 64 → IsPart (number_part n v)
number_part_is n v some small fits = part_of (number_part n v)
    (written_is_record n wire.Varint v [] (omega (arith, some), small) fits (omega arith) (λ e. absurd cc))

-- the record that bytes are written as, where they are not too many, is read again, whatever follows it
pub bytes_part_is : (n : ℕ) (bytes : List ℕ) → 0 < n → n ≤ 536_870_911 → length bytes < 2 ^ 64 → IsPart (bytes_part n bytes)
bytes_part_is n bytes some small fits = part_of (bytes_part n bytes)
    (written_is_record n wire.Len 0 bytes (omega (arith, some), small) (omega arith) fits (λ e. absurd cc))
