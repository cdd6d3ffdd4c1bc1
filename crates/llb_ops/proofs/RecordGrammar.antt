-- The records that are read are those that the bytes spell by the grammar.
use Rattle.std.proofs.Common.{◌≡◌, ℕ, zero, suc, ◌+◌, ◌-◌, ◌<◌, ◌≤◌, Bool, true, false, cond, ltb, List, [], ◌∷◌, ◌++◌, length, drop}
use Rattle.std.proofs.Common.{Result, Ok, Err, refl, sym, ap, subst, ◌∙◌, arith}
use Rattle.std.specs.List.{AllByRecursion, flat_map}
use Rattle.std.proofs.lemmas.Bool.{le-ltb}
use Rattle.std.proofs.lemmas.List.{length-append, drop_at}
use Rattle.llb_wire.specs.declared.field.Field.{Field}
use Rattle.llb_wire.specs.CallResults.{◌>>=◌}
use Rattle.llb_wire.proofs.RuleComposition.{bind_ok}
use Rattle.llb_wire.specs.Reading.{field_at}
use Rattle.llb_wire.specs.Spelling.{AreBytes}
use Rattle.llb_wire.specs.Records.{Record, record_of, placed, IsRecord, SpellRecords}
use Rattle.llb_wire.proofs.SpelledRecords.{record_found, record_read, record_kept, spelled_none, spelled_next}
use Rattle.llb_ops.specs.declared.fault.OpFault.{OpFault}
use Rattle.llb_ops.specs.declared.fault.OpFault.TheVariants.{WrongWireType, NotUtf8, OverLimit}
use Rattle.llb_ops.specs.declared.op.Op.{Op}
use Rattle.llb_ops.specs.Limits.{entry_limit}
use Rattle.llb_ops.specs.Records.{Shape, first_record, from_wire, form_of, wire_fits, records_from, texts_fit, parts, wires_fit, fitting, message_of}
use Rattle.llb_ops.specs.Messages.{op_shape, op_in, op_message_of, op_of}
use Rattle.llb_ops.specs.ReadWriteLaws.{IsReadOfRecords}
use Rattle.llb_ops.proofs.RecordSplittingLoop.{parts_skip, drop_pred}
use Rattle.llb_ops.proofs.RecordRoundTrip.{some_text}
use Rattle.llb_ops.proofs.RecordsReadBack.{wire_ok, guard_ended, ok_list}

-- ---- what is read is spelled

nothing_spelled : (rs : List Record) → ◌≡◌ {A = Result (List Record) OpFault} (Ok []) (Ok rs) → SpellRecords [] rs
nothing_spelled rs e = let h : [] ≡ rs = cc in subst (λ (xs : List Record). SpellRecords [] xs) h spelled_none

-- the records that are read after some bytes are those that the bytes left spell by the grammar
pub records_found : (shape : Shape) (skip : ℕ) (bytes : List ℕ) (rs : List Record) → AreBytes bytes → records_from shape skip bytes ≡ Ok rs
    → SpellRecords (drop skip bytes) rs
unfolding records_from
records_found shape zero [] rs are e = nothing_spelled rs e
records_found shape (suc skip) [] rs are e = nothing_spelled rs e
records_found shape (suc skip) (b ∷ bytes) rs are e = records_found shape skip bytes rs are.1 e
records_found shape zero (b ∷ bytes) rs are e =
    let f = bind_ok (first_record shape (b ∷ bytes)) (λ f. records_from shape (f.«end» - 1) bytes >>= λ xs. Ok (record_of (b ∷ bytes) f ∷ xs)) rs e in
    let xs = bind_ok (records_from shape (f.0.«end» - 1) bytes) (λ xs. Ok (record_of (b ∷ bytes) f.0 ∷ xs)) rs f.2 in
    let g = bind_ok (from_wire (field_at (b ∷ bytes) 0)) (λ f. cond (wire_fits (form_of shape f.number) f.wire) (Ok f) (Err WrongWireType)) f.0 f.1 in
    let w = guard_ended (wire_fits (form_of shape g.0.number) g.0.wire) WrongWireType g.0 f.0 g.2 in
    let got : field_at (b ∷ bytes) 0 ≡ Ok f.0 = wire_ok (field_at (b ∷ bytes) 0) f.0 (g.1 ∙ ap (λ z. Ok z) w.1) in
    let found = record_found (b ∷ bytes) f.0 are got in
    let left : drop f.0.«end» (b ∷ bytes) ≡ drop (f.0.«end» - 1) bytes = drop_pred f.0.«end» b bytes (omega (arith, found.begins, found.ordered)) in
    let others : SpellRecords (drop f.0.«end» (b ∷ bytes)) xs.0 = subst (λ (ys : List ℕ). SpellRecords ys xs.0) (sym left)
    (records_found shape (f.0.«end» - 1) bytes xs.0 are.1 xs.1) in
    let h : record_of (b ∷ bytes) f.0 ∷ xs.0 ≡ rs = ok_list (record_of (b ∷ bytes) f.0 ∷ xs.0) rs xs.2 in
    subst (λ (ys : List Record). SpellRecords (b ∷ bytes) ys) h (spelled_next (b ∷ bytes) f.0 xs.0 are got others)

parts_found : (shape : Shape) (bytes : List ℕ) (rs : List Record) → AreBytes bytes → parts shape bytes ≡ Ok rs → SpellRecords bytes rs
unfolding parts
parts_found shape bytes rs are e =
    let p = bind_ok (records_from shape 0 bytes) (λ xs. cond (texts_fit shape xs) (Ok xs) (Err NotUtf8)) rs e in
    let q = guard_ended (texts_fit shape p.0) NotUtf8 p.0 rs p.2 in
    subst (λ (xs : List Record). SpellRecords bytes xs) q.1 (records_found shape 0 bytes p.0 are p.1)

-- ---- what is spelled is read

-- the records of a message, if their wire types fit; their texts are not checked
abbrev typed : Shape → List Record → Result (List Record) OpFault
typed shape rs = cond (wires_fit shape rs) (Ok rs) (Err WrongWireType)

more_typed : (r : Record) (rs : List Record) (b : Bool)
    → (cond {A = Result (List Record) OpFault} b (Ok rs) (Err WrongWireType) >>= λ xs. Ok (r ∷ xs)) ≡ cond b (Ok (r ∷ rs)) (Err WrongWireType)
more_typed r rs true = refl
more_typed r rs false = refl

front_typed : (shape : Shape) (bytes : List ℕ) (f : Field) (r : Record) (rs : List Record) (fits : Bool) → 0 < length bytes
    → field_at bytes 0 ≡ Ok f → wire_fits (form_of shape f.number) f.wire ≡ fits → 0 < f.«end»
    → record_of bytes f ≡ r → wire_fits (form_of shape r.number) r.wire ≡ fits → records_from shape 0 (drop f.«end» bytes) ≡ typed shape rs
    → records_from shape 0 bytes ≡ typed shape (r ∷ rs)
unfolding records_from
front_typed shape [] f r rs fits long e here some same there rest = absurd (omega (arith, long))
front_typed shape (b ∷ bytes) f r rs false long e here some same there rest = rw (e, here, there) refl
front_typed shape (b ∷ bytes) f r rs true long e here some same there rest =
    let left : drop f.«end» (b ∷ bytes) ≡ drop (f.«end» - 1) bytes = drop_pred f.«end» b bytes some in
    let read : records_from shape (f.«end» - 1) bytes ≡ typed shape rs = parts_skip shape (f.«end» - 1) bytes
    ∙ ap (λ (xs : List ℕ). records_from shape 0 xs) (sym left) ∙ rest in
    rw (e, here, read, same, there) (more_typed r rs (wires_fit shape rs))

spelled_typed : (shape : Shape) (rs : List Record) → AllByRecursion IsRecord rs → records_from shape 0 (flat_map (λ r. r.text) rs) ≡ typed shape rs
unfolding records_from
spelled_typed shape [] each = refl
spelled_typed shape (r ∷ rs) each =
    let rest = flat_map (λ (x : Record). x.text) rs in
    let some = some_text r each.0 in
    let none : 0 + length r.text ≡ length r.text = omega arith in
    let behind : drop (length r.text) (r.text ++ rest) ≡ rest = drop_at r.text rest (length r.text) refl in
    front_typed shape (r.text ++ rest) (placed 0 r) r rs (wire_fits (form_of shape r.number) r.wire)
    (omega (arith, some, length-append r.text rest)) (record_read r rest each.0) refl (omega (arith, some))
    (record_kept r rest each.0) refl (ap (λ (xs : List ℕ). records_from shape 0 xs) (ap (λ (k : ℕ). drop k (r.text ++ rest)) none ∙ behind)
    ∙ spelled_typed shape rs each.1)

then_texts : (shape : Shape) (rs : List Record) (wires : Bool)
    → (cond {A = Result (List Record) OpFault} wires (Ok rs) (Err WrongWireType) >>= λ xs. cond (texts_fit shape xs) (Ok xs) (Err NotUtf8))
    ≡ cond wires (cond (texts_fit shape rs) (Ok rs) (Err NotUtf8)) (Err WrongWireType)
then_texts shape rs true = refl
then_texts shape rs false = refl

parts_spelled : (shape : Shape) (bytes : List ℕ) (rs : List Record) → SpellRecords bytes rs → parts shape bytes ≡ fitting shape rs
unfolding parts
parts_spelled shape bytes rs h =
    let read : records_from shape 0 bytes ≡ typed shape rs = ap (λ (xs : List ℕ). records_from shape 0 xs) h.whole ∙ spelled_typed shape rs h.each in
    ap (λ (x : Result (List Record) OpFault). x >>= λ xs. cond (texts_fit shape xs) (Ok xs) (Err NotUtf8)) read ∙ then_texts shape rs (wires_fit shape rs)

-- ---- ops

not_long : (long : Bool) (r : Result Op OpFault) (op : Op) → cond long (Err OverLimit) r ≡ Ok op → r ≡ Ok op
not_long true r op e = absurd cc
not_long false r op e = e

op_found : (bytes : List ℕ) (op : Op) → AreBytes bytes → op_of bytes ≡ Ok op → (rs : List Record) × SpellRecords bytes rs
    × (fitting op_shape rs ≡ Ok rs) × (op_in rs ≡ Ok op)
unfolding op_of message_of
op_found bytes op are e =
    let r = bind_ok (parts op_shape bytes) op_in op (not_long (ltb entry_limit (length bytes)) (op_message_of bytes) op e) in
    let spelled = parts_found op_shape bytes r.0 are r.1 in
    (r.0, spelled, sym (parts_spelled op_shape bytes r.0 spelled) ∙ r.1, r.2)

op_spelled : (bytes : List ℕ) (rs : List Record) → SpellRecords bytes rs → length bytes ≤ entry_limit → op_of bytes ≡ (fitting op_shape rs >>= op_in)
unfolding op_of message_of
op_spelled bytes rs spelled few =
    let short : ltb entry_limit (length bytes) ≡ false = le-ltb _ _ few in
    rw short (ap (λ (x : Result (List Record) OpFault). x >>= op_in) (parts_spelled op_shape bytes rs spelled))

-- the records of a message are those that its bytes spell by the grammar, and an op is read of them alone
pub read_of_records : (bytes : List ℕ) → AreBytes bytes → IsReadOfRecords bytes
read_of_records bytes are = record {
  found = λ shape rs e. parts_found shape bytes rs are e;
  spelled = λ shape rs h. parts_spelled shape bytes rs h;
  op_found = λ op e. op_found bytes op are e;
  op_spelled = λ rs h few. op_spelled bytes rs h few;
}
