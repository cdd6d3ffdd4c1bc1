-- The payloads of records that were read are together no longer than the bytes; nor are those of some of the records.
use Rattle.std.proofs.Common.{◌≡◌, ℕ, zero, suc, ◌+◌, ◌-◌, ◌≤◌, Bool, true, false, cond, List, [], ◌∷◌, ◌++◌, length, take, Ok, Err, refl}
use Rattle.std.proofs.Common.{ap, subst, ◌∙◌, arith}
use Rattle.std.specs.Prelude.{◌==◌, filter, fold}
use Rattle.std.specs.List.{AllByRecursion}
use Rattle.std.proofs.lemmas.List.{length-append, length-take, length-drop}
use Rattle.llb_wire.specs.declared.field.Field.{Field}
use Rattle.llb_wire.specs.Reading.{field_at}
use Rattle.llb_wire.specs.Records.{Record, record_of}
use Rattle.llb_wire.proofs.RecordsFromOwnBytes.{field_local}
use Rattle.llb_wire.specs.CallResults.{◌>>=◌}
use Rattle.llb_wire.proofs.RuleComposition.{bind_ok}
use Rattle.llb_ops.specs.declared.fault.OpFault.TheVariants.{WrongWireType, NotUtf8}
use Rattle.llb_ops.specs.Records.{Shape, from_wire, first_record, form_of, wire_fits, records_from, texts_fit, parts, all, payloads, joined}
use Rattle.llb_ops.specs.Records.{kept, since, is_other, member}
use Rattle.llb_ops.proofs.RecordsReadBack.{wire_ok, ok_list, guard_ended}

-- ---- bytes, and the records that they spell

-- a record at the start holds less than the bytes up to its end
front_size : (bytes : List ℕ) (f : Field) → field_at bytes 0 ≡ Ok f → (length (record_of bytes f).payload + 1 ≤ f.«end») × (f.«end» ≤ length bytes)
front_size bytes f e =
    let h = field_local bytes f e in
    (omega (arith, h.begins, h.ordered, h.inside, length-drop f.start (take f.«end» bytes), length-take f.«end» bytes), h.inside)

first_read : (shape : Shape) (bytes : List ℕ) (f : Field) → first_record shape bytes ≡ Ok f → field_at bytes 0 ≡ Ok f
first_read shape bytes f e =
    let g = bind_ok (from_wire (field_at bytes 0)) (λ f. cond (wire_fits (form_of shape f.number) f.wire) (Ok f) (Err WrongWireType)) f e in
    let w = guard_ended (wire_fits (form_of shape g.0.number) g.0.wire) WrongWireType g.0 f g.2 in
    wire_ok (field_at bytes 0) f (g.1 ∙ ap (λ z. Ok z) w.1)

records_size : (shape : Shape) (skip : ℕ) (bytes : List ℕ) (rs : List Record) → skip ≤ length bytes → records_from shape skip bytes ≡ Ok rs
    → length (joined rs) + skip ≤ length bytes
unfolding records_from
records_size shape zero [] rs le e = subst (λ (xs : List Record). length (joined xs) + 0 ≤ 0) (ok_list [] rs e) (omega arith)
records_size shape (suc skip) [] rs le e = absurd (omega (arith, le))
records_size shape (suc skip) (b ∷ bytes) rs le e = omega (arith, records_size shape skip bytes rs (omega (arith, le)) e)
records_size shape zero (b ∷ bytes) rs le e =
    let f = bind_ok (first_record shape (b ∷ bytes)) (λ f. records_from shape (f.«end» - 1) bytes >>= λ xs. Ok (record_of (b ∷ bytes) f ∷ xs)) rs e in
    let xs = bind_ok (records_from shape (f.0.«end» - 1) bytes) (λ xs. Ok (record_of (b ∷ bytes) f.0 ∷ xs)) rs f.2 in
    let front = front_size (b ∷ bytes) f.0 (first_read shape (b ∷ bytes) f.0 f.1) in
    let r = record_of (b ∷ bytes) f.0 in
    let rest = records_size shape (f.0.«end» - 1) bytes xs.0 (omega (arith, front.1)) xs.1 in
    let size : length (joined (r ∷ xs.0)) + 0 ≤ suc (length bytes) = omega (arith, front.0, front.1, rest, length-append r.payload (joined xs.0)) in
    subst (λ (ys : List Record). length (joined ys) + 0 ≤ suc (length bytes)) (ok_list (r ∷ xs.0) rs xs.2) size

-- the payloads of all records that bytes are read as are together no longer than the bytes
pub parts_size : (shape : Shape) (bytes : List ℕ) (rs : List Record) → parts shape bytes ≡ Ok rs → length (joined rs) ≤ length bytes
unfolding parts
parts_size shape bytes rs e =
    let p = bind_ok (records_from shape 0 bytes) (λ xs. cond (texts_fit shape xs) (Ok xs) (Err NotUtf8)) rs e in
    let q = guard_ended (texts_fit shape p.0) NotUtf8 p.0 rs p.2 in
    subst (λ (xs : List Record). length (joined xs) ≤ length bytes) q.1 (omega (arith, records_size shape 0 bytes p.0 (omega arith) p.1))

-- ---- some of the records

filter_more_size : (p : Record → Bool) (r : Record) (rs : List Record) (b : Bool) → p r ≡ b
    → length (joined (filter p rs)) ≤ length (joined rs) → length (joined (filter p (r ∷ rs))) ≤ length (joined (r ∷ rs))
filter_more_size p r rs true e h = rw e (omega (arith, h, length-append r.payload (joined (filter p rs)), length-append r.payload (joined rs)))
filter_more_size p r rs false e h = rw e (omega (arith, h, length-append r.payload (joined rs)))

filter_size : (p : Record → Bool) (rs : List Record) → length (joined (filter p rs)) ≤ length (joined rs)
filter_size p [] = omega arith
filter_size p (r ∷ rs) = filter_more_size p r rs (p r) refl (filter_size p rs)

-- the payloads of one field's records are together no longer than those of all
pub all_size : (n : ℕ) (rs : List Record) → length (joined (all n rs)) ≤ length (joined rs)
all_size n rs = filter_size (λ r. r.number == n) rs

joined_push : (rs : List Record) (r : Record) → length (joined (rs ++ r ∷ [])) ≡ length (joined rs) + length r.payload
joined_push [] r = omega (arith, length-append r.payload [])
joined_push (x ∷ rs) r = omega (arith, joined_push rs r, length-append x.payload (joined (rs ++ r ∷ [])), length-append x.payload (joined rs))

kept_size : (p : Record → Bool) (front : List Record) (r : Record) (b : Bool) → p r ≡ b
    → length (joined (kept p front r)) ≤ length (joined front) + length r.payload
kept_size p front r true e = rw e (omega arith)
kept_size p front r false e = rw e (omega (arith, joined_push front r))

fold_size : (p : Record → Bool) (front rs : List Record) → length (joined (fold (kept p) front rs)) ≤ length (joined front) + length (joined rs)
fold_size p front [] = omega arith
fold_size p front (r ∷ rs) = omega (arith, fold_size p (kept p front r) rs, kept_size p front r (p r) refl, length-append r.payload (joined rs))

-- the payloads of the records that count for a member are together no longer than those of all
pub member_size : (members : List ℕ) (n : ℕ) (rs : List Record) → length (joined (member members n rs)) ≤ length (joined rs)
member_size members n rs = omega (arith, all_size n (since (is_other members n) rs), fold_size (is_other members n) [] rs)

-- ---- each payload

-- where payloads are together within a limit, each is
pub each_size : (limit : ℕ) (rs : List Record) → length (joined rs) ≤ limit → AllByRecursion (λ a. length a ≤ limit) (payloads rs)
each_size limit [] h = tt
each_size limit (r ∷ rs) h = (omega (arith, h, length-append r.payload (joined rs)), each_size limit rs (omega (arith, h, length-append r.payload (joined rs))))
