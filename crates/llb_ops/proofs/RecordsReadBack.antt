-- Records that were read are read again of their own bytes.
use Rattle.std.proofs.Common.{◌≡◌, ℕ, zero, suc, ◌-◌, Bool, true, false, cond, List, [], ◌∷◌, length, take, Result, Ok, Err, refl, sym, ap, subst, ◌∙◌, arith}
use Rattle.std.specs.List.{AllByRecursion}
use Rattle.std.proofs.lemmas.List.{length-take, take_at}
use Rattle.llb_wire.specs.declared.fault.WireFault.{WireFault}
use Rattle.llb_wire.specs.declared.field.Field.{Field}
use Rattle.llb_wire.specs.Reading.{field_at}
use Rattle.llb_wire.specs.Records.{Record, record_of}
use Rattle.llb_wire.proofs.RecordsFromOwnBytes.{field_local}
use Rattle.llb_ops.specs.declared.fault.OpFault.{OpFault}
use Rattle.llb_ops.specs.declared.fault.OpFault.TheVariants.{WrongWireType}
use Rattle.llb_wire.specs.CallResults.{◌>>=◌}
use Rattle.llb_wire.proofs.RuleComposition.{bind_ok}
use Rattle.llb_ops.specs.Records.{Shape, from_wire, first_record, form_of, wire_fits, records_from}
use Rattle.llb_ops.proofs.RecordRoundTrip.{IsPart, FitsShape}

-- what succeeds with the wire's faults as an op's own succeeded with them as they were
pub wire_ok : {A : Type 0} (r : Result A WireFault) (x : A) → from_wire r ≡ Ok x → r ≡ Ok x
wire_ok (Ok y) x e = let h : y ≡ x = cc in ap (λ z. Ok z) h
wire_ok (Err d) x e = absurd cc

abbrev pub ok_of : List Record → Result (List Record) OpFault
ok_of xs = Ok xs

-- two equal results with records have the same records
pub ok_list : (xs ys : List Record) → ok_of xs ≡ ok_of ys → xs ≡ ys
ok_list xs ys e = cc

-- a result that is a value only if a test is passed: the value is the tested one, and the test was passed
pub guard_ended : {A : Type 0} (b : Bool) (d : OpFault) (x y : A) → cond b (Ok x) (Err d) ≡ Ok y → (b ≡ true) × (x ≡ y)
guard_ended true d x y e = (refl, cc)
guard_ended false d x y e = absurd cc

part_is : (bytes : List ℕ) (f : Field) → field_at bytes 0 ≡ Ok f → IsPart (record_of bytes f)
part_is bytes f e =
    let h = field_local bytes f e in
    let len : length (take f.«end» bytes) ≡ f.«end» = omega (arith, length-take f.«end» bytes, h.inside) in
    record {
      field = f;
      ends = sym len;
      some = omega (arith, len, h.begins, h.ordered);
      reads = h.again;
      again = λ rest. rw (take_at (take f.«end» bytes) rest f.«end» len) refl;
    }

nothing_fits : (shape : Shape) (rs : List Record) → ok_of [] ≡ ok_of rs → AllByRecursion (FitsShape shape) rs
nothing_fits shape rs e = let h : [] ≡ rs = cc in subst (λ xs. AllByRecursion (FitsShape shape) xs) h tt

-- each record that is read of bytes is read again of its own, and has a wire type that fits its field
pub records_fit : (shape : Shape) (skip : ℕ) (bytes : List ℕ) (rs : List Record) → records_from shape skip bytes ≡ Ok rs → AllByRecursion (FitsShape shape) rs
unfolding records_from
records_fit shape zero [] rs e = nothing_fits shape rs e
records_fit shape (suc skip) [] rs e = nothing_fits shape rs e
records_fit shape (suc skip) (b ∷ bytes) rs e = records_fit shape skip bytes rs e
records_fit shape zero (b ∷ bytes) rs e =
    let f = bind_ok (first_record shape (b ∷ bytes)) (λ f. records_from shape (f.«end» - 1) bytes >>= λ xs. Ok (record_of (b ∷ bytes) f ∷ xs)) rs e in
    let xs = bind_ok (records_from shape (f.0.«end» - 1) bytes) (λ xs. Ok (record_of (b ∷ bytes) f.0 ∷ xs)) rs f.2 in
    let g = bind_ok (from_wire (field_at (b ∷ bytes) 0)) (λ f. cond (wire_fits (form_of shape f.number) f.wire) (Ok f) (Err WrongWireType)) f.0 f.1 in
    let w = guard_ended (wire_fits (form_of shape g.0.number) g.0.wire) WrongWireType g.0 f.0 g.2 in
    let got : field_at (b ∷ bytes) 0 ≡ Ok f.0 = wire_ok (field_at (b ∷ bytes) 0) f.0 (g.1 ∙ ap (λ z. Ok z) w.1) in
    let fits : wire_fits (form_of shape f.0.number) f.0.wire ≡ true = subst (λ (z : Field). wire_fits (form_of shape z.number) z.wire ≡ true) w.1 w.0 in
    let h : record_of (b ∷ bytes) f.0 ∷ xs.0 ≡ rs = ok_list (record_of (b ∷ bytes) f.0 ∷ xs.0) rs xs.2 in
    subst (λ ys. AllByRecursion (FitsShape shape) ys) h (
      record { part = part_is (b ∷ bytes) f.0 got; wire = fits },
      records_fit shape (f.0.«end» - 1) bytes xs.0 xs.1,
    )
