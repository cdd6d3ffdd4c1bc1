-- Splitting bytes into records, as a loop does.
use Rattle.std.proofs.Common.{◌≡◌, ℕ, zero, suc, ◌-◌, ◌<◌, true, false, eqb, List, [], ◌∷◌, ◌++◌, length, drop, Option, Some, None, Result}
use Rattle.std.proofs.Common.{Ok, Err, refl, sym, ap, ◌∙◌, append_assoc, arith}
use Rattle.std.proofs.lemmas.Bool.{ne_eqb}
use Rattle.std.proofs.lemmas.List.{append-nil, length-drop}
use Rattle.llb_wire.specs.declared.fault.WireFault.{WireFault}
use Rattle.llb_wire.specs.declared.field.Field.{Field}
use Rattle.llb_wire.specs.Reading.{field_at, next_field, IsWithin}
use Rattle.llb_wire.specs.Records.{Record, record_of}
use Rattle.llb_ops.specs.declared.fault.OpFault.{OpFault}
use Rattle.llb_ops.specs.declared.fault.OpFault.TheVariants.{Wire, WrongWireType}
use Rattle.llb_wire.specs.CallResults.{◌>>=◌}
use Rattle.llb_ops.specs.declared.records.Front.{Front}
use Rattle.llb_ops.specs.Records.{Shape, view, form_of, wire_fits, records_from, IsFront}

-- the records that were read before, followed by those that are still to be read
abbrev pub with_front : List Record → Result (List Record) OpFault → Result (List Record) OpFault
with_front front read = read >>= λ rs. Ok (front ++ rs)

regroup : (front : List Record) (r : Record) (read : Result (List Record) OpFault)
    → with_front front (read >>= λ rs. Ok (r ∷ rs)) ≡ with_front (front ++ r ∷ []) read
regroup front r (Ok rs) = ap (λ (x : List Record). Ok x) (simp append_assoc)
regroup front r (Err f) = refl

-- reading past some bytes is reading what is left when they are dropped
pub parts_skip : (shape : Shape) (skip : ℕ) (bytes : List ℕ) → records_from shape skip bytes ≡ records_from shape 0 (drop skip bytes)
unfolding records_from
parts_skip shape zero bytes = refl
parts_skip shape (suc skip) [] = refl
parts_skip shape (suc skip) (b ∷ bytes) = parts_skip shape skip bytes

-- a record that is read, as the next record that is there
abbrev next_is : Result Field WireFault → Result (Option Field) WireFault
next_is (Ok f) = Ok (Some f)
next_is (Err e) = Err e

next_cons : (b : ℕ) (bytes : List ℕ) → next_field (b ∷ bytes) 0 ≡ next_is (field_at (b ∷ bytes) 0)
unfolding next_field
next_cons b bytes = go (field_at (b ∷ bytes) 0) refl where
  go : (r : Result Field WireFault) → field_at (b ∷ bytes) 0 ≡ r → next_field (b ∷ bytes) 0 ≡ next_is r
  go (Ok f) e = let some : eqb 0 (suc (length bytes)) ≡ false = ne_eqb _ _ (omega arith) in rw (some, e) refl
  go (Err d) e = let some : eqb 0 (suc (length bytes)) ≡ false = ne_eqb _ _ (omega arith) in rw (some, e) refl

none_is : (r : Result Field WireFault) → next_is r ≡ Ok None → ⊥
none_is (Ok f) e = cc
none_is (Err d) e = cc

some_is : (r : Result Field WireFault) (f : Field) → next_is r ≡ Ok (Some f) → r ≡ Ok f
some_is (Ok g) f e = cc
some_is (Err d) f e = absurd cc

err_is : (r : Result Field WireFault) (d : WireFault) → next_is r ≡ Err d → r ≡ Err d
err_is (Ok g) d e = absurd cc
err_is (Err x) d e = cc

nothing : next_field [] 0 ≡ Ok None
unfolding next_field
nothing = refl

-- where no record comes next, there are no records
pub parts_end : (shape : Shape) (bytes : List ℕ) → Ok None ≡ next_field bytes 0 → records_from shape 0 bytes ≡ Ok []
unfolding records_from
parts_end shape [] e = refl
parts_end shape (b ∷ bytes) e = absurd (none_is (field_at (b ∷ bytes) 0) (sym (next_cons b bytes) ∙ sym e))

-- a fault of the wire in the next record is that of all records
pub parts_err : (shape : Shape) (bytes : List ℕ) (d : WireFault) → Err d ≡ next_field bytes 0 → records_from shape 0 bytes ≡ Err (Wire d)
unfolding records_from
parts_err shape [] d e = let h = nothing in absurd cc
parts_err shape (b ∷ bytes) d e = let h = err_is (field_at (b ∷ bytes) 0) d (sym (next_cons b bytes) ∙ sym e) in rw h refl

-- where the next record is of a named field with another wire type, all records are refused for it
pub parts_wrong : (shape : Shape) (bytes : List ℕ) (f : Field) → Ok (Some f) ≡ next_field bytes 0
    → wire_fits (form_of shape f.number) f.wire ≡ false → records_from shape 0 bytes ≡ Err WrongWireType
unfolding records_from
parts_wrong shape [] f e fails = let h = nothing in absurd cc
parts_wrong shape (b ∷ bytes) f e fails = let h = some_is (field_at (b ∷ bytes) 0) f (sym (next_cons b bytes) ∙ sym e) in rw (h, fails) refl

-- dropping n bytes, at least one, drops the first byte and n - 1 of the rest
pub drop_pred : (n b : ℕ) (bytes : List ℕ) → 0 < n → drop n (b ∷ bytes) ≡ drop (n - 1) bytes
drop_pred zero b bytes lt = absurd (omega arith)
drop_pred (suc n) b bytes lt = let e : suc n - 1 ≡ n = omega arith in rw e refl

pub parts_more : (shape : Shape) (bytes : List ℕ) (f : Field) → Ok (Some f) ≡ next_field bytes 0
    → wire_fits (form_of shape f.number) f.wire ≡ true → 0 < f.«end»
    → records_from shape 0 bytes ≡ (records_from shape 0 (drop f.«end» bytes) >>= λ rs. Ok (record_of bytes f ∷ rs))
unfolding records_from
parts_more shape [] f e fits some = let h = nothing in absurd cc
parts_more shape (b ∷ bytes) f e fits some =
    let h = some_is (field_at (b ∷ bytes) 0) f (sym (next_cons b bytes) ∙ sym e) in
    let one : drop f.«end» (b ∷ bytes) ≡ drop (f.«end» - 1) bytes = drop_pred f.«end» b bytes some in
    rw (h, fits, one, ← parts_skip shape (f.«end» - 1) bytes) refl

-- the record that was taken is the first one, and the bytes after it are the rest
pub is_front : (shape : Shape) (bytes : List ℕ) (f : Field) (front : Front) → Ok (Some f) ≡ next_field bytes 0
    → wire_fits (form_of shape f.number) f.wire ≡ true → IsWithin bytes 0 f
    → view front.record ≡ record_of bytes f → front.after.now ≡ drop f.«end» bytes → IsFront shape bytes front
is_front shape bytes f front e fits within seen left = record {
  reads = parts_more shape bytes f e fits (omega (arith, within.begins, within.ordered))
      ∙ ap (λ (xs : List ℕ). records_from shape 0 xs >>= λ rs. Ok (record_of bytes f ∷ rs)) (sym left)
      ∙ ap (λ (r : Record). records_from shape 0 front.after.now >>= λ rs. Ok (r ∷ rs)) (sym seen);
  shorter = omega (arith, within.begins, within.ordered, within.inside, ap length left, length-drop f.«end» bytes);
}

-- ---- the loop goes on, and ends

-- where a record is read, it goes after those before it, and the total stays
pub goes_on : (shape : Shape) (front : List Record) (r : Record) (bytes after : List ℕ) (total : Result (List Record) OpFault)
    → records_from shape 0 bytes ≡ (records_from shape 0 after >>= λ rs. Ok (r ∷ rs))
    → with_front front (records_from shape 0 bytes) ≡ total → with_front (front ++ r ∷ []) (records_from shape 0 after) ≡ total
goes_on shape front r bytes after total more so_far = sym (regroup front r (records_from shape 0 after)) ∙ ap (with_front front) (sym more) ∙ so_far

-- where no record is left, those that were read are the total
pub is_done : (shape : Shape) (front : List Record) (bytes : List ℕ) (total : Result (List Record) OpFault)
    → records_from shape 0 bytes ≡ Ok [] → with_front front (records_from shape 0 bytes) ≡ total → total ≡ Ok front
is_done shape front bytes total none so_far = sym so_far ∙ ap (with_front front) none ∙ ap (λ (x : List Record). Ok x) (append-nil front)
