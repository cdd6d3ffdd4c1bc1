-- The grammar of records and the reading of records agree: a record is read exactly if the bytes at the position spell one; bytes
-- spell at most one list of records, and reading from record to record finds this list; a record is written in as few bytes as can spell it.
use Rattle.std.proofs.Common.{◌≡◌, ℕ, ◌+◌, ◌-◌, ◌*◌, ◌/◌, ◌%◌, ◌^◌, ◌<◌, ◌≤◌, Bool, true, false, cond, ltb, eqb, List, [], ◌∷◌, ◌++◌}
use Rattle.std.proofs.Common.{length, take, drop, Option, Some, None, Result, Ok, Err, refl, sym, ap, subst, ◌∙◌, append_assoc, arith}
use Rattle.std.specs.List.{AllByRecursion, flat_map}
use Rattle.std.proofs.lemmas.Bool.{ltb-false, le-ltb, eqb-true, eqb-false, ne_eqb, eq-eqb}
use Rattle.std.proofs.lemmas.List.{length-append, length-take, length-drop, take-append-drop, take-take, take_at, drop_at, drop-take}
use Rattle.std.proofs.lemmas.List.{drop-drop, append-nil, append_cancel_left}
use Rattle.std.specs.Int.{Width, w32, w64, byte_len, from_le_bytes}
use Rattle.std.specs.Prelude.{◌↔◌}
use Rattle.std.proofs.lemmas.Nat.{from_le_bytes-to_le_bytes_4, from_le_bytes-to_le_bytes_8}
use Rattle.llb_wire.specs.declared.fault.WireFault.{WireFault}
use Rattle.llb_wire.specs.declared.fault.WireFault.TheVariants.{Truncated, BadField, BadWireType}
use Rattle.llb_wire.specs.declared.field.Wire.{Wire}
use Rattle.llb_wire.specs.declared.field.Wire.TheVariants as wire
use Rattle.llb_wire.specs.declared.field.Field.{Field}
use Rattle.llb_wire.specs.CallResults.{◌>>=◌}
use Rattle.llb_wire.proofs.RuleComposition.{bind_ok, guard_ok}
use Rattle.llb_wire.specs.Reading.{varint_at, number_of, wire_of, fixed_at, as_field, payload_at, field_at, next_field}
use Rattle.llb_wire.specs.Spelling.{code_of, between, Spells, IsVarint, IsFieldNumber, AreBytes, varint_text, tag_text, payload_text, value_text}
use Rattle.llb_wire.specs.Records.{Record, record_of, record_at, placed, IsFixed, IsPayload, IsRecord, SpellRecords, Walks, own_text}
use Rattle.llb_wire.specs.Records.{written_record, IsShortestRecord}
use Rattle.llb_wire.proofs.WrittenPayloads.{written_bytes, least_payload}
use Rattle.llb_wire.proofs.Varints.{varint_found, varint_read, is_shortest, least_spelling, are_bytes-append, are_bytes-front, are_bytes-back}

-- ---- a spelled record is read, whatever follows it

pub number_is : (n : ℕ) (w : Wire) → IsFieldNumber n → number_of ((8 * n + code_of w) / 8) ≡ Ok n
number_is n w h =
    let code = code_small w in
    let same : (8 * n + code_of w) / 8 ≡ n = omega arith in
    let some : eqb n 0 ≡ false = ne_eqb _ _ (omega (arith, h.0)) in
    let few : ltb 536_870_911 n ≡ false = le-ltb _ _ h.1 in
    rw (same, some, few) refl
  where
    code_small : (w : Wire) → code_of w < 8
    code_small wire.Varint = omega arith
    code_small wire.I64 = omega arith
    code_small wire.Len = omega arith
    code_small wire.I32 = omega arith

pub wire_is : (n : ℕ) (w : Wire) → wire_of ((8 * n + code_of w) % 8) ≡ Ok w
wire_is n wire.Varint = let e : (8 * n + 0) % 8 ≡ 0 = omega arith in rw e refl
wire_is n wire.I64 = let e : (8 * n + 1) % 8 ≡ 1 = omega arith in rw e refl
wire_is n wire.Len = let e : (8 * n + 2) % 8 ≡ 2 = omega arith in rw e refl
wire_is n wire.I32 = let e : (8 * n + 5) % 8 ≡ 5 = omega arith in rw e refl

-- `behind`, the bytes after a tag, ends with `own`, the bytes of the payload
pub record IsTail (behind own : List ℕ) : Type 0 where
  pub front : List ℕ
  pub split : behind ≡ front ++ own

tail_of : (w : Wire) (behind own : List ℕ) (value : ℕ) → IsPayload w behind value own → IsTail behind own
tail_of wire.Varint behind own value h = record { front = []; split = sym h.0 }
tail_of wire.I64 behind own value h = record { front = []; split = sym h.0 }
tail_of wire.Len behind own value h = record { front = h.0; split = h.1 }
tail_of wire.I32 behind own value h = record { front = []; split = sym h.0 }

fixed_read : (w : Width) (before spelling rest : List ℕ) (n at : ℕ) → at ≡ length before → IsFixed w spelling n
    → fixed_at w (before ++ (spelling ++ rest)) at ≡ Ok (n, at + length spelling)
fixed_read w before spelling rest n at e h =
    let there : drop at (before ++ (spelling ++ rest)) ≡ spelling ++ rest = drop_at before (spelling ++ rest) at (sym e) in
    let enough : ltb (length (spelling ++ rest)) (byte_len w) ≡ false = le-ltb _ _ (omega (arith, length-append spelling rest, h.size)) in
    let front : take (byte_len w) (spelling ++ rest) ≡ spelling = take_at spelling rest (byte_len w) h.size in
    rw (there, enough, front, sym h.value, sym h.size) refl

-- the field whose tag ends at `at`: `behind` is the bytes after the tag, and `own` is the bytes of the payload, with which `behind` ends
abbrev payload_field : ℕ → Wire → ℕ → ℕ → List ℕ → List ℕ → Field
payload_field number w value at behind own = record {
  number = number;
  wire = w;
  value = value;
  start = at + (length behind - length own);
  «end» = at + length behind;
}

payload_read : (number : ℕ) (w : Wire) (value : ℕ) (before behind own rest : List ℕ) (at : ℕ) → at ≡ length before → IsPayload w behind value own
    → payload_at number w (before ++ (behind ++ rest)) at ≡ Ok (payload_field number w value at behind own)
unfolding payload_at
payload_read number wire.Varint value before behind own rest at e h =
    let none : at + (length behind - length own) ≡ at = omega (arith, ap length h.0) in
    rw (varint_read before behind rest value at e h.1, none) refl
payload_read number wire.I64 value before behind own rest at e h =
    let none : at + (length behind - length own) ≡ at = omega (arith, ap length h.0) in
    rw (fixed_read w64 before behind rest value at e h.1, none) refl
payload_read number wire.I32 value before behind own rest at e h =
    let none : at + (length behind - length own) ≡ at = omega (arith, ap length h.0) in
    rw (fixed_read w32 before behind rest value at e h.1, none) refl
payload_read number wire.Len value before behind own rest at e h =
    let count = h.0 in
    let group : before ++ (behind ++ rest) ≡ before ++ (count ++ (own ++ rest)) =
    ap (λ xs. before ++ xs) (ap (λ xs. xs ++ rest) h.1 ∙ append_assoc count own rest) in
    let whole : length (before ++ (count ++ (own ++ rest))) ≡ length before + (length count + (length own + length rest)) =
    length-append before (count ++ (own ++ rest)) ∙ ap (λ k. length before + k) (length-append count (own ++ rest)
    ∙ ap (λ k. length count + k) (length-append own rest)) in
    let size : length behind ≡ length count + length own = ap length h.1 ∙ length-append count own in
    let enough : ltb (length (before ++ (count ++ (own ++ rest))) - (at + length count)) value ≡ false = le-ltb _ _ (omega (arith, whole, e, h.3)) in
    let begin : at + (length behind - length own) ≡ at + length count = omega (arith, size) in
    let stop : at + length behind ≡ at + length count + value = omega (arith, size, h.3) in
    rw (group, varint_read before count (own ++ rest) value at e h.2, enough, begin, stop) refl

-- a record is read from its own bytes, wherever they are
pub record_read_at : (before : List ℕ) (r : Record) (rest : List ℕ) (at : ℕ) → at ≡ length before → IsRecord r
    → field_at (before ++ (r.text ++ rest)) at ≡ Ok (placed at r)
unfolding field_at
record_read_at before r rest at e h =
    let tail = tail_of r.wire h.behind r.payload r.value h.payload in
    let group : before ++ (r.text ++ rest) ≡ before ++ (h.tag ++ (h.behind ++ rest)) =
    ap (λ xs. before ++ xs) (ap (λ xs. xs ++ rest) h.text ∙ append_assoc h.tag h.behind rest) in
    let later : before ++ (h.tag ++ (h.behind ++ rest)) ≡ (before ++ h.tag) ++ (h.behind ++ rest) = sym (append_assoc before h.tag (h.behind ++ rest)) in
    let place : at + length h.tag ≡ length (before ++ h.tag) = omega (arith, length-append before h.tag, e) in
    let size : length r.text ≡ length h.tag + length h.behind = ap length h.text ∙ length-append h.tag h.behind in
    let own : length h.behind ≡ length tail.front + length r.payload = ap length tail.split ∙ length-append tail.front r.payload in
    let begin : at + (length r.text - length r.payload) ≡ at + length h.tag + (length h.behind - length r.payload) = omega (arith, size, own) in
    let stop : at + length r.text ≡ at + length h.tag + length h.behind = omega (arith, size) in
    let payload : payload_at r.number r.wire (before ++ (h.tag ++ (h.behind ++ rest))) (at + length h.tag)
    ≡ Ok (payload_field r.number r.wire r.value (at + length h.tag) h.behind r.payload) =
    ap (λ xs. payload_at r.number r.wire xs (at + length h.tag)) later
    ∙ payload_read r.number r.wire r.value (before ++ h.tag) h.behind r.payload rest (at + length h.tag) place h.payload in
    rw (
      group,
      begin,
      stop,
      varint_read before h.tag (h.behind ++ rest) (8 * r.number + code_of r.wire) at e h.tagged,
      number_is r.number r.wire h.named,
      wire_is r.number r.wire,
    ) payload

-- a record is read from its own bytes, whatever follows them
pub record_read : (r : Record) (rest : List ℕ) → IsRecord r → field_at (r.text ++ rest) 0 ≡ Ok (placed 0 r)
record_read r rest h = record_read_at [] r rest 0 refl h

-- if a record is read from its own bytes, wherever they are, the result is the same record
pub record_kept_at : (before : List ℕ) (r : Record) (rest : List ℕ) (at : ℕ) → at ≡ length before → IsRecord r
    → record_at (before ++ (r.text ++ rest)) at (placed at r) ≡ r
record_kept_at before r rest at e h =
    let tail = tail_of r.wire h.behind r.payload r.value h.payload in
    let size : length r.text ≡ length h.tag + length h.behind = ap length h.text ∙ length-append h.tag h.behind in
    let own : length h.behind ≡ length tail.front + length r.payload = ap length tail.split ∙ length-append tail.front r.payload in
    let group : before ++ (r.text ++ rest) ≡ (before ++ r.text) ++ rest = sym (append_assoc before r.text rest) in
    let front : take (at + length r.text) (before ++ (r.text ++ rest)) ≡ before ++ r.text = ap (λ xs. take (at + length r.text) xs) group
    ∙ take_at (before ++ r.text) rest (at + length r.text) (omega (arith, length-append before r.text, e)) in
    let text : drop at (before ++ r.text) ≡ r.text = drop_at before r.text at (sym e) in
    let parts : before ++ r.text ≡ (before ++ (h.tag ++ tail.front)) ++ r.payload =
    ap (λ xs. before ++ xs) (h.text ∙ ap (λ xs. h.tag ++ xs) tail.split ∙ sym (append_assoc h.tag tail.front r.payload))
    ∙ sym (append_assoc before (h.tag ++ tail.front) r.payload) in
    let place : length (before ++ (h.tag ++ tail.front)) ≡ at + (length r.text - length r.payload) =
    omega (arith, size, own, e, length-append before (h.tag ++ tail.front), length-append h.tag tail.front) in
    let payload : drop (at + (length r.text - length r.payload)) (before ++ r.text) ≡ r.payload =
    ap (λ xs. drop (at + (length r.text - length r.payload)) xs) parts
    ∙ drop_at (before ++ (h.tag ++ tail.front)) r.payload (at + (length r.text - length r.payload)) place in
    rw (front, text, payload) refl

pub record_kept : (r : Record) (rest : List ℕ) → IsRecord r → record_of (r.text ++ rest) (placed 0 r) ≡ r
record_kept r rest h = record_kept_at [] r rest 0 refl h

-- ---- the bytes that are read for a record spell it

number_ok : (tag n : ℕ) → number_of (tag / 8) ≡ Ok n → (n ≡ tag / 8) × IsFieldNumber n
number_ok tag n e = go (tag / 8) n (eqb (tag / 8) 0) (ltb 536_870_911 (tag / 8)) refl refl e where
  go : (k n : ℕ) (none many : Bool) → eqb k 0 ≡ none → ltb 536_870_911 k ≡ many
      → cond {A = Result ℕ WireFault} none (Err BadField) (cond many (Err BadField) (Ok k)) ≡ Ok n → (n ≡ k) × IsFieldNumber n
  go k n true many a b e = absurd cc
  go k n false true a b e = absurd cc
  go k n false false a b e =
      let same : n ≡ k = sym (ok_nat k n e) in
      let few = ltb-false 536_870_911 k b in
      let some : ¬ (k ≡ 0) = eqb-false k 0 a in
      (same, (omega (arith, same, some), omega (arith, same, few)))
    where
      ok_nat : (k n : ℕ) → ◌≡◌ {A = Result ℕ WireFault} (Ok k) (Ok n) → k ≡ n
      ok_nat k n e = cc

wire_ok : (code : ℕ) (w : Wire) → wire_of code ≡ Ok w → code ≡ code_of w
wire_ok code w e = go code w (eqb code 0) (eqb code 1) (eqb code 2) (eqb code 5) refl refl refl refl e where
  ok_wire : (v w : Wire) → ◌≡◌ {A = Result Wire WireFault} (Ok v) (Ok w) → v ≡ w
  ok_wire v w e = cc

  go : (code : ℕ) (w : Wire) (a b c d : Bool) → eqb code 0 ≡ a → eqb code 1 ≡ b → eqb code 2 ≡ c → eqb code 5 ≡ d
      → cond {A = Result Wire WireFault} a (Ok wire.Varint)
      (cond b (Ok wire.I64) (cond c (Ok wire.Len) (cond d (Ok wire.I32) (Err BadWireType)))) ≡ Ok w → code ≡ code_of w
  go code w true b c d p q r s e = eqb-true code 0 p ∙ ap code_of (ok_wire wire.Varint w e)
  go code w false true c d p q r s e = eqb-true code 1 q ∙ ap code_of (ok_wire wire.I64 w e)
  go code w false false true d p q r s e = eqb-true code 2 r ∙ ap code_of (ok_wire wire.Len w e)
  go code w false false false true p q r s e = eqb-true code 5 s ∙ ap code_of (ok_wire wire.I32 w e)
  go code w false false false false p q r s e = absurd cc

-- two ways of computing the bytes between two positions have the same result
between_is : (bytes : List ℕ) (at last : ℕ) → at ≤ last → drop at (take last bytes) ≡ between at last bytes
between_is bytes at last le =
    let sum : at + (last - at) ≡ last = omega (arith, le) in
    ap (λ (k : ℕ). drop at (take k bytes)) (sym sum) ∙ drop-take at (last - at) bytes

-- the bytes between two positions are those before a third position between the two, followed by those at and after the third position
between_split : (bytes : List ℕ) (at mid last : ℕ) → at ≤ mid → mid ≤ last → drop at (take last bytes) ≡ drop at (take mid bytes) ++ drop mid (take last bytes)
between_split bytes at mid last low high =
    let width : at + (mid - at) ≡ mid = omega (arith, low) in
    let front : take (mid - at) (drop at (take last bytes)) ≡ drop at (take mid bytes) =
    sym (drop-take at (mid - at) (take last bytes)) ∙ ap (λ (k : ℕ). drop at (take k (take last bytes))) width
    ∙ ap (λ xs. drop at xs) (take-take mid last bytes high) in
    let back : drop (mid - at) (drop at (take last bytes)) ≡ drop mid (take last bytes) = drop-drop (mid - at) at (take last bytes)
    ∙ ap (λ (k : ℕ). drop k (take last bytes)) width in
    sym (take-append-drop (mid - at) (drop at (take last bytes))) ∙ ap (λ xs. xs ++ drop (mid - at) (drop at (take last bytes))) front
    ∙ ap (λ xs. drop at (take mid bytes) ++ xs) back

-- the result `Ok f` for a field, under a name that proofs can use
abbrev ok_field : Field → Result Field WireFault
ok_field f = Ok f

field_is : (f g : Field) → ok_field f ≡ ok_field g → f ≡ g
field_is f g e = cc

-- what holds of a field `f` whose tag ends at position `at`, if the payload is read there
pub record FoundPayload (n : ℕ) (w : Wire) (bytes : List ℕ) (at : ℕ) (f : Field) : Type 0 where
  pub number : f.number ≡ n
  pub wire : f.wire ≡ w
  pub begins : at ≤ f.start
  pub ordered : f.start ≤ f.«end»
  pub inside : f.«end» ≤ length bytes
  pub payload : IsPayload w (drop at (take f.«end» bytes)) f.value (drop f.start (take f.«end» bytes))

fixed_found : (w : Width) (bytes : List ℕ) (at : ℕ) (x : ℕ × ℕ) → at ≤ length bytes → fixed_at w bytes at ≡ Ok x
    → (at ≤ x.1) × (x.1 ≤ length bytes) × IsFixed w (drop at (take x.1 bytes)) x.0
fixed_found w bytes at x le e =
    let g = guard_ok {F = WireFault} (ltb (length (drop at bytes)) (byte_len w)) Truncated
    (from_le_bytes w (take (byte_len w) (drop at bytes)), at + byte_len w) x e in
    let long : byte_len w ≤ length (drop at bytes) = ltb-false _ _ g.0 in
    let value : from_le_bytes w (take (byte_len w) (drop at bytes)) ≡ x.0 = ap (λ (y : ℕ × ℕ). y.0) g.1 in
    let stop : at + byte_len w ≡ x.1 = ap (λ (y : ℕ × ℕ). y.1) g.1 in
    let own : drop at (take x.1 bytes) ≡ take (byte_len w) (drop at bytes) = ap (λ (k : ℕ). drop at (take k bytes)) (sym stop)
    ∙ drop-take at (byte_len w) bytes in (
      omega (arith, stop),
      omega (arith, stop, long, length-drop at bytes, le),
      record {
        size = ap length own ∙ omega (arith, length-take (byte_len w) (drop at bytes), long);
        value = sym value ∙ ap (λ xs. from_le_bytes w xs) (sym own);
      },
    )

spelled_there : (bytes : List ℕ) (at : ℕ) (x : ℕ × ℕ) → AreBytes bytes → at ≤ length bytes → varint_at bytes at ≡ Ok x
    → (at < x.1) × (x.1 ≤ length bytes) × IsVarint (drop at (take x.1 bytes)) x.0
spelled_there bytes at x are le e =
    let h = varint_found bytes at x are le e in
    (h.begins, h.inside, subst (λ (xs : List ℕ). IsVarint xs x.0) (sym (between_is bytes at x.1 (omega (arith, h.begins)))) h.spelled)

payload_found : (n : ℕ) (w : Wire) (bytes : List ℕ) (at : ℕ) (f : Field) → AreBytes bytes → at ≤ length bytes
    → payload_at n w bytes at ≡ Ok f → FoundPayload n w bytes at f
unfolding payload_at
payload_found n wire.Varint bytes at f are le e =
    let v = bind_ok (varint_at bytes at) (λ (v : ℕ × ℕ). Ok (as_field n wire.Varint at v)) f e in
    let h = spelled_there bytes at v.0 are le v.1 in
    subst (FoundPayload n wire.Varint bytes at) (field_is _ f v.2)
    (record { number = refl; wire = refl; begins = omega arith; ordered = omega (arith, h.0); inside = h.1; payload = (refl, h.2) })
payload_found n wire.I64 bytes at f are le e =
    let v = bind_ok (fixed_at w64 bytes at) (λ (v : ℕ × ℕ). Ok (as_field n wire.I64 at v)) f e in
    let h = fixed_found w64 bytes at v.0 le v.1 in
    subst (FoundPayload n wire.I64 bytes at) (field_is _ f v.2)
    (record { number = refl; wire = refl; begins = omega arith; ordered = h.0; inside = h.1; payload = (refl, h.2) })
payload_found n wire.I32 bytes at f are le e =
    let v = bind_ok (fixed_at w32 bytes at) (λ (v : ℕ × ℕ). Ok (as_field n wire.I32 at v)) f e in
    let h = fixed_found w32 bytes at v.0 le v.1 in
    subst (FoundPayload n wire.I32 bytes at) (field_is _ f v.2)
    (record { number = refl; wire = refl; begins = omega arith; ordered = h.0; inside = h.1; payload = (refl, h.2) })
payload_found n wire.Len bytes at f are le e =
    let v = bind_ok (varint_at bytes at) (λ (len : ℕ × ℕ). cond (ltb (length bytes - len.1) len.0) (Err Truncated)
    (Ok (as_field n wire.Len len.1 (len.0, len.1 + len.0)))) f e in
    let g = guard_ok {F = WireFault} (ltb (length bytes - v.0.1) v.0.0) Truncated (as_field n wire.Len v.0.1 (v.0.0, v.0.1 + v.0.0)) f v.2 in
    let room : v.0.0 ≤ length bytes - v.0.1 = ltb-false _ _ g.0 in
    let h = spelled_there bytes at v.0 are le v.1 in
    let size : length (drop v.0.1 (take (v.0.1 + v.0.0) bytes)) ≡ v.0.0 =
    omega (arith, length-drop v.0.1 (take (v.0.1 + v.0.0) bytes), length-take (v.0.1 + v.0.0) bytes, room, h.1) in
    subst (FoundPayload n wire.Len bytes at) g.1
    (record {
      number = refl;
      wire = refl;
      begins = omega (arith, h.0);
      ordered = omega arith;
      inside = omega (arith, room, h.1);
      payload = (drop at (take v.0.1 bytes), between_split bytes at v.0.1 (v.0.1 + v.0.0) (omega (arith, h.0)) (omega arith), h.2, size);
    })

-- what holds of a record that is read at a position: where its payload is, and that its bytes spell it
pub record FoundRecord (bytes : List ℕ) (at : ℕ) (f : Field) : Type 0 where
  pub begins : at < f.start
  pub ordered : f.start ≤ f.«end»
  pub inside : f.«end» ≤ length bytes
  pub spelled : IsRecord (record_at bytes at f)

found_by_parts : (bytes : List ℕ) (at : ℕ) (f : Field) (tag : ℕ × ℕ) (n : ℕ) (w : Wire) → AreBytes bytes → at ≤ length bytes → varint_at bytes at ≡ Ok tag
    → number_of (tag.0 / 8) ≡ Ok n → wire_of (tag.0 % 8) ≡ Ok w → payload_at n w bytes tag.1 ≡ Ok f → FoundRecord bytes at f
found_by_parts bytes at f tag n w are le tag_read number_read wire_read payload_read =
    let there = spelled_there bytes at tag are le tag_read in
    let number = number_ok tag.0 n number_read in
    let p = payload_found n w bytes tag.1 f are there.1 payload_read in
    let named : f.number ≡ tag.0 / 8 = p.number ∙ number.0 in
    let coded : tag.0 % 8 ≡ code_of f.wire = wire_ok (tag.0 % 8) w wire_read ∙ ap code_of (sym p.wire) in
    let value : tag.0 ≡ 8 * f.number + code_of f.wire = omega (arith, named, coded) in
    record {
      begins = omega (arith, there.0, p.begins);
      ordered = p.ordered;
      inside = p.inside;
      spelled = record {
        tag = drop at (take tag.1 bytes);
        behind = drop tag.1 (take f.«end» bytes);
        text = between_split bytes at tag.1 f.«end» (omega (arith, there.0)) (omega (arith, p.begins, p.ordered));
        named = subst IsFieldNumber (sym p.number) number.1;
        tagged = subst (λ (k : ℕ). IsVarint (drop at (take tag.1 bytes)) k) value there.2;
        payload = subst (λ (x : Wire). IsPayload x (drop tag.1 (take f.«end» bytes)) f.value (drop f.start (take f.«end» bytes))) (sym p.wire) p.payload;
      };
    }

-- if a record is read at a position, the bytes there spell the record
pub record_found_at : (bytes : List ℕ) (at : ℕ) (f : Field) → AreBytes bytes → at ≤ length bytes → field_at bytes at ≡ Ok f → FoundRecord bytes at f
unfolding field_at
record_found_at bytes at f are le e =
    let t = bind_ok (varint_at bytes at) (λ (tag : ℕ × ℕ). number_of (tag.0 / 8) >>= λ number. wire_of (tag.0 % 8)
    >>= λ wire. payload_at number wire bytes tag.1) f e in
    let n = bind_ok (number_of (t.0.0 / 8)) (λ number. wire_of (t.0.0 % 8) >>= λ wire. payload_at number wire bytes t.0.1) f t.2 in
    let w = bind_ok (wire_of (t.0.0 % 8)) (λ wire. payload_at n.0 wire bytes t.0.1) f n.2 in
    found_by_parts bytes at f t.0 n.0 w.0 are le t.1 n.1 w.1 w.2

-- if a record is read at the start of the bytes, the bytes there spell the record
pub record_found : (bytes : List ℕ) (f : Field) → AreBytes bytes → field_at bytes 0 ≡ Ok f → FoundRecord bytes 0 f
record_found bytes f are e = record_found_at bytes 0 f are (omega arith) e

-- ---- lists of records

-- all bytes of the records, one record after another
abbrev texts : List Record → List ℕ
texts rs = flat_map (λ r. r.text) rs

spells_some : (xs : List ℕ) (n : ℕ) → Spells xs n → 0 < length xs
spells_some [] n h = absurd h
spells_some (x ∷ xs) n h = omega arith

some_text : (r : Record) → IsRecord r → 0 < length r.text
some_text r h = omega (arith, ap length h.text ∙ length-append h.tag h.behind, spells_some h.tag (8 * r.number + code_of r.wire) h.tagged.spells)

same_lists : (rs others : List Record) → texts rs ≡ texts others → AllByRecursion IsRecord rs → AllByRecursion IsRecord others → rs ≡ others
same_lists [] [] e a b = refl
same_lists [] (o ∷ os) e a b = absurd (omega (arith, ap length e ∙ length-append o.text (texts os), some_text o b.0))
same_lists (r ∷ rs) [] e a b = absurd (omega (arith, sym (length-append r.text (texts rs)) ∙ ap length e, some_text r a.0))
same_lists (r ∷ rs) (o ∷ os) e a b =
    let read : ok_field (placed 0 r) ≡ ok_field (placed 0 o) = sym (record_read r (texts rs) a.0) ∙ ap (λ xs. field_at xs 0) e ∙ record_read o (texts os) b.0 in
    let seen : record_of (r.text ++ texts rs) (placed 0 r) ≡ record_of (o.text ++ texts os) (placed 0 o) =
    ap (λ xs. record_of xs (placed 0 r)) e ∙ ap (λ f. record_of (o.text ++ texts os) f) (field_is (placed 0 r) (placed 0 o) read) in
    let same : r ≡ o = sym (record_kept r (texts rs) a.0) ∙ seen ∙ record_kept o (texts os) b.0 in
    let rest : texts rs ≡ texts os = append_cancel_left r.text (texts rs) (texts os) (e ∙ ap (λ (x : Record). x.text ++ texts os) (sym same)) in
    ap (λ x. x ∷ rs) same ∙ ap (λ xs. o ∷ xs) (same_lists rs os rest a.1 b.1)

-- bytes spell at most one list of records
pub one_list : (bytes : List ℕ) (rs others : List Record) → SpellRecords bytes rs → SpellRecords bytes others → rs ≡ others
one_list bytes rs others a b = same_lists rs others (sym a.whole ∙ b.whole) a.each b.each

-- the empty list of bytes spells no records
pub spelled_none : SpellRecords [] []
spelled_none = record { whole = refl; each = tt }

-- if a record is read at the start, and the bytes after it spell the records `rs`, then all the bytes spell this record followed by `rs`
pub spelled_next : (bytes : List ℕ) (f : Field) (rs : List Record) → AreBytes bytes → field_at bytes 0 ≡ Ok f
    → SpellRecords (drop f.«end» bytes) rs → SpellRecords bytes (record_of bytes f ∷ rs)
spelled_next bytes f rs are e h =
    record {
      whole = sym (take-append-drop f.«end» bytes) ∙ ap (λ xs. take f.«end» bytes ++ xs) h.whole;
      each = ((record_found bytes f are e).spelled, h.each);
    }

-- ---- reading from record to record

ended : (bytes : List ℕ) (at : ℕ) → next_field bytes at ≡ Ok None → at ≡ length bytes
unfolding next_field
ended bytes at e = go at (length bytes) (field_at bytes at) (eqb at (length bytes)) refl e where
  go : (at size : ℕ) (r : Result Field WireFault) (b : Bool) → eqb at size ≡ b
      → cond {A = Result (Option Field) WireFault} b (Ok None) (r >>= λ f. Ok (Some f)) ≡ Ok None → at ≡ size
  go at size r true t e = eqb-true at size t
  go at size (Ok f) false t e = absurd cc
  go at size (Err d) false t e = absurd cc

went : (bytes : List ℕ) (at : ℕ) (f : Field) → next_field bytes at ≡ Ok (Some f) → field_at bytes at ≡ Ok f
unfolding next_field
went bytes at f e = go (field_at bytes at) f (eqb at (length bytes)) e where
  some_is : (f g : Field) → ◌≡◌ {A = Result (Option Field) WireFault} (Ok (Some f)) (Ok (Some g)) → f ≡ g
  some_is f g e = cc

  go : (r : Result Field WireFault) (f : Field) (b : Bool)
      → cond {A = Result (Option Field) WireFault} b (Ok None) (r >>= λ f. Ok (Some f)) ≡ Ok (Some f) → r ≡ Ok f
  go r f true e = absurd cc
  go (Ok g) f false e = ap (λ x. Ok x) (some_is g f e)
  go (Err d) f false e = absurd cc

drop_whole : (xs : List ℕ) (k : ℕ) → k ≡ length xs → drop k xs ≡ []
drop_whole xs k e = go (drop k xs) (omega (arith, length-drop k xs, e)) where
  go : (ys : List ℕ) → length ys ≡ 0 → ys ≡ []
  go [] e = refl
  go (y ∷ ys) e = absurd (omega (arith, e))

-- if reading one record after another reaches the end, the bytes spell the records that are found
walk_spelled : (bytes : List ℕ) (rs : List Record) (at : ℕ) → AreBytes bytes → at ≤ length bytes → Walks bytes at rs → SpellRecords (drop at bytes) rs
walk_spelled bytes [] at are le w = record { whole = drop_whole bytes at (ended bytes at w); each = tt }
walk_spelled bytes (r ∷ rs) at are le w =
    let f = w.0 in
    let found = record_found_at bytes at f are le (went bytes at f w.1) in
    let rest = walk_spelled bytes rs f.«end» are found.inside w.3 in
    let width : at + (f.«end» - at) ≡ f.«end» = omega (arith, found.begins, found.ordered) in
    let front : take (f.«end» - at) (drop at bytes) ≡ drop at (take f.«end» bytes) = sym (between_is bytes at f.«end» (omega (arith, width))) in
    let back : drop (f.«end» - at) (drop at bytes) ≡ texts rs = drop-drop (f.«end» - at) at bytes ∙ ap (λ (k : ℕ). drop k bytes) width ∙ rest.whole in
    let whole : drop at bytes ≡ drop at (take f.«end» bytes) ++ texts rs =
    sym (take-append-drop (f.«end» - at) (drop at bytes)) ∙ ap (λ xs. xs ++ drop (f.«end» - at) (drop at bytes)) front
    ∙ ap (λ xs. drop at (take f.«end» bytes) ++ xs) back in
    subst (λ (x : Record). SpellRecords (drop at bytes) (x ∷ rs)) (sym w.2) (record { whole = whole; each = (found.spelled, rest.each) })

-- reading one record after another finds the records that the bytes spell
spelled_walk : (before : List ℕ) (rs : List Record) → AllByRecursion IsRecord rs → Walks (before ++ texts rs) (length before) rs
unfolding next_field
spelled_walk before [] each =
    let here : eqb (length before) (length (before ++ [])) ≡ true = eq-eqb _ _ (ap length (sym (append-nil before))) in
    rw here refl
spelled_walk before (r ∷ rs) each =
    let bytes = before ++ (r.text ++ texts rs) in
    let longer : eqb (length before) (length bytes) ≡ false =
    ne_eqb _ _ (omega (arith, length-append before (r.text ++ texts rs), length-append r.text (texts rs), some_text r each.0)) in
    let read : field_at bytes (length before) ≡ Ok (placed (length before) r) = record_read_at before r (texts rs) (length before) refl each.0 in
    let kept : record_at bytes (length before) (placed (length before) r) ≡ r = record_kept_at before r (texts rs) (length before) refl each.0 in
    let deep = spelled_walk (before ++ r.text) rs each.1 in
    let there : Walks bytes (length (before ++ r.text)) rs = subst (λ (xs : List ℕ). Walks xs (length (before ++ r.text)) rs)
    (append_assoc before r.text (texts rs)) deep in (
      placed (length before) r,
      rw (longer, read) refl,
      sym kept,
      subst (λ (k : ℕ). Walks bytes k rs) (length-append before r.text) there,
    )

-- reading one record after another reaches the end exactly if the bytes spell the records that are found
pub walk_is : (bytes : List ℕ) (rs : List Record) → AreBytes bytes → Walks bytes 0 rs ↔ SpellRecords bytes rs
walk_is bytes rs are = (
  λ w. walk_spelled bytes rs 0 are (omega arith) w,
  λ h. subst (λ (xs : List ℕ). Walks xs 0 rs) (sym h.whole) (spelled_walk [] rs h.each),
)

-- ---- the bytes that are written for records

written_payload : (w : Wire) (value : ℕ) (payload : List ℕ) → value < 2 ^ 64 → length payload < 2 ^ 64 → (w ≡ wire.I32 → value < 2 ^ 32)
    → IsPayload w (payload_text w value payload) (value_text w value payload) (own_text w value payload)
written_payload wire.Varint value payload small len narrow = (refl, (is_shortest value small).is_one)
written_payload wire.I64 value payload small len narrow = (refl, record { size = refl; value = sym (from_le_bytes-to_le_bytes_8 value small) })
written_payload wire.Len value payload small len narrow = (varint_text (length payload), refl, (is_shortest (length payload) len).is_one, refl)
written_payload wire.I32 value payload small len narrow = (refl, record { size = refl; value = sym (from_le_bytes-to_le_bytes_4 value (narrow refl)) })

tag_small : (number : ℕ) (w : Wire) → number ≤ 536_870_911 → 8 * number + code_of w < 2 ^ 64
tag_small number wire.Varint high = omega arith
tag_small number wire.I64 high = omega arith
tag_small number wire.Len high = omega arith
tag_small number wire.I32 high = omega arith

-- the bytes that are written for a record spell it
pub written_is_record : (number : ℕ) (w : Wire) (value : ℕ) (payload : List ℕ) → IsFieldNumber number → value < 2 ^ 64 → length payload < 2 ^ 64
    → (w ≡ wire.I32 → value < 2 ^ 32) → IsRecord (written_record number w value payload)
written_is_record number w value payload named small len narrow =
    record {
      tag = tag_text number w;
      behind = payload_text w value payload;
      text = refl;
      named = named;
      tagged = (is_shortest (8 * number + code_of w) (tag_small number w named.1)).is_one;
      payload = written_payload w value payload small len narrow;
    }

-- a record is written in as few bytes as can spell it
pub written_is_shortest : (number : ℕ) (w : Wire) (value : ℕ) (payload : List ℕ) → IsFieldNumber number → value < 2 ^ 64 → length payload < 2 ^ 64
    → (w ≡ wire.I32 → value < 2 ^ 32) → AreBytes payload → IsShortestRecord (written_record number w value payload)
written_is_shortest number w value payload named small len narrow are =
    let tag = 8 * number + code_of w in
    record {
      is_one = written_is_record number w value payload named small len narrow;
      bytes = are_bytes-append (tag_text number w) (payload_text w value payload) (is_shortest tag (tag_small number w named.1)).bytes
          (written_bytes w value payload small len are);
      least = λ other other_are h same_number same_wire same_value.
          let both : AreBytes (h.tag ++ h.behind) = subst AreBytes h.text other_are in
          let size : length other.text ≡ length h.tag + length h.behind = ap length h.text ∙ length-append h.tag h.behind in
          let tagged : 8 * other.number + code_of other.wire ≡ tag = ap (λ (k : ℕ). 8 * k + code_of other.wire) same_number
          ∙ ap (λ (x : Wire). 8 * number + code_of x) same_wire in
          let tags = least_spelling 9 tag h.tag (are_bytes-front h.tag h.behind both) (subst (Spells h.tag) tagged h.tagged.spells) in
          let behind : IsPayload w h.behind (value_text w value payload) other.payload =
          subst (λ (x : Wire). IsPayload x h.behind (value_text w value payload) other.payload) same_wire
          (subst (λ (k : ℕ). IsPayload other.wire h.behind k other.payload) same_value h.payload) in
          let payloads = least_payload w value payload h.behind other.payload (are_bytes-back h.tag h.behind both) behind in
          omega (arith, size, tags, payloads, length-append (tag_text number w) (payload_text w value payload));
    }
