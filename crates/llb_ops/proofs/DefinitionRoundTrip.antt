-- The entries that the bytes of a definition have are read again from their canonical bytes, which are no longer.
use Rattle.std.proofs.Common.{◌≡◌, ℕ, ◌+◌, ◌<◌, ◌≤◌, ◌^◌, Bool, true, false, eqb, List, [], ◌∷◌, length, Result, Ok, refl, sym, ap, subst, ◌∙◌, arith}
use Rattle.std.specs.Prelude.{nat_lt}
use Rattle.std.specs.List.{AllByRecursion}
use Rattle.std.proofs.lemmas.Bool.{ltb-false, eqb-true}
use Rattle.std.proofs.lemmas.List.{length-append}
use Rattle.llb_wire.specs.declared.field.Wire.{Wire}
use Rattle.llb_wire.specs.declared.field.Wire.TheVariants as wire
use Rattle.llb_wire.specs.CallResults.{◌>>=◌}
use Rattle.llb_wire.proofs.RuleComposition.{bind_ok}
use Rattle.llb_wire.specs.Spelling.{AreBytes}
use Rattle.llb_wire.specs.Records.{Record, IsPayload, IsRecord, SpellRecords}
use Rattle.llb_wire.proofs.Varints.{are_bytes-front, are_bytes-back}
use Rattle.llb_wire.proofs.SpelledRecords.{written_is_shortest}
use Rattle.llb_ops.specs.declared.fault.OpFault.{OpFault}
use Rattle.llb_ops.specs.Limits.{definition_limit}
use Rattle.llb_ops.specs.ReadWriteLaws.{AreReadAgain}
use Rattle.llb_ops.specs.Records.{form_of, wire_fits, records_from, all, payloads}
use Rattle.llb_ops.specs.Writing.{set_bytes, each_field}
use Rattle.llb_ops.specs.Definition.{definition_shape, entries_in, entries_fit, definition_bytes}
use Rattle.llb_ops.proofs.RecordRoundTrip.{FitsShape, parts_again, spelled}
use Rattle.llb_ops.proofs.RecordsReadBack.{records_fit}
use Rattle.llb_ops.proofs.RecordGrammar.{records_found}
use Rattle.llb_ops.proofs.FieldRoundTrip.{IsShort, all_short, ok_is}
use Rattle.llb_ops.proofs.FieldKindRoundTrips.{bytes_written, some_strings, strings_own, strings_spelled, strings_read, same_number}
use Rattle.llb_ops.proofs.EntryCounting.{by_entries, is_short, are_in, still_fit}

-- ---- the canonical bytes of the entries are no more than those of the records

bytes_of : (w : Wire) (behind payload : List ℕ) (value : ℕ) → w ≡ wire.Len → IsPayload w behind value payload → AreBytes behind
    → (value ≡ length payload) × (length payload < 2 ^ 64) × AreBytes payload
bytes_of w behind payload value is h are =
    let len : IsPayload wire.Len behind value payload = subst (λ (x : Wire). IsPayload x behind value payload) is h in
    (sym len.3, omega (arith, len.3, len.2.small), are_bytes-back len.0 payload (subst AreBytes len.1 are))

-- the record of an entry has at least as many bytes as the canonical spelling of the entry
entry_fits : (r : Record) → IsRecord r → AreBytes r.text → r.number ≡ 1 → r.wire ≡ wire.Len → length (set_bytes 1 r.payload) ≤ length r.text
unfolding set_bytes
entry_fits r h are number len =
    let p = bytes_of r.wire h.behind r.payload r.value len h.payload (are_bytes-back h.tag h.behind (subst AreBytes h.text are)) in
    let least = written_is_shortest 1 wire.Len 0 r.payload (omega arith, omega arith) (omega arith) p.1 (λ e. absurd cc) p.2 in
    least.least r are h number len p.0

-- ---- a whole definition

is_len : (w : Wire) → wire_fits (form_of definition_shape 1) w ≡ true → w ≡ wire.Len
is_len wire.Varint e = absurd cc
is_len wire.I64 e = absurd cc
is_len wire.Len e = refl
is_len wire.I32 e = absurd cc

-- the canonical bytes of the entries among records
abbrev canon : List Record → List ℕ
canon rs = each_field 1 (payloads (all 1 rs))

canon_more : (r : Record) (rs : List Record) (last left : ℕ) (b : Bool) → eqb r.number 1 ≡ b
    → (eqb r.number 1 ≡ true → length (set_bytes 1 r.payload) ≤ last) → length (canon rs) ≤ left → length (canon (r ∷ rs)) ≤ last + left
unfolding each_field
canon_more r rs last left true e fits rest = rw e (omega (arith, fits e, rest, length-append (set_bytes 1 r.payload) (canon rs)))
canon_more r rs last left false e fits rest = rw e (omega (arith, rest))

no_longer : (rs : List Record) → AllByRecursion IsRecord rs → AllByRecursion (FitsShape definition_shape) rs → AreBytes (spelled rs)
    → length (canon rs) ≤ length (spelled rs)
unfolding each_field
no_longer [] each fits are = omega arith
no_longer (r ∷ rs) each fits are =
    let front = are_bytes-front r.text (spelled rs) are in
    let rest = no_longer rs each.1 fits.1 (are_bytes-back r.text (spelled rs) are) in
    let one = canon_more r rs (length r.text) (length (spelled rs)) (eqb r.number 1) refl
    (λ is. entry_fits r each.0 front (eqb-true r.number 1 is)
    (is_len r.wire (subst (λ (n : ℕ). wire_fits (form_of definition_shape n) r.wire ≡ true) (eqb-true r.number 1 is) fits.0.wire))) rest in
    omega (arith, one, length-append r.text (spelled rs))

strings_fit : (es : List (List ℕ)) → AllByRecursion IsShort (some_strings 1 es) → AllByRecursion (FitsShape definition_shape) (some_strings 1 es)
strings_fit [] h = tt
strings_fit (e ∷ es) h = ((bytes_written definition_shape 1 e refl refl refl h.0).fits, strings_fit es h.1)

-- entries that are not too many bytes are read again
entries_again : (es : List (List ℕ)) → length (definition_bytes es) < 2 ^ 64 → entries_in (definition_bytes es) ≡ Ok es
unfolding entries_in
entries_again es small =
    let text = strings_spelled 1 es in
    let short = all_short (some_strings 1 es) (subst (λ (xs : List ℕ). length xs < 2 ^ 64) (sym text) small) in
    let again = parts_again definition_shape (some_strings 1 es) (strings_fit es short) in
    let only : all 1 (some_strings 1 es) ≡ some_strings 1 es = same_number 1 (some_strings 1 es) (strings_own 1 es) in
    ap (λ (xs : List ℕ). records_from definition_shape 0 xs >>= λ rs. Ok (payloads (all 1 rs))) (sym text)
    ∙ ap (λ (r : Result (List Record) OpFault). r >>= λ rs. Ok (payloads (all 1 rs))) again
    ∙ ap (λ (rs : List Record). Ok (payloads rs)) only ∙ ap (λ (xs : List (List ℕ)). Ok xs) (strings_read 1 es)

found_in : (bytes : List ℕ) (es : List (List ℕ)) → entries_in bytes ≡ Ok es → (rs : List Record)
    × (records_from definition_shape 0 bytes ≡ Ok rs) × (payloads (all 1 rs) ≡ es)
unfolding entries_in
found_in bytes es e =
    let rs = bind_ok (records_from definition_shape 0 bytes) (λ rs. Ok (payloads (all 1 rs))) es e in
    (rs.0, rs.1, ok_is (payloads (all 1 rs.0)) es rs.2)

-- the entries that a definition has are those of their canonical bytes
pub definition_returns : (es : List (List ℕ)) → AreReadAgain es
definition_returns es bytes are e =
    let few : length bytes ≤ definition_limit = ltb-false definition_limit (length bytes) (is_short bytes es (nat_lt definition_limit (length bytes)) refl e) in
    let rs = found_in bytes es (are_in bytes es e) in
    let found : SpellRecords bytes rs.0 = records_found definition_shape 0 bytes rs.0 are rs.1 in
    let fits = records_fit definition_shape 0 bytes rs.0 rs.1 in
    let short : length (each_field 1 (payloads (all 1 rs.0))) ≤ length bytes =
    (let h = no_longer rs.0 found.each fits (subst AreBytes found.whole are) in omega (arith, h, ap length found.whole)) in
    let len : length (definition_bytes es) ≤ length bytes = subst (λ (xs : List (List ℕ)). length (each_field 1 xs) ≤ length bytes) rs.2 short in
    let fit : length (definition_bytes es) ≤ definition_limit = omega (arith, len, few) in
    by_entries (definition_bytes es) fit ∙ ap (λ r. r >>= entries_fit) (entries_again es (omega (arith, fit))) ∙ still_fit bytes es e
