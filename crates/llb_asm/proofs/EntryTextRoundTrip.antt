-- What is written of a definition's entries is read as these entries.
use Rattle.std.proofs.Common.{◌≡◌, ℕ, ◌+◌, ◌^◌, ◌<◌, ◌≤◌, Bool, true, false, List, [], ◌∷◌, ◌++◌, length, map, codes, Result, Ok, Err, refl, sym, ap}
use Rattle.std.proofs.Common.{subst, ◌∙◌, arith, append_assoc, length-append}
use Rattle.std.specs.Prelude.{nat_lt, nat_le, if◌then◌else◌}
use Rattle.std.specs.List.{AllByRecursion}
use Rattle.std.proofs.lemmas.Bool.{ltb-false, leb-true, lt-ltb, le-leb, and_from}
use Rattle.std.proofs.lemmas.List.{map-append, map_push, length-map}
use Rattle.std.proofs.lemmas.List.Concat.{flat_map-append}
use Rattle.llb_wire.specs.CallResults.{◌>>=◌}
use Rattle.llb_wire.proofs.RuleComposition.{bind_ok}
use Rattle.llb_wire.specs.Digest.{digest_text}
use Rattle.llb_wire.specs.Hexadecimal.{hex_text}
use Rattle.llb_wire.specs.Spelling.{AreBytes}
use Rattle.llb_wire.specs.Records.{Record}
use Rattle.llb_ops.specs.declared.fault.OpFault.{OpFault}
use Rattle.llb_ops.specs.declared.fault.OpFault.TheVariants.{OverLimit as EntriesOverLimit}
use Rattle.llb_ops.specs.declared.op.Op.{Op}
use Rattle.llb_ops.specs.declared.table.MessageName.TheVariants as named
use Rattle.llb_ops.specs.Limits.{definition_limit, entries_limit, entry_limit}
use Rattle.llb_ops.specs.Records.{records_from, all, payloads}
use Rattle.llb_ops.specs.Writing.{set_bytes, each_field, op_bytes}
use Rattle.llb_ops.specs.Definition.{definition_shape, definition_of, definition_bytes, entries_fit, are_short}
use Rattle.llb_ops.specs.CanonicalFields.{Fields, bytes_of, without_empty, HasFields}
use Rattle.llb_asm.specs.declared.entry.Begun.TheVariants.{Raw, Structured}
use Rattle.llb_asm.specs.EntryLine.{inside}
use Rattle.llb_asm.specs.TextGrammar.{record_length, is_within, Items, records_of, AreItems, begun_in, entry_in, labels_of, outermost, closing}
use Rattle.llb_asm.specs.TextGrammar.{Entries, none, raw as by_bytes, op as by_items, text_of, entries_of, AreClosed, AreEntries}
use Rattle.llb_asm.specs.DisassembledText.{opening, field_lines, Form, structured, raw, HasForm, entry_lines, Formed, HaveForms, plain_lines}
use Rattle.llb_asm.specs.DisassembledText.{ReadsBack}
use Rattle.llb_asm.proofs.OneLineEntries.{kept_plain}
use Rattle.llb_asm.proofs.ValueRoundTrip.{bytes_back}
use Rattle.llb_asm.proofs.OneLineValues.{bytes_solid}
use Rattle.llb_asm.proofs.PrintedLengths.{length_with}
use Rattle.llb_asm.proofs.TableRowNames.{passes_all, parted_word, word_utf8}
use Rattle.llb_asm.proofs.SizeMonotonicity.{within_below, HasRoom}
use Rattle.llb_asm.proofs.DroppedEmptyFields.{lean_fields, hold_bytes, lean_bytes}
use Rattle.llb_asm.proofs.FieldLinesReadBack.{items_of, items_whole, items_records, items_lines, items_fit}

-- ---- the limits of a definition

record IsLimited (entries : List (List ℕ)) : Type 0 where
  few : length entries ≤ entries_limit
  short : AllByRecursion (λ e. length e ≤ entry_limit) entries
  small : length (definition_bytes entries) ≤ definition_limit

not_refused : {A F : Type 0} (b : Bool) (d : F) (r : Result A F) (x : A) → (if b then Err d else r) ≡ Ok x → (b ≡ false) × (r ≡ Ok x)
not_refused true d r x e = absurd cc
not_refused false d r x e = (refl, e)

they_are : (b : Bool) (xs ys : List (List ℕ)) → ◌≡◌ {A = Result (List (List ℕ)) OpFault} (if b then Ok xs else Err EntriesOverLimit) (Ok ys) → (b ≡ true)
    × (xs ≡ ys)
they_are true xs ys e = (refl, cc)
they_are false xs ys e = absurd cc

each_short : (es : List (List ℕ)) → AllByRecursion (λ e. nat_le (length e) entry_limit ≡ true) es → AllByRecursion (λ e. length e ≤ entry_limit) es
each_short [] all = tt
each_short (e ∷ es) (here, all) = (leb-true (length e) entry_limit here, each_short es all)

fit_parts : (xs ys : List (List ℕ)) → entries_fit xs ≡ Ok ys → (length ys ≤ entries_limit) × AllByRecursion (λ e. length e ≤ entry_limit) ys
fit_parts xs ys e =
    let few = not_refused (nat_lt entries_limit (length xs)) EntriesOverLimit (if are_short xs then Ok xs else Err EntriesOverLimit) ys e in
    let short = they_are (are_short xs) xs ys few.1 in
    let all = each_short xs (passes_all (λ e. nat_le (length e) entry_limit) xs short.0) in
    let count = ltb-false entries_limit (length xs) few.0 in
    subst (λ es. (length es ≤ entries_limit) × AllByRecursion (λ e. length e ≤ entry_limit) es) short.1 (count, all)

limited : (entries : List (List ℕ)) → definition_of (definition_bytes entries) ≡ Ok entries → IsLimited entries
unfolding definition_of
limited entries e =
    let bytes = definition_bytes entries in
    let read = records_from definition_shape 0 bytes in
    let fits = λ (rs : List Record). entries_fit (payloads (all 1 rs)) in
    let small = not_refused (nat_lt definition_limit (length bytes)) EntriesOverLimit (read >>= fits) entries e in
    let rs = bind_ok read fits entries small.1 in
    let parts = fit_parts (payloads (all 1 rs.0)) entries rs.2 in
    record { few = parts.0; short = parts.1; small = ltb-false definition_limit (length bytes) small.0 }

front_shorter : (a b : List (List ℕ)) → length (definition_bytes a) ≤ length (definition_bytes (a ++ b))
unfolding each_field
front_shorter a b =
    let both : definition_bytes (a ++ b) ≡ definition_bytes a ++ definition_bytes b = flat_map-append (λ e. set_bytes 1 e) a b in
    omega (arith, ap length both, length-append (definition_bytes a) (definition_bytes b))

-- an entry among others is within the limits
entry_within : (earlier : List (List ℕ)) (entry : List ℕ) (rest : List (List ℕ)) → length entry ≤ entry_limit
    → length (definition_bytes (earlier ++ (entry ∷ rest))) ≤ definition_limit → is_within earlier (length entry) ≡ true
entry_within earlier entry rest short small =
    let grouped = ap (λ es. length (definition_bytes es)) (append_assoc earlier (entry ∷ []) rest) in
    let shorter = front_shorter (earlier ++ (entry ∷ [])) rest in
    let with_it = length_with earlier entry in
    and_from (nat_le (length entry) entry_limit) (nat_le (length (definition_bytes earlier) + record_length 1 (length entry)) definition_limit)
    (le-leb (length entry) entry_limit short)
    (le-leb (length (definition_bytes earlier) + record_length 1 (length entry)) definition_limit (omega (arith, grouped, shorter, with_it, small)))

-- ---- the parts of entries

abbrev entry_of : Formed → List ℕ
entry_of x = x.0

abbrev op_line : List ℕ
op_line = codes "op" ++ (32 ∷ opening)

abbrev raw_line : List ℕ → List ℕ
raw_line entry = codes "raw" ++ (32 ∷ hex_text entry)

-- the fields that are written of an op
abbrev fields_in : (op : Op) → HasFields op → Fields
fields_in op has = without_empty has.fields

abbrev items_in : List (List ℕ) → (op : Op) → HasFields op → Items
items_in earlier op has = items_of (labels_of earlier) (inside named.Op) (fields_in op has)

abbrev part_of : List (List ℕ) → List ℕ → Form → Entries → Entries
part_of earlier entry (structured op has) rest = by_items op_line (items_in earlier op has) entry rest
part_of earlier entry raw rest = by_bytes (raw_line entry) entry rest

abbrev parts_of : List (List ℕ) → List Formed → Entries
parts_of earlier [] = none
parts_of earlier (x ∷ xs) = part_of earlier x.0 x.1 (parts_of (earlier ++ x.0 ∷ []) xs)

part_closed : (earlier : List (List ℕ)) (entry : List ℕ) (form : Form) (rest : Entries) → AreClosed rest → AreClosed (part_of earlier entry form rest)
part_closed earlier entry (structured op has) rest closed = closed
part_closed earlier entry raw rest closed = closed

parts_closed : (earlier : List (List ℕ)) (xs : List Formed) → AreClosed (parts_of earlier xs)
parts_closed earlier [] = tt
parts_closed earlier (x ∷ xs) = part_closed earlier x.0 x.1 (parts_of (earlier ++ x.0 ∷ []) xs) (parts_closed (earlier ++ x.0 ∷ []) xs)

part_entry : (earlier : List (List ℕ)) (entry : List ℕ) (form : Form) (rest : Entries) → entries_of (part_of earlier entry form rest) ≡ entry ∷ entries_of rest
part_entry earlier entry (structured op has) rest = refl
part_entry earlier entry raw rest = refl

parts_entries : (earlier : List (List ℕ)) (xs : List Formed) → entries_of (parts_of earlier xs) ≡ map entry_of xs
parts_entries earlier [] = refl
parts_entries earlier (x ∷ xs) =
    part_entry earlier x.0 x.1 (parts_of (earlier ++ x.0 ∷ []) xs) ∙ ap (λ es. x.0 ∷ es) (parts_entries (earlier ++ x.0 ∷ []) xs)

part_text : (earlier : List (List ℕ)) (entry : List ℕ) (form : Form) (rest : Entries)
    → text_of (part_of earlier entry form rest) ≡ map (λ l. l.1) (entry_lines (labels_of earlier) entry form) ++ text_of rest
part_text earlier entry raw rest = refl
part_text earlier entry (structured op has) rest =
    let fs = fields_in op has in
    let lines = field_lines (labels_of earlier) 1 fs in
    ap (λ t. op_line ∷ t)
    (ap (λ t. t ++ (closing ∷ text_of rest)) (items_lines (labels_of earlier) (inside named.Op) 1 fs)
    ∙ sym (append_assoc (map (λ l. l.1) lines) (closing ∷ []) (text_of rest))
    ∙ ap (λ t. t ++ text_of rest) (sym (map-append (λ l. l.1) lines ((0, closing) ∷ []))))

parts_text : (earlier : List (List ℕ)) (xs : List Formed) → text_of (parts_of earlier xs) ≡ map (λ l. l.1) (plain_lines (labels_of earlier) xs)
parts_text earlier [] = refl
parts_text earlier (x ∷ xs) =
    let front = entry_lines (labels_of earlier) x.0 x.1 in
    part_text earlier x.0 x.1 (parts_of (earlier ++ x.0 ∷ []) xs)
    ∙ ap (λ t. map (λ l. l.1) front ++ t) (parts_text (earlier ++ x.0 ∷ []) xs)
    ∙ ap (λ ls. map (λ l. l.1) front ++ map (λ l. l.1) (plain_lines ls xs)) (map_push digest_text earlier x.0)
    ∙ sym (map-append (λ l. l.1) front (plain_lines (labels_of earlier ++ digest_text x.0 ∷ []) xs))

-- ---- an entry has its place

module _ (earlier : List (List ℕ)) (entry : List ℕ) (few : length earlier < entries_limit) (room : is_within earlier (length entry) ≡ true)
    (bytes : AreBytes entry) where
  raw_begun : begun_in earlier (raw_line entry) ≡ Ok (Raw entry)
  unfolding begun_in
  raw_begun =
      rw (
        parted_word (codes "raw") (hex_text entry) refl (bytes_solid entry bytes).utf8,
        bytes_back entry bytes,
        lt-ltb
            (length earlier) entries_limit few,
        room,
      ) refl

  op_begun : begun_in earlier op_line ≡ Ok Structured
  unfolding begun_in
  op_begun =
      rw (
        parted_word (codes "op") opening refl (word_utf8 opening refl),
        lt-ltb (length earlier) entries_limit few,
        within_below earlier 0 (length entry) (omega arith) room,
      ) refl

  module _ (op : Op) (has : HasFields op) (same : op_bytes op ≡ entry) where
    lean_short : length (bytes_of (fields_in op has)) ≤ length entry
    lean_short = let le = has.shorter in omega (arith, le, ap length same)

    op_fits : AreItems (labels_of earlier) (outermost earlier) (items_in earlier op has)
    op_fits =
        let long : length (labels_of earlier) ≡ length earlier = length-map earlier digest_text in
        let small : length (labels_of earlier) < 2 ^ 64 = omega (arith, long) in
        let held = hold_bytes has.fields (subst AreBytes (sym same ∙ has.written) bytes) in
        let has_room : HasRoom (outermost earlier) (length (bytes_of (fields_in op has))) =
        λ k below. within_below earlier k (length entry) (omega (arith, below, lean_short)) room in
        items_fit (labels_of earlier) small (outermost earlier) (fields_in op has) (lean_fields named.Op 0 false has.fields has.are) has.few refl
        (lean_bytes has.fields held) has_room

    op_read : length entry ≤ entry_limit → entry_in earlier (records_of (items_in earlier op has)) ≡ Ok entry
    unfolding entry_in
    op_read short =
        let read = has.read (omega (arith, lean_short, short)) in
        let room_again : is_within earlier (length (op_bytes op)) ≡ true = ap (λ e. is_within earlier (length e)) same ∙ room in
        ap (entry_in earlier) (items_records (labels_of earlier) (inside named.Op) (fields_in op has))
        ∙ rw (read, room_again) (ap (λ e. Ok e) same)

  part_are : (form : Form) (rest : Entries) → HasForm entry form → length entry ≤ entry_limit → AreEntries (earlier ++ entry ∷ []) rest
      → AreEntries earlier (part_of earlier entry form rest)
  part_are raw rest is short are = (raw_begun, are)
  part_are (structured op has) rest is short are = (
    op_begun,
    op_fits op has is.1,
    items_whole (labels_of earlier) (inside named.Op) (fields_in op has),
    op_read op has is.1 short,
    are,
  )

-- ---- entries have their places

parts_are : (earlier : List (List ℕ)) (xs : List Formed) → AllByRecursion AreBytes (map entry_of xs) → HaveForms HasForm xs
    → length earlier + length xs ≤ entries_limit → AllByRecursion (λ e. length e ≤ entry_limit) (map entry_of xs)
    → length (definition_bytes (earlier ++ map entry_of xs)) ≤ definition_limit → AreEntries earlier (parts_of earlier xs)
parts_are earlier [] bytes forms count short small = tt
parts_are earlier (x ∷ xs) (here, bytes) (form, forms) count (short, shorts) small =
    let es = map entry_of xs in
    let room = entry_within earlier x.0 es short small in
    let grouped = append_assoc earlier (x.0 ∷ []) es in
    part_are earlier x.0 (omega (arith, count)) room here x.1 (parts_of (earlier ++ x.0 ∷ []) xs) form short
    (parts_are (earlier ++ x.0 ∷ []) xs bytes forms (omega (arith, count, length-append earlier (x.0 ∷ []))) shorts
    (subst (λ l. length (definition_bytes l) ≤ definition_limit) (sym grouped) small))

pub reads_back : (entries : List (List ℕ)) → AllByRecursion AreBytes entries → ReadsBack entries
reads_back entries bytes is xs formed =
    let same = formed.same in
    let limits = limited entries is in
    let long : length (map entry_of xs) ≡ length xs = length-map xs entry_of in
    let count : 0 + length xs ≤ entries_limit = omega (arith, limits.few, ap length same, long) in
    record {
      parts = parts_of [] xs;
      are = parts_are [] xs (subst (λ es. AllByRecursion AreBytes es) (sym same) bytes) formed.forms count
          (subst (λ es. AllByRecursion (λ e. length e ≤ entry_limit) es) (sym same) limits.short)
          (subst (λ es. length (definition_bytes es) ≤ definition_limit) (sym same) limits.small);
      closed = parts_closed [] xs;
      text = kept_plain entries bytes (omega (arith, limits.few)) xs formed ∙ sym (parts_text [] xs);
      same = sym same ∙ sym (parts_entries [] xs);
    }
