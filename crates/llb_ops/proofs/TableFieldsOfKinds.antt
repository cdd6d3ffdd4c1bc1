-- The kinds of fields, each with the fields by the table that its bytes are; and a message that has fields by the table.
use Rattle.std.proofs.Common.{◌≡◌, ℕ, suc, ◌≤◌, Bool, true, false, eqb, List, [], ◌∷◌, ◌++◌}
use Rattle.std.proofs.Common.{length, Option, Some, None, refl, sym, ap, subst, ◌∙◌, Result, Ok, arith}
use Rattle.std.specs.Prelude.{unwrap_or, not, ◌||◌}
use Rattle.std.specs.List.{AllByRecursion}
use Rattle.std.proofs.lemmas.Bool.{ne_eqb}
use Rattle.std.proofs.lemmas.List.{append-nil, map-append}
use Rattle.std.proofs.lemmas.List.Concat.{flat_map-append}
use Rattle.llb_wire.specs.CallResults.{◌>>=◌}
use Rattle.llb_wire.proofs.RuleComposition.{bind_ok}
use Rattle.llb_wire.specs.declared.field.Wire.TheVariants as wire
use Rattle.llb_wire.specs.Records.{Record}
use Rattle.llb_ops.specs.declared.fault.OpFault.{OpFault}
use Rattle.llb_ops.specs.declared.payloads_and_limits.Form.TheVariants as form
use Rattle.llb_ops.specs.declared.table.MessageName.{MessageName}
use Rattle.llb_ops.specs.declared.table.FieldKind.TheVariants.{Message, Int64, Int32, Bool as Flag}
use Rattle.llb_ops.specs.Table.{Row, once, rows_of, by_number, shape_of}
use Rattle.llb_ops.specs.Records.{Shape, int64, int32, flag, chosen, one_of, form_of, wire_fits, text_ok, all, number, payload, payloads}
use Rattle.llb_ops.specs.Records.{one, each, parts, unnamed}
use Rattle.llb_ops.specs.Writing.{bit, set_number, set_bytes}
use Rattle.llb_ops.specs.CanonicalFields.{extra, bytes, may_follow, IsNext, may_be_empty, IsNumberOf, IsBytesOf}
use Rattle.llb_ops.proofs.RecordRoundTrip.{bytes_part, number_part, spelled}
use Rattle.llb_ops.proofs.TextValidity.{last_payload}
use Rattle.llb_ops.proofs.NumberRoundTrip.{Recodes, from_signed, int64_recodes, int32_recodes, flag_recodes}
use Rattle.llb_ops.proofs.RecordsByFieldNumber.{All-map, All-filter, filter_passes, apart, extras_of, and_both}
use Rattle.llb_ops.proofs.FieldRoundTrip.{IsGood, FieldOf, Returns, end, both, pair_parts}
use Rattle.llb_ops.proofs.FieldRoundTrip.{message_run, message_read, message_parts, run_parts, parts_good, good_again, ok_of, ok_is}
use Rattle.llb_ops.proofs.FieldKindRoundTrips.{IsOf, of_all, is_number, HoldsBytes, a_number, some_bytes, text_of, numeric, string, set_string, message}
use Rattle.llb_ops.proofs.FieldKindRoundTrips.{messages}
use Rattle.llb_ops.proofs.FieldKindRoundTrips.{strings, strings_own, a_message, some_messages, messages_own, some_strings, IsRead, each_read, one_from}
use Rattle.llb_ops.proofs.OneofRoundTrip.{a_member, member_from}
use Rattle.llb_ops.proofs.FieldOccurrences.{NoneOften, numbered, none_often, none_repeated, none_of_both}
use Rattle.llb_ops.proofs.LeadingTableFields.{From, IsMessage, Tells, AtMost, tells_nothing, tells_left_out, tells_then, tells_number, tells_bytes}
use Rattle.llb_ops.proofs.LeadingTableFields.{tells_message}

-- for each message that is read: its canonical bytes, and the bytes `lean` without empty keys and values of entries, are as the table says
abbrev pub HasFrom : {M : Type 0} → MessageName → (List ℕ → Result M OpFault) → (M → List ℕ) → (M → List ℕ) → Type 0
HasFrom {M} name read write lean = (bytes : List ℕ) (m : M) → read bytes ≡ Ok m → IsMessage name (write m) (lean m)

abbrev pub items_ok : List (List ℕ) → Result (List (List ℕ)) OpFault
items_ok items = Ok items

-- records (`Leads`), or one record (`LeadsBy`), that lead from one place among the fields to another
abbrev pub Leads : MessageName → ℕ → Bool → ℕ → Bool → List Record → List Record → Type 0
Leads m last set next then_set xs lean = Tells m last set next then_set (numbered xs) (spelled xs) (spelled lean)

abbrev pub LeadsBy : MessageName → ℕ → Bool → ℕ → Bool → Record → Record → Type 0
LeadsBy m last set next then_set x lean = Tells m last set next then_set (x.number ∷ []) x.text lean.text

-- a field of a message, or several, that lead from one place among the fields to another; `lean` is written without empty keys and values
pub record Told (m : MessageName) (W A : Type 0) (last : ℕ) (set : Bool) (next : ℕ) (then_set : Bool) : Type 0 where
  pub field : FieldOf (shape_of m) W A
  pub lean : FieldOf (shape_of m) W A
  pub tells : (rs : List Record) (a : A) → AllByRecursion (IsGood (shape_of m)) rs → field.read rs ≡ Ok a
      → Leads m last set next then_set (field.write a) (lean.write a)
  pub few : (rs : List Record) (a : A) → AllByRecursion (IsGood (shape_of m)) rs → field.read rs ≡ Ok a → field.within rs ≡ true
      → NoneOften (numbered (field.write a))

abbrev pub next_is : {m : MessageName} {last : ℕ} {set : Bool} {row : Row} → by_number row.1.number (rows_of m) ≡ Some row
    → may_follow last set row.1 ≡ true → IsNext m last set row
next_is known follows = record { known = known; follows = follows }

-- ---- none, and one after the other

pub tells_up_to_here : (m : MessageName) (last : ℕ) (set : Bool) → Tells m last set last set [] [] []
tells_up_to_here m last true = tells_nothing m last last true true (omega arith) refl
tells_up_to_here m last false = tells_nothing m last last false false (omega arith) refl

abbrev pub told_end : (m : MessageName) {W : Type 0} (last : ℕ) (set : Bool) → Told m W (Unit {0}) last set last set
told_end m last set = record {
  field = end;
  lean = end;
  tells = λ rs a good e. tells_up_to_here m last set;
  few = λ rs a good e w. none_often [] (omega arith);
}

pub tells_pair : (m : MessageName) (a b c : ℕ) (s t u : Bool) (xs ys xs_lean ys_lean : List Record) → Leads m a s b t xs xs_lean
    → Leads m b t c u ys ys_lean
    → Leads m a s c u (xs ++ ys) (xs_lean ++ ys_lean)
tells_pair m a b c s t u xs ys xs_lean ys_lean first second =
    subst (λ (ns : List ℕ). Tells m a s c u ns (spelled (xs ++ ys)) (spelled (xs_lean ++ ys_lean))) (sym (map-append (λ r. r.number) xs ys))
    (subst (λ (f : List ℕ). Tells m a s c u (numbered xs ++ numbered ys) f (spelled (xs_lean ++ ys_lean))) (sym (flat_map-append (λ r. r.text) xs ys))
    (subst (λ (f : List ℕ). Tells m a s c u (numbered xs ++ numbered ys) (spelled xs ++ spelled ys) f) (sym (flat_map-append (λ r. r.text) xs_lean ys_lean))
    (tells_then first second)))

abbrev pub told_both : {m : MessageName} {W A B : Type 0} {a b c : ℕ} {s t u : Bool} (x : Told m W A a s b t) (y : Told m W B b t c u)
    → apart x.field.ns y.field.ns ≡ true → apart x.lean.ns y.lean.ns ≡ true → Told m W (A × B) a s c u
told_both {m} {W} {A} {B} {a} {b} {c} {s} {t} {u} x y e d = record {
  field = both x.field y.field e;
  lean = both x.lean y.lean d;
  tells = λ rs p good h.
      let k = pair_parts x.field.read y.field.read rs p h in
      tells_pair m a b c s t u (x.field.write p.0) (y.field.write p.1) (x.lean.write p.0) (y.lean.write p.1) (x.tells rs p.0 good k.0)
      (y.tells rs p.1 good k.1);
  few = λ rs p good h w.
      let k = pair_parts x.field.read y.field.read rs p h in
      let v = and_both (x.field.within rs) (y.field.within rs) w in
      none_of_both x.field.ns y.field.ns (x.field.write p.0) (y.field.write p.1) e (x.field.own p.0) (y.field.own p.1)
      (x.few rs p.0 good k.0 v.0) (y.few rs p.1 good k.1 v.1);
}

-- ---- numbers

pub tells_a_number : (m : MessageName) (last : ℕ) (set : Bool) (row : Row) (v : ℕ) (b : Bool) → eqb v 0 ≡ b → IsNext m last set row → IsNumberOf row.1.kind v
    → Leads m last set row.1.number (set || row.1.member) (a_number row.1.number v) (a_number row.1.number v)
unfolding set_number
tells_a_number m last set row v true e next fits = rw e (tells_left_out m last set row next)
tells_a_number m last set row v false e next fits =
    rw (e, append-nil (number_part row.1.number v).text) (tells_number m last set row v next fits (rw e refl))

pub few_number : (n v : ℕ) → NoneOften (numbered (a_number n v))
few_number n v = go (eqb v 0) refl where
  go : (b : Bool) → eqb v 0 ≡ b → NoneOften (numbered (a_number n v))
  go true e = rw e (none_often [] (omega arith))
  go false e = rw e (none_often (number_part n v ∷ []) (omega arith))

abbrev pub told_number : (m : MessageName) {W A : Type 0} (last : ℕ) (set : Bool) (row : Row) (decode : ℕ → A) (encode : A → ℕ) → Recodes decode encode
    → ((v : ℕ) → IsNumberOf row.1.kind (encode (decode v)))
    → IsNext m last set row → is_number row.1.number ≡ true → form_of (shape_of m) row.1.number ≡ Some form.Number
    → Told m W A last set row.1.number (set || row.1.member)
told_number m last set row decode encode code fits next range named = record {
  field = numeric row.1.number decode encode code range named;
  lean = numeric row.1.number decode encode code range named;
  tells = λ rs a good e.
      let is = ok_is (decode (number (all row.1.number rs))) a e in
      tells_a_number m last set row (encode a) (eqb (encode a) 0) refl next
      (subst (λ x. IsNumberOf row.1.kind (encode x)) is (fits (number (all row.1.number rs))));
  few = λ rs a good e w. few_number row.1.number (encode a);
}

-- ---- texts and byte strings

-- one of two tests holds where the second does
pub or_true : (b c : Bool) → c ≡ true → b || c ≡ true
or_true true c e = refl
or_true false c e = e

some_is_not_empty : (b : ℕ) (held : List ℕ) (may : Bool) → not (eqb (length (b ∷ held)) 0) || may ≡ true
some_is_not_empty b held may = let e : eqb (suc (length held)) 0 ≡ false = ne_eqb _ _ (omega arith) in rw e refl

pub few_bytes : (n : ℕ) (bytes : List ℕ) → NoneOften (numbered (some_bytes n bytes))
few_bytes n [] = none_often [] (omega arith)
few_bytes n (b ∷ held) =
    let e : eqb (suc (length held)) 0 ≡ false = ne_eqb _ _ (omega arith) in
    rw e (none_often (bytes_part n (b ∷ held) ∷ []) (omega arith))

pub tells_some_bytes : (m : MessageName) (last : ℕ) (set : Bool) (row : Row) (held : List ℕ) → IsNext m last set row → IsBytesOf row.1.kind held
    → row.1.of_entry ≡ false
    → Leads m last set row.1.number (set || row.1.member) (some_bytes row.1.number held) (some_bytes row.1.number held)
unfolding set_bytes
tells_some_bytes m last set row [] next fits plain = tells_left_out m last set row next
tells_some_bytes m last set row (b ∷ held) next fits plain =
    let e : eqb (suc (length held)) 0 ≡ false = ne_eqb _ _ (omega arith) in
    rw (e, append-nil (bytes_part row.1.number (b ∷ held)).text)
    (tells_bytes m last set row (b ∷ held) next fits (some_is_not_empty b held (may_be_empty row.1)) plain)

-- the bytes that a field for texts was read as are UTF-8 if those of its good records are
pub read_text : (shape : Shape) (n : ℕ) (rs : List Record) (a : List ℕ) → AllByRecursion (IsGood shape) rs → text_ok (form_of shape n) [] ≡ true
    → ok_of (payload (all n rs)) ≡ ok_of a → text_ok (form_of shape n) a ≡ true
read_text shape n rs a good empty e =
    let texts = All-map (IsOf shape n) (λ r. text_ok (form_of shape n) r.payload ≡ true) (all n rs) (λ r h. text_of shape n r h) (of_all shape n rs good) in
    subst (λ (b : List ℕ). text_ok (form_of shape n) b ≡ true) (ok_is (payload (all n rs)) a e)
    (last_payload (λ b. text_ok (form_of shape n) b ≡ true) (all n rs) empty texts)

-- any bytes that the field's form allows fit the kind of the field's row
abbrev pub Holds : MessageName → Row → Type 0
Holds m row = (held : List ℕ) → text_ok (form_of (shape_of m) row.1.number) held ≡ true → IsBytesOf row.1.kind held

abbrev pub told_bytes : (m : MessageName) {W : Type 0} (last : ℕ) (set : Bool) (row : Row) → Holds m row → IsNext m last set row → row.1.of_entry ≡ false
    → is_number row.1.number ≡ true → wire_fits (form_of (shape_of m) row.1.number) wire.Len ≡ true
    → text_ok (form_of (shape_of m) row.1.number) [] ≡ true → Told m W (List ℕ) last set row.1.number (set || row.1.member)
told_bytes m last set row holds next plain range fits empty = record {
  field = string row.1.number range fits empty;
  lean = string row.1.number range fits empty;
  tells = λ rs a good e. tells_some_bytes m last set row a next (holds a (read_text (shape_of m) row.1.number rs a good empty e)) plain;
  few = λ rs a good e w. few_bytes row.1.number a;
}

-- the key or the value of an entry leads past its field: canonical bytes have it even if it is empty, lean ones only if it is not
pub tells_key : (m : MessageName) (last : ℕ) (set : Bool) (row : Row) (held : List ℕ) → IsNext m last set row → IsBytesOf row.1.kind held
    → row.1.of_entry ≡ true → may_be_empty row.1 ≡ true
    → Leads m last set row.1.number (set || row.1.member) (bytes_part row.1.number held ∷ []) (some_bytes row.1.number held)
unfolding set_bytes
tells_key m last set row [] next fits of may = record {
  tells = λ ms later spare x. record {
    fields = bytes row [] x.fields;
    are = (next, fits, or_true (not (eqb (length {A = ℕ} []) 0)) (may_be_empty row.1) may, x.are);
    numbers = ap (λ l. row.1.number ∷ l) x.numbers;
    inner = x.inner;
    text = rw (append-nil (bytes_part row.1.number []).text) (ap (λ l. set_bytes row.1.number [] ++ l) x.text);
    lean = rw of x.lean;
  };
}
tells_key m last set row (b ∷ held) next fits of may =
    let e : eqb (suc (length held)) 0 ≡ false = ne_eqb _ _ (omega arith) in
    rw (e, append-nil (bytes_part row.1.number (b ∷ held)).text) (record {
      tells = λ ms later spare x. record {
        fields = bytes row (b ∷ held) x.fields;
        are = (next, fits, some_is_not_empty b held (may_be_empty row.1), x.are);
        numbers = ap (λ l. row.1.number ∷ l) x.numbers;
        inner = x.inner;
        text = ap (λ l. set_bytes row.1.number (b ∷ held) ++ l) x.text;
        lean = rw (of, e) (ap (λ l. set_bytes row.1.number (b ∷ held) ++ l) x.lean);
      };
    })

abbrev pub told_key : (m : MessageName) {W : Type 0} (last : ℕ) (set : Bool) (row : Row) → Holds m row → IsNext m last set row → row.1.of_entry ≡ true
    → may_be_empty row.1 ≡ true
    → is_number row.1.number ≡ true → wire_fits (form_of (shape_of m) row.1.number) wire.Len ≡ true
    → text_ok (form_of (shape_of m) row.1.number) [] ≡ true → Told m W (List ℕ) last set row.1.number (set || row.1.member)
told_key m last set row holds next of may range fits empty = record {
  field = set_string row.1.number range fits empty;
  lean = string row.1.number range fits empty;
  tells = λ rs a good e. tells_key m last set row a next (holds a (read_text (shape_of m) row.1.number rs a good empty e)) of may;
  few = λ rs a good e w. none_often (bytes_part row.1.number a ∷ []) (omega arith);
}

-- ---- fields that are repeated

-- a row that follows others, and may follow itself again
pub record IsRepeated (m : MessageName) (last : ℕ) (set : Bool) (row : Row) : Type 0 where
  pub first : IsNext m last set row
  pub again : IsNext m row.1.number set row
  pub stays : set || row.1.member ≡ set
  pub may : may_be_empty row.1 ≡ true
  pub plain : row.1.of_entry ≡ false

abbrev pub is_repeated : {m : MessageName} {last : ℕ} {set : Bool} {row : Row} → IsNext m last set row → IsNext m row.1.number set row
    → set || row.1.member ≡ set → may_be_empty row.1 ≡ true → row.1.of_entry ≡ false
    → IsRepeated m last set row
is_repeated first again stays may plain = record { first = first; again = again; stays = stays; may = may; plain = plain }

behind_itself : (m : MessageName) (last : ℕ) (set : Bool) (row : Row) → IsRepeated m last set row → IsRepeated m row.1.number set row
behind_itself m last set row h = record { first = h.again; again = h.again; stays = h.stays; may = h.may; plain = h.plain }

tells_no_item : (m : MessageName) (last : ℕ) (set : Bool) (row : Row) → IsRepeated m last set row → Tells m last set row.1.number set [] [] []
tells_no_item m last set row h = subst (λ (t : Bool). Tells m last set row.1.number t [] [] []) h.stays (tells_left_out m last set row h.first)

tells_items : (m : MessageName) (last : ℕ) (set : Bool) (row : Row) (items : List (List ℕ)) → IsRepeated m last set row
    → AllByRecursion (IsBytesOf row.1.kind) items
    → Leads m last set row.1.number set (some_strings row.1.number items) (some_strings row.1.number items)
unfolding set_bytes
tells_items m last set row [] h fits = tells_no_item m last set row h
tells_items m last set row (a ∷ items) h fits =
    let one = tells_bytes m last set row a h.first fits.0 (or_true (not (eqb (length a) 0)) (may_be_empty row.1) h.may) h.plain in
    let text = set_bytes row.1.number a in
    tells_then (subst (λ (t : Bool). Tells m last set row.1.number t (row.1.number ∷ []) text text) h.stays one)
    (tells_items m row.1.number set row items (behind_itself m last set row h) fits.1)

pub tells_read_items : (m : MessageName) (last : ℕ) (set : Bool) (row : Row) (xs : List Record) (items : List (List ℕ)) → Holds m row
    → IsRepeated m last set row → AllByRecursion (IsOf (shape_of m) row.1.number) xs → items_ok (payloads xs) ≡ items_ok items
    → Leads m last set row.1.number set (some_strings row.1.number items) (some_strings row.1.number items)
tells_read_items m last set row xs items holds h good e =
    tells_items m last set row items h (subst (λ (bs : List (List ℕ)). AllByRecursion (IsBytesOf row.1.kind) bs)
    (ok_is (payloads xs) items e) (each_holds xs good)) where
      each_holds : (xs : List Record) → AllByRecursion (IsOf (shape_of m) row.1.number) xs → AllByRecursion (IsBytesOf row.1.kind) (payloads xs)
      each_holds [] good = tt
      each_holds (x ∷ xs) good = (holds x.payload (text_of (shape_of m) row.1.number x good.0), each_holds xs good.1)

abbrev pub told_items : (m : MessageName) {W : Type 0} (last : ℕ) (set : Bool) (row : Row) → Holds m row → IsRepeated m last set row
    → is_number row.1.number ≡ true → wire_fits (form_of (shape_of m) row.1.number) wire.Len ≡ true → Told m W (List (List ℕ)) last set row.1.number set
told_items m {W} last set row holds h range fits = record {
  field = strings row.1.number range fits;
  lean = strings row.1.number range fits;
  tells = λ rs a good e. tells_read_items m last set row (all row.1.number rs) a holds h (of_all (shape_of m) row.1.number rs good) e;
  few = λ rs a good e w. none_repeated row.1.number (some_strings row.1.number a) (strings_own row.1.number a)
      ((strings {shape = shape_of m} {M = W} row.1.number range fits).limit rs a good e w);
}

-- ---- messages

pub tells_a_message : {M : Type 0} (m sub : MessageName) (last : ℕ) (set : Bool) (row : Row) (read : List ℕ → Result M OpFault)
    (write lean : M → List ℕ) (xs : List Record) (o : Option M) → HasFrom sub read write lean
    → IsNext m last set row → row.1.kind ≡ Message sub → one read xs ≡ Ok o
    → Leads m last set row.1.number (set || row.1.member) (a_message write row.1.number o) (a_message lean row.1.number o)
unfolding set_bytes
tells_a_message m sub last set row read write lean xs None has next kind e = tells_left_out m last set row next
tells_a_message m sub last set row read write lean xs (Some x) has next kind e =
    let from = one_from read xs x (eqb (length xs) 0) refl e in
    rw (append-nil (bytes_part row.1.number (write x)).text, append-nil (bytes_part row.1.number (lean x)).text)
    (tells_message m sub last set row (write x) (lean x) next kind (has from.0 x from.1))

pub few_message : {M : Type 0} (write : M → List ℕ) (n : ℕ) (o : Option M) → NoneOften (numbered (a_message write n o))
few_message write n None = none_often [] (omega arith)
few_message write n (Some x) = none_often (bytes_part n (write x) ∷ []) (omega arith)

abbrev pub told_message : (m sub : MessageName) {W M : Type 0} (last : ℕ) (set : Bool) (row : Row) (read : List ℕ → Result M OpFault) (write : M → List ℕ)
    → Returns read write → HasFrom sub read write write
    → IsNext m last set row → row.1.kind ≡ Message sub → is_number row.1.number ≡ true → HoldsBytes (shape_of m) row.1.number
    → Told m W (Option M) last set row.1.number (set || row.1.member)
told_message m sub last set row read write returns has next kind range named = record {
  field = message row.1.number read write returns range named;
  lean = message row.1.number read write returns range named;
  tells = λ rs a good e. tells_a_message m sub last set row read write write (all row.1.number rs) a has next kind e;
  few = λ rs a good e w. few_message write row.1.number a;
}

-- messages that were each read, in a repeated field, lead past it by canonical bytes and by lean ones
pub tells_messages : {M : Type 0} (m sub : MessageName) (last : ℕ) (set : Bool) (row : Row) (read : List ℕ → Result M OpFault)
    (write lean : M → List ℕ) (ms : List M) → HasFrom sub read write lean
    → IsRepeated m last set row → row.1.kind ≡ Message sub → AllByRecursion (IsRead read) ms
    → Leads m last set row.1.number set (some_messages write row.1.number ms) (some_messages lean row.1.number ms)
unfolding set_bytes
tells_messages m sub last set row read write lean [] has h kind from = tells_no_item m last set row h
tells_messages m sub last set row read write lean (x ∷ ms) has h kind from =
    let one = tells_message m sub last set row (write x) (lean x) h.first kind (has from.0.0 x from.0.1) in
    let text = set_bytes row.1.number (write x) in
    let lean_text = set_bytes row.1.number (lean x) in
    tells_then (subst (λ (t : Bool). Tells m last set row.1.number t (row.1.number ∷ []) text lean_text) h.stays one)
    (tells_messages m sub row.1.number set row read write lean ms has (behind_itself m last set row h) kind from.1)

abbrev pub told_messages : (m sub : MessageName) {W M : Type 0} (last : ℕ) (set : Bool) (row : Row) (read : List ℕ → Result M OpFault)
    (write : M → List ℕ) → Returns read write → HasFrom sub read write write
    → IsRepeated m last set row → row.1.kind ≡ Message sub → is_number row.1.number ≡ true → HoldsBytes (shape_of m) row.1.number
    → Told m W (List M) last set row.1.number set
told_messages m sub {W} last set row read write returns has h kind range named = record {
  field = messages row.1.number read write returns range named;
  lean = messages row.1.number read write returns range named;
  tells = λ rs a good e. tells_messages m sub last set row read write write a has h kind (each_read read (all row.1.number rs) a e);
  few = λ rs a good e w. none_repeated row.1.number (some_messages write row.1.number a) (messages_own write row.1.number a)
      ((messages {shape = shape_of m} {W = W} row.1.number read write returns range named).limit rs a good e w);
}

-- ---- the member of a oneof, with nothing but extra bytes after it

up_to : {m : MessageName} {a b c : ℕ} {s t : Bool} {ns full spare : List ℕ} → b ≤ c → AtMost t t → Tells m a s b t ns full spare → Tells m a s c t ns full spare
up_to {m} {a} {b} {c} {s} {t} {ns} {full} {spare} le few h = record {
  tells = λ ms later later_spare x. h.tells ms later later_spare (tells_back ms later later_spare x);
} where
  tells_back : (ms later later_spare : List ℕ) → From m c t ms later later_spare → From m b t ms later later_spare
  tells_back ms later later_spare x = (tells_nothing m b c t t le few).tells ms later later_spare x

-- where each member that is read leads no further than a place, the oneof leads to it, with a member set or without
pub tells_member : {A : Type 0} (m : MessageName) (last top : ℕ) (ns : List ℕ) (read : ℕ → List Record → Result A OpFault)
    (write lean : A → Record) (rs : List Record) (o : Option A) → last ≤ top → AllByRecursion (IsGood (shape_of m)) rs
    → ((n : ℕ) (xs : List Record) (a : A) → read n xs ≡ Ok a → (k : ℕ) × (k ≤ top) × LeadsBy m last false k true (write a) (lean a))
    → one_of ns read rs ≡ Ok o → Leads m last false top true (a_member write o) (a_member lean o)
tells_member m last top ns read write lean rs None le good each e = tells_nothing m last top false true le refl
tells_member m last top ns read write lean rs (Some a) le good each e =
    let f = member_from (shape_of m) ns read rs a (chosen ns rs) good e in
    let k = each f.0 f.1 a f.3 in
    rw (append-nil (write a).text, append-nil (lean a).text) (up_to k.1 refl k.2)

-- a oneof has one record at most, so no number occurs too often in it
pub few_members : {A : Type 0} (write : A → Record) (o : Option A) → NoneOften (numbered (a_member write o))
few_members write None = none_often [] (omega arith)
few_members write (Some a) = none_often (write a ∷ []) (omega arith)

-- ---- a message by its fields

no_fields : (m : MessageName) (last : ℕ) (set : Bool) (rs : List Record) → AllByRecursion (IsGood (shape_of m)) rs
    → From m last set [] (unnamed (shape_of m) rs) (unnamed (shape_of m) rs)
no_fields m last set rs good = record {
  fields = extra (unnamed (shape_of m) rs);
  are = record {
    records = extras_of (shape_of m) rs;
    read = good_again (shape_of m) (extras_of (shape_of m) rs) (All-filter (IsGood (shape_of m)) _ rs good);
    unnamed = filter_passes _ rs;
  };
  numbers = refl;
  inner = tt;
  text = refl;
  lean = refl;
}

-- a message has fields by the table if what it is read of and written to are its fields
pub has_by : {m : MessageName} {W A : Type 0} {next : ℕ} {then_set : Bool} (t : Told m W A 0 false next then_set) (make : A → List ℕ → W)
    (read : List ℕ → Result W OpFault) (write lean : W → List ℕ)
    → ((bytes : List ℕ) → read bytes ≡ (parts (shape_of m) bytes >>= message_run t.field make))
    → ((a : A) (more : List ℕ) → write (make a more) ≡ t.field.bytes [] a ++ more)
    → ((a : A) (more : List ℕ) → lean (make a more) ≡ t.lean.bytes [] a ++ more)
    → HasFrom m read write lean
has_by {m} {W} {A} {next} {then_set} t make read write lean reads writes leans entry w e =
    let f = t.field in
    let rs = bind_ok (parts (shape_of m) entry) (message_read f make) w (sym (run_parts f make (parts (shape_of m) entry)) ∙ sym (reads entry) ∙ e) in
    let p = message_parts f make rs.0 w rs.2 in
    let good = parts_good (shape_of m) entry rs.0 rs.1 in
    let more = unnamed (shape_of m) rs.0 in
    let full : write (make p.0 more) ≡ spelled (f.write p.0) ++ more = writes p.0 more ∙ ap (λ xs. xs ++ more) (sym (f.spells [] p.0)) in
    let spare : lean (make p.0 more) ≡ spelled (t.lean.write p.0) ++ more = leans p.0 more ∙ ap (λ xs. xs ++ more) (sym (t.lean.spells [] p.0)) in
    let ns = numbered (f.write p.0) in
    let told = (t.tells rs.0 p.0 good p.1).tells [] more more (no_fields m next then_set rs.0 good) in
    subst (λ (x : W). IsMessage m (write x) (lean x)) p.3 (record {
      ns = ns ++ [];
      from =
          subst (λ (b : List ℕ). From m 0 false (ns ++ []) b (lean (make p.0 more))) (sym full)
          (subst (λ (b : List ℕ). From m 0 false (ns ++ []) (spelled (f.write p.0) ++ more) b) (sym spare) told);
      few = subst NoneOften (sym (append-nil ns)) (t.few rs.0 p.0 good p.1 p.2);
    })

-- ---- by the table

-- the row of a number that the message names
abbrev pub row_at : MessageName → ℕ → Row
row_at m n = unwrap_or (by_number n (rows_of m)) (once [] 0 Int64)

-- what an int64 that was read is written as is a number that its kind spells
pub int64_is : (v : ℕ) → IsNumberOf Int64 (from_signed (int64 v))
int64_is v = ap from_signed (int64_recodes.same v)

-- what an int32 that was read is written as is a number that its kind spells
pub int32_is : (v : ℕ) → IsNumberOf Int32 (from_signed (int32 v))
int32_is v = ap from_signed (int32_recodes.same v)

-- what a flag that was read is written as is a number that its kind spells
pub flag_is : (v : ℕ) → IsNumberOf Flag (bit (flag v))
flag_is v = ap bit (flag_recodes.same v)
