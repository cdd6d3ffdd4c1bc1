-- A source that was read is read again of its canonical bytes.
use Rattle.std.proofs.Common.{◌≡◌, ℕ, ◌≤◌, true, List, [], ◌∷◌, length, map, refl, ap, subst, ◌∙◌, Result, Ok, Err, arith}
use Rattle.std.specs.Prelude.{nat_le}
use Rattle.std.specs.List.{AllByRecursion}
use Rattle.std.proofs.lemmas.Bool.{leb-true, le-leb}
use Rattle.std.proofs.lemmas.List.{length-map}
use Rattle.llb_wire.specs.CallResults.{◌>>=◌}
use Rattle.llb_wire.proofs.RuleComposition.{bind_ok}
use Rattle.llb_wire.specs.Records.{Record}
use Rattle.llb_ops.specs.declared.fault.OpFault.{OpFault}
use Rattle.llb_ops.specs.declared.source.SourceOp.{SourceOp}
use Rattle.llb_ops.specs.declared.source.AttributeEntry.{AttributeEntry}
use Rattle.llb_ops.specs.Attributes.{Held, entry_of, settled}
use Rattle.llb_ops.specs.Limits.{field_limit}
use Rattle.llb_ops.specs.Records.{each, message_of}
use Rattle.llb_ops.specs.Messages.{attribute_entry_shape, attribute_entry_of, source_op_shape, source_op_of, attribute_entry_in, source_op_in}
use Rattle.llb_ops.specs.Writing.{attribute_entry_bytes, source_op_bytes, messages_field}
use Rattle.llb_ops.proofs.TextValidity.{empty_utf8}
use Rattle.llb_ops.proofs.FieldRoundTrip.{IsShort, FieldOf, Returns, end, both, returns_by, ok_is}
use Rattle.llb_ops.proofs.DistinctAttributes.{settled_apart, settles_again, settled_hold, settled_length}
use Rattle.llb_ops.proofs.FieldKindRoundTrips.{string, set_string, some_messages, messages_spelled, messages_own, messages_are, IsRead, each_read}
use Rattle.llb_ops.proofs.FieldKindRoundTrips.{each_back, each_length, plain}

abbrev attribute_entry_fields : FieldOf attribute_entry_shape AttributeEntry (List ℕ × (List ℕ × Unit {0}))
attribute_entry_fields = both (set_string 1 refl refl empty_utf8) (both (set_string 2 refl refl empty_utf8) end refl) refl

abbrev pub attribute_entry_made : List ℕ × (List ℕ × Unit {0}) → List ℕ → AttributeEntry
attribute_entry_made a extra = record { key = a.0; value = a.1.0; extra = extra }

-- an entry of the attributes that was read is read again of its canonical bytes
pub attribute_entry_returns : Returns attribute_entry_of attribute_entry_bytes
unfolding message_of attribute_entry_in attribute_entry_bytes
attribute_entry_returns = returns_by attribute_entry_fields attribute_entry_made attribute_entry_of attribute_entry_bytes refl (λ bytes. refl) (λ a extra. refl)

-- ---- the map of attributes

abbrev pub attributes_read : List Record → Result (List Held) OpFault
attributes_read xs = each attribute_entry_of xs >>= λ es. Ok (settled es)

pub goes_on : {M : Type 0} (r : Result (List AttributeEntry) OpFault) (k : List Held → Result M OpFault)
    → (r >>= λ es. k (settled es)) ≡ ((r >>= λ es. Ok (settled es)) >>= k)
goes_on (Ok es) k = refl
goes_on (Err f) k = refl

-- attributes that were read are what the entries settle to that were read
pub was_settled : (xs : List Record) (a : List Held) → attributes_read xs ≡ Ok a
    → (es : List AttributeEntry) × (each attribute_entry_of xs ≡ Ok es) × (settled es ≡ a)
was_settled xs a e =
    let es = bind_ok (each attribute_entry_of xs) (λ es. Ok (settled es)) a e in
    (es.0, es.1, ok_is (settled es.0) a es.2)

-- if each entry was read of some bytes, so was the entry of each attribute to which the entries settle
pub was_read : (es : List AttributeEntry) (a : List Held) → settled es ≡ a → AllByRecursion (IsRead attribute_entry_of) es
    → AllByRecursion (IsRead attribute_entry_of) (map entry_of a)
was_read es a is h =
    all_entries a (subst (λ (ps : List Held). AllByRecursion (λ p. IsRead attribute_entry_of (entry_of p)) ps) is
    (settled_hold (IsRead attribute_entry_of) es h)) where
      all_entries : (ps : List Held) → AllByRecursion (λ p. IsRead attribute_entry_of (entry_of p)) ps
          → AllByRecursion (IsRead attribute_entry_of) (map entry_of ps)
      all_entries [] h = tt
      all_entries (p ∷ ps) h = (h.0, all_entries ps h.1)

-- attributes are read again of their written entries, if `write` writes each entry so that it is read again
pub attributes_back : (write : AttributeEntry → List ℕ) (n : ℕ) (xs : List Record) (a : List Held) → Returns attribute_entry_of write
    → attributes_read xs ≡ Ok a → AllByRecursion IsShort (some_messages write n (map entry_of a))
    → attributes_read (some_messages write n (map entry_of a)) ≡ Ok a
attributes_back write n xs a returns e short =
    let was = was_settled xs a e in
    let from = was_read was.0 a was.2 (each_read attribute_entry_of xs was.0 was.1) in
    let again : settled (map entry_of a) ≡ a = subst (λ (ps : List Held). settled (map entry_of ps) ≡ ps) was.2
    (settles_again (settled was.0) (settled_apart was.0)) in
    rw (each_back attribute_entry_of write n (map entry_of a) returns from short, again) refl

pub attributes_limit : (write : AttributeEntry → List ℕ) (n : ℕ) (xs : List Record) (a : List Held) → attributes_read xs ≡ Ok a
    → nat_le (length xs) field_limit ≡ true → nat_le (length (some_messages write n (map entry_of a))) field_limit ≡ true
attributes_limit write n xs a e w =
    let was = was_settled xs a e in
    let few : length xs ≤ field_limit = leb-true (length xs) field_limit w in
    let count : length (some_messages write n (map entry_of a)) ≡ length a = length-map (map entry_of a) _ ∙ length-map a entry_of in
    le-leb _ _ (omega (arith, few, count, settled_length was.0, each_length attribute_entry_of xs was.0 was.1, ap length was.2))

abbrev pub attributes_field : (write : AttributeEntry → List ℕ) → Returns attribute_entry_of write → FieldOf source_op_shape SourceOp (List Held)
attributes_field write returns =
    plain {shape = source_op_shape} {M = SourceOp} {A = List Held} 2 attributes_read
    (λ xs k. each attribute_entry_of xs >>= λ es. k (settled es)) (λ xs. nat_le (length xs) field_limit)
    (λ a. some_messages write 2 (map entry_of a)) (λ a. messages_field write 2 (map entry_of a))
    (λ xs k. goes_on (each attribute_entry_of xs) k)
    (λ a. messages_spelled write 2 (map entry_of a))
    (λ a. messages_own write 2 (map entry_of a))
    (λ xs a good e. messages_are source_op_shape write 2 (map entry_of a) refl refl)
    (λ xs a good e short. attributes_back write 2 xs a returns e short)
    (λ xs a e w. attributes_limit write 2 xs a e w)

abbrev source_op_fields : FieldOf source_op_shape SourceOp (List ℕ × (List Held × Unit {0}))
source_op_fields = both (string 1 refl refl empty_utf8) (both (attributes_field attribute_entry_bytes attribute_entry_returns) end refl) refl

abbrev pub source_op_made : List ℕ × (List Held × Unit {0}) → List ℕ → SourceOp
source_op_made a extra = record { identifier = a.0; attrs = a.1.0; extra = extra }

-- a source that was read is read again of its canonical bytes
pub source_op_returns : Returns source_op_of source_op_bytes
unfolding message_of source_op_in source_op_bytes
source_op_returns = returns_by source_op_fields source_op_made source_op_of source_op_bytes refl (λ bytes. refl) (λ a extra. refl)
