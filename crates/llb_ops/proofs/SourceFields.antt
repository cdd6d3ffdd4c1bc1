-- Sources have fields by the table; and without the empty keys and values of their attributes they are read as they were.
use Rattle.std.proofs.Common.{ℕ, false, List, ◌++◌, map, refl}
use Rattle.llb_ops.specs.declared.table.MessageName.TheVariants as name
use Rattle.llb_ops.specs.declared.source.SourceOp.{SourceOp}
use Rattle.llb_ops.specs.declared.source.AttributeEntry.{AttributeEntry}
use Rattle.llb_ops.specs.Attributes.{Held, entry_of}
use Rattle.llb_ops.specs.Records.{all, message_of}
use Rattle.llb_ops.specs.Messages.{attribute_entry_of, attribute_entry_in, source_op_of, source_op_in}
use Rattle.llb_ops.specs.Writing.{bytes_field, messages_field, attribute_entry_bytes, source_op_bytes}
use Rattle.llb_ops.proofs.TextValidity.{empty_utf8}
use Rattle.llb_ops.proofs.FieldRoundTrip.{Returns, returns_by}
use Rattle.llb_ops.proofs.FieldKindRoundTrips.{each_read, some_messages, messages_own}
use Rattle.llb_ops.proofs.SourceRoundTrip.{attribute_entry_made, attribute_entry_returns, attributes_field, source_op_made, was_settled, was_read}
use Rattle.llb_ops.proofs.FieldOccurrences.{none_repeated}
use Rattle.llb_ops.proofs.TableFieldsOfKinds.{HasFrom, next_is, is_repeated, Told, told_both, told_end, told_bytes, told_key, tells_messages, has_by, row_at}

-- the bytes of an entry, without its key if that is empty, and without its value if that is empty
unfoldable pub lean_entry_bytes : AttributeEntry → List ℕ
lean_entry_bytes m = bytes_field 1 m.key ++ bytes_field 2 m.value ++ m.extra

abbrev attribute_entry_told : Told name.AttributeEntry AttributeEntry (List ℕ × (List ℕ × Unit {0})) 0 false 2 false
attribute_entry_told =
    told_both (told_key name.AttributeEntry 0 false (row_at name.AttributeEntry 1) (λ held h. h) (next_is refl refl) refl refl refl refl empty_utf8)
    (told_both (told_key name.AttributeEntry 1 false (row_at name.AttributeEntry 2) (λ held h. h) (next_is refl refl) refl refl refl refl empty_utf8)
    (told_end name.AttributeEntry 2 false) refl refl) refl refl

pub attribute_entry_has : HasFrom name.AttributeEntry attribute_entry_of attribute_entry_bytes lean_entry_bytes
unfolding message_of attribute_entry_in attribute_entry_bytes lean_entry_bytes
attribute_entry_has =
    has_by attribute_entry_told attribute_entry_made attribute_entry_of attribute_entry_bytes lean_entry_bytes (λ entry. refl) (λ a more. refl) (λ a more. refl)

lean_entry_returns : Returns attribute_entry_of lean_entry_bytes
unfolding message_of attribute_entry_in lean_entry_bytes
lean_entry_returns = returns_by attribute_entry_told.lean attribute_entry_made attribute_entry_of lean_entry_bytes refl (λ entry. refl) (λ a more. refl)

-- ---- sources

unfoldable pub lean_source_bytes : SourceOp → List ℕ
lean_source_bytes m = bytes_field 1 m.identifier ++ messages_field lean_entry_bytes 2 (map entry_of m.attrs) ++ m.extra

abbrev source_op_told : Told name.SourceOp SourceOp (List ℕ × (List Held × Unit {0})) 0 false 2 false
source_op_told =
    told_both (told_bytes name.SourceOp 0 false (row_at name.SourceOp 1) (λ held h. h) (next_is refl refl) refl refl refl empty_utf8)
    (told_both (record {
      field = attributes_field attribute_entry_bytes attribute_entry_returns;
      lean = attributes_field lean_entry_bytes lean_entry_returns;
      tells = λ rs a good e.
          let was = was_settled (all 2 rs) a e in
          let from = was_read was.0 a was.2 (each_read attribute_entry_of (all 2 rs) was.0 was.1) in
          tells_messages name.SourceOp name.AttributeEntry 1 false (row_at name.SourceOp 2) attribute_entry_of attribute_entry_bytes
          lean_entry_bytes (map entry_of a) attribute_entry_has
          (is_repeated (next_is refl refl) (next_is refl refl) refl refl refl) refl from;
      few = λ rs a good e w.
          none_repeated 2 (some_messages attribute_entry_bytes 2 (map entry_of a)) (messages_own attribute_entry_bytes 2 (map entry_of a))
          ((attributes_field attribute_entry_bytes attribute_entry_returns).limit rs a good e w);
    })
    (told_end name.SourceOp 2 false) refl refl) refl refl

-- the canonical bytes of a source that was read are fields by the table, and the lean ones are those without empty keys and values
pub source_op_has : HasFrom name.SourceOp source_op_of source_op_bytes lean_source_bytes
unfolding message_of source_op_in source_op_bytes lean_source_bytes
source_op_has = has_by source_op_told source_op_made source_op_of source_op_bytes lean_source_bytes (λ entry. refl) (λ a more. refl) (λ a more. refl)

-- a source that was read is read again of its bytes without empty keys and values of attributes
pub lean_source_returns : Returns source_op_of lean_source_bytes
unfolding message_of source_op_in lean_source_bytes
lean_source_returns = returns_by source_op_told.lean source_op_made source_op_of lean_source_bytes refl (λ entry. refl) (λ a more. refl)
