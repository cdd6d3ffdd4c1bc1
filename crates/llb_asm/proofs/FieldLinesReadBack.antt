-- The lines of fields are read as items, whose records are the bytes of these fields.
use Rattle.std.proofs.Common.{◌≡◌, ℕ, ◌+◌, ◌<◌, ◌≤◌, ◌^◌, Bool, true, false, List, [], ◌∷◌, ◌++◌, length, map, codes, Ok, refl, sym, ap, subst, ◌∙◌}
use Rattle.std.proofs.Common.{arith, append-nil, length-append}
use Rattle.std.specs.Prelude.{nat_le, if◌then◌else◌, not, ◌==◌, ◌&&◌, is_none}
use Rattle.std.specs.Str.{is_utf8}
use Rattle.std.proofs.lemmas.Bool.{lt-leb}
use Rattle.std.proofs.lemmas.List.{map-append}
use Rattle.llb_wire.specs.Hexadecimal.{hex_text}
use Rattle.llb_wire.specs.Spelling.{AreBytes}
use Rattle.llb_ops.specs.declared.table.MessageName.{MessageName}
use Rattle.llb_ops.specs.declared.table.MessageName.TheVariants as named
use Rattle.llb_ops.specs.declared.table.FieldKind.{FieldKind}
use Rattle.llb_ops.specs.declared.table.FieldKind.TheVariants.{Int64, Int32, Uint32, Enum, Bool as Flag, String, Bytes, Message}
use Rattle.llb_ops.specs.declared.table.NamedField.{NamedField}
use Rattle.llb_ops.specs.Limits.{field_limit}
use Rattle.llb_ops.specs.Table.{Row, shape_of}
use Rattle.llb_ops.specs.Records.{form_of}
use Rattle.llb_ops.specs.Writing.{set_number, set_bytes}
use Rattle.llb_ops.specs.CanonicalFields.{Fields, extra, number, bytes, message, bytes_of, IsNext, AreUnnamed, are_unnamed, AreFields}
use Rattle.llb_asm.specs.declared.line.Here.{Here}
use Rattle.llb_asm.specs.declared.line.Held.{Held}
use Rattle.llb_asm.specs.declared.line.Held.TheVariants.{Record, Opens}
use Rattle.llb_asm.specs.declared.line.Item.{Item}
use Rattle.llb_asm.specs.FieldValueTexts.{number_text}
use Rattle.llb_asm.specs.EntryLine.{inside, behind, at_end, has_room, held_in, line_in}
use Rattle.llb_asm.specs.TextGrammar.{Hand, Items, done, single, nested, record_length, added, item, item_at, beyond, within, lines_of, records_of, IsWhole}
use Rattle.llb_asm.specs.TextGrammar.{AreItems}
use Rattle.llb_ops.specs.CanonicalFields.{one_more_of, AreFew}
use Rattle.llb_asm.specs.DisassembledText.{held_text, opening, field_lines}
use Rattle.llb_asm.proofs.ValueRoundTrip.{bytes_back}
use Rattle.llb_asm.proofs.OneLineValues.{bytes_solid}
use Rattle.llb_asm.proofs.PrintedLengths.{length_record}
use Rattle.llb_asm.proofs.DroppedEmptyFields.{HoldBytes}
use Rattle.llb_asm.proofs.TableRowNames.{all_passes, named_again, name_is_word, name_not_extra, parted_word, word_utf8}
use Rattle.llb_asm.proofs.FieldValueRecords.{bytes_said, bytes_utf8, number_said, number_utf8, opening_said, number_left_in, bytes_left_in}
use Rattle.llb_asm.proofs.SizeMonotonicity.{record_grows, HasRoom, room_behind, room_for}

-- ---- a line

few_have_room : (here : Here) (f : NamedField) → one_more_of here.last here.count f.number ≤ field_limit → has_room here f ≡ true
few_have_room here f few = go (here.last == f.number) few
  where
    go : (b : Bool) → (if b then here.count + 1 else 1) ≤ field_limit → not (b && nat_le field_limit here.count) ≡ true
    go true le = ap not (lt-leb field_limit here.count (omega arith))
    go false le = refl

field_says : (labels : List (List ℕ)) (here : Here) (row : Row) (value : List ℕ) (held : Held) → IsNext here.message here.last here.set row → here.ended ≡ false
    → one_more_of here.last here.count row.1.number ≤ field_limit → is_utf8 value ≡ true → held_in labels row value ≡ Ok held
    → line_in labels here (row.0 ++ (32 ∷ value)) ≡ Ok (item (behind here row.1) held)
unfolding line_in
field_says labels here row value held is goes_on few utf8 said =
    let named = named_again here.message row is.known in
    let other = name_not_extra here.message row is.known in
    let parts = parted_word row.0 value (name_is_word here.message row is.known) utf8 in
    rw (parts, other, named, goes_on, is.follows, said, few_have_room here row.1 few) refl

unnamed_are : (m : MessageName) (more : List ℕ) → AreUnnamed m more → are_unnamed m more ≡ true
unfolding are_unnamed
unnamed_are m more is = rw is.read (all_passes (λ r. is_none (form_of (shape_of m) r.number)) is.records is.unnamed)

extra_says : (labels : List (List ℕ)) (here : Here) (more : List ℕ) → AreUnnamed here.message more → here.ended ≡ false → AreBytes more
    → line_in labels here (codes "extra" ++ (32 ∷ hex_text more)) ≡ Ok (item (at_end here) (Record more))
unfolding line_in
extra_says labels here more is goes_on are =
    rw (parted_word (codes "extra") (hex_text more) refl (bytes_solid more are).utf8, goes_on, bytes_back more are, unnamed_are here.message more is) refl

item_says : (labels : List (List ℕ)) (hand : Hand) (line : List ℕ) (i : Item) → line_in labels hand.here line ≡ Ok i
    → hand.room (length hand.bytes + added i.held) ≡ true
    → item_at labels hand line ≡ Ok i
item_says labels hand line i is room = rw (is, room) refl

-- ---- the items of fields

abbrev sub_of : FieldKind → MessageName
sub_of (Message m) = m
sub_of Int64 = named.Op
sub_of Int32 = named.Op
sub_of Uint32 = named.Op
sub_of Enum = named.Op
sub_of Flag = named.Op
sub_of String = named.Op
sub_of Bytes = named.Op

abbrev spelled : Row → List ℕ → List ℕ
spelled row value = row.0 ++ (32 ∷ value)

abbrev pub items_of : List (List ℕ) → Here → Fields → Items
items_of labels here (extra []) = done
items_of labels here (extra (b ∷ more)) = single (codes "extra" ++ (32 ∷ hex_text (b ∷ more))) (at_end here) (b ∷ more) done
items_of labels here (number row v rest) =
    single (spelled row (number_text row.1.kind v)) (behind here row.1) (set_number row.1.number v) (items_of labels (behind here row.1) rest)
items_of labels here (bytes row held rest) =
    single (spelled row (held_text row.1.kind labels row.0 held)) (behind here row.1) (set_bytes row.1.number held) (items_of labels (behind here row.1) rest)
items_of labels here (message row inner rest) =
    nested (spelled row opening) (behind here row.1) row.1.number (sub_of row.1.kind) (items_of labels (inside (sub_of row.1.kind)) inner)
    (items_of labels (behind here row.1) rest)

module _ (labels : List (List ℕ)) where
  -- among the items of fields no message is left open
  pub items_whole : (here : Here) (fs : Fields) → IsWhole (items_of labels here fs)
  items_whole here (extra []) = tt
  items_whole here (extra (b ∷ more)) = tt
  items_whole here (number row v rest) = items_whole (behind here row.1) rest
  items_whole here (bytes row held rest) = items_whole (behind here row.1) rest
  items_whole here (message row inner rest) = items_whole (behind here row.1) rest

  -- the records of the items together are the bytes of the fields
  pub items_records : (here : Here) (fs : Fields) → records_of (items_of labels here fs) ≡ bytes_of fs
  items_records here (extra []) = refl
  items_records here (extra (b ∷ more)) = append-nil (b ∷ more)
  items_records here (number row v rest) = ap (λ x. set_number row.1.number v ++ x) (items_records (behind here row.1) rest)
  items_records here (bytes row held rest) = ap (λ x. set_bytes row.1.number held ++ x) (items_records (behind here row.1) rest)
  items_records here (message row inner rest) =
      ap (λ x. set_bytes row.1.number x ++ records_of (items_of labels (behind here row.1) rest)) (items_records (inside (sub_of row.1.kind)) inner)
      ∙ ap (λ x. set_bytes row.1.number (bytes_of inner) ++ x) (items_records (behind here row.1) rest)

  -- the items have the lines that the fields are written in, at whatever depth those are indented
  pub items_lines : (here : Here) (depth : ℕ) (fs : Fields) → lines_of (items_of labels here fs) ≡ map (λ l. l.1) (field_lines labels depth fs)
  items_lines here depth (extra []) = refl
  items_lines here depth (extra (b ∷ more)) = refl
  items_lines here depth (number row v rest) = ap (λ x. spelled row (number_text row.1.kind v) ∷ x) (items_lines (behind here row.1) depth rest)
  items_lines here depth (bytes row held rest) =
      ap (λ x. spelled row (held_text row.1.kind labels row.0 held) ∷ x) (items_lines (behind here row.1) depth rest)
  items_lines here depth (message row inner rest) =
      ap (λ x. spelled row opening ∷ x)
      (ap (λ x. x ++ (codes "}" ∷ lines_of (items_of labels (behind here row.1) rest))) (items_lines (inside (sub_of row.1.kind)) (depth + 1) inner)
      ∙ ap (λ x. map (λ l. l.1) (field_lines labels (depth + 1) inner) ++ (codes "}" ∷ x)) (items_lines (behind here row.1) depth rest)
      ∙ sym (map-append (λ l. l.1) (field_lines labels (depth + 1) inner) ((depth, codes "}") ∷ field_lines labels depth rest)))

-- ---- the items fit

module _ (labels : List (List ℕ)) (small : length labels < 2 ^ 64) where
  -- a line with a record, where the record and what follows it have room
  single_fits : (hand : Hand) (line : List ℕ) (next : Here) (b more : List ℕ) → line_in labels hand.here line ≡ Ok (item next (Record b))
      → HasRoom hand (length (b ++ more)) → item_at labels hand line ≡ Ok (item next (Record b))
  single_fits hand line next b more is room =
      item_says labels hand line (item next (Record b)) is (room_for hand (length b) (length (b ++ more)) (omega (arith, length-append b more)) room)

  behind_it : (hand : Hand) (next : Here) (b more : List ℕ) → HasRoom hand (length (b ++ more)) → HasRoom (beyond hand next b) (length more)
  behind_it hand next b more room = room_behind hand next b (length more) (length (b ++ more)) (omega (arith, length-append b more)) room

  -- inside a field that is a message there is room for its bytes
  in_it : (hand : Hand) (n : ℕ) (sub : MessageName) (inner more : List ℕ) → HasRoom hand (length (set_bytes n inner ++ more))
      → HasRoom (within hand n sub) (length inner)
  in_it hand n sub inner more room k below =
      room (length hand.bytes + record_length n k)
      (omega (arith, length-append (set_bytes n inner) more, length_record n inner, record_grows n k (length inner) (omega (arith, below))))

  -- where there is room for the bytes of the fields, each line that is written of them adds its item to the message at hand
  pub items_fit : (hand : Hand) (fs : Fields) → AreFields hand.here.message hand.here.last hand.here.set fs → AreFew hand.here.last hand.here.count fs
      → hand.here.ended ≡ false → HoldBytes fs → HasRoom hand (length (bytes_of fs)) → AreItems labels hand (items_of labels hand.here fs)
  unfolding held_in
  items_fit hand (extra []) are few goes_on all room = tt
  items_fit hand (extra (b ∷ more)) are few goes_on all room =
      let line = codes "extra" ++ (32 ∷ hex_text (b ∷ more)) in
      let here = at_end hand.here in
      let fits = subst (λ k. HasRoom hand k) (ap length (sym (append-nil (b ∷ more)))) room in
      (single_fits hand line here (b ∷ more) [] (extra_says labels hand.here (b ∷ more) are goes_on all) fits, tt)
  items_fit hand (number row v rest) (is, fits, some, are) (one, few) goes_on all room =
      let here = behind hand.here row.1 in
      let b = set_number row.1.number v in
      let text = number_text row.1.kind v in
      let said = number_said labels row row.1.kind v fits ∙ ap (λ h. Ok h) (number_left_in row v some) in
      let line = field_says labels hand.here row text (Record b) is goes_on one (number_utf8 row.1.kind v fits) said in (
        single_fits hand (spelled row text) here b (bytes_of rest) line room,
        items_fit (beyond hand here b) rest are few refl all (behind_it hand here b (bytes_of rest) room),
      )
  items_fit hand (bytes row held rest) (is, fits, some, are) (one, few) goes_on (payload, all) room =
      let here = behind hand.here row.1 in
      let b = set_bytes row.1.number held in
      let text = held_text row.1.kind labels row.0 held in
      let said = bytes_said labels small row row.1.kind held fits payload ∙ ap (λ h. Ok h) (bytes_left_in row held some) in
      let line = field_says labels hand.here row text (Record b) is goes_on one (bytes_utf8 labels small row row.1.kind held fits payload) said in (
        single_fits hand (spelled row text) here b (bytes_of rest) line room,
        items_fit (beyond hand here b) rest are few refl all (behind_it hand here b (bytes_of rest) room),
      )
  items_fit hand (message row inner rest) (is, (sub, kind, within_it), are) (one, few_within, few) goes_on (payload, all) room =
      let here = behind hand.here row.1 in
      let n = row.1.number in
      let b = set_bytes n (bytes_of inner) in
      let same : sub_of row.1.kind ≡ sub = ap sub_of kind in
      let kind_is = kind ∙ ap (λ m. Message m) (sym same) in
      let fields = subst (λ m. AreFields m 0 false inner) (sym same) within_it in
      let said = opening_said labels row (sub_of row.1.kind) kind_is in
      let line = field_says labels hand.here row opening (Opens n (sub_of row.1.kind)) is goes_on one (word_utf8 opening refl) said in
      let at_least = record_grows n 0 (length (bytes_of inner)) (omega arith) in
      let long = length-append b (bytes_of rest) in
      let records = items_records labels (inside (sub_of row.1.kind)) inner in (
        item_says labels hand (spelled row opening) (item here (Opens n (sub_of row.1.kind))) line
            (room_for hand (record_length n 0) (length (b ++ bytes_of rest)) (omega (arith, at_least, long, length_record n (bytes_of inner))) room),
        items_fit (within hand n (sub_of row.1.kind)) inner fields few_within refl payload (in_it hand n (sub_of row.1.kind) (bytes_of inner)
            (bytes_of rest) room),
        items_whole labels (inside (sub_of row.1.kind)) inner,
        subst (λ x. AreItems labels (beyond hand here (set_bytes n x)) (items_of labels here rest)) (sym records)
            (items_fit (beyond hand here b) rest are few refl all (behind_it hand here b (bytes_of rest) room)),
      )
