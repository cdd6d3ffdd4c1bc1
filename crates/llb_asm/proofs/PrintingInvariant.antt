-- What the printing of a message keeps, record by record.
use Rattle.std.proofs.Common.{◌≡◌, refl, sym, ap, subst, ◌∙◌, ℕ, ◌+◌, ◌<◌, ◌≤◌, ◌^◌, Bool, true, false, cond, List, [], ◌∷◌, ◌++◌, length, ◌⊎◌}
use Rattle.std.proofs.Common.{Option, Some, None, inl, inr, append_assoc, append-nil, arith}
use Rattle.std.specs.Prelude.{◌&&◌, ◌||◌, ◌==◌}
use Rattle.std.proofs.lemmas.Grind.{flat_map-append}
use Rattle.llb_wire.specs.Records.{Record, IsRecord}
use Rattle.llb_ops.specs.declared.table.MessageName.{MessageName}
use Rattle.llb_ops.specs.declared.table.FieldKind.{FieldKind}
use Rattle.llb_ops.specs.declared.table.FieldKind.TheVariants.{Int64, Int32, Uint32, Enum, Bool as Flag, String, Bytes, Message}
use Rattle.llb_ops.specs.Table.{Row, rows_of, by_number, row_numbered}
use Rattle.llb_ops.specs.CanonicalFields.{Fields, extra, number, bytes, message, bytes_of, IsNumberOf, IsBytesOf, AreFields, without_empty}
use Rattle.llb_asm.specs.declared.print.Front.{Front}
use Rattle.llb_asm.specs.FieldValueTexts.{number_text}
use Rattle.llb_asm.specs.DisassembledText.{item_line, closing_line, opening, extra_lines, field_lines, line_text, text_of_lines}
use Rattle.llb_asm.specs.PrintedPrefix.{Finds, held_lines}
use Rattle.llb_asm.proofs.NumberTexts.{int64_small, int32_range, flag_values}
use Rattle.llb_asm.proofs.FirstCanonicalRecord.{front_holds, front_there, named_number, number_record, bytes_record, number_is_record, bytes_is_record}
use Rattle.llb_asm.proofs.FirstCanonicalRecord.{number_split, bytes_split, payload_fits, unnamed_first, next_nothing, unnamed_number}
use Rattle.llb_wire.specs.Reading.{next_field}

abbrev pub fields_text : List (List ℕ) → ℕ → Fields → List ℕ
fields_text labels depth fs = text_of_lines (field_lines labels depth (without_empty fs))

number_small : (kind : FieldKind) (v : ℕ) → IsNumberOf kind v → v < 2 ^ 64
number_small Int64 v is = int64_small v is
number_small Int32 v is = elim (int32_range v is) [ inl low ↦ omega arith | inr high ↦ high.1 ]
number_small Uint32 v is = omega arith
number_small Enum v is = elim (int32_range v is) [ inl low ↦ omega arith | inr high ↦ high.1 ]
number_small Flag v is = elim (flag_values v is) [ inl none ↦ omega arith | inr one ↦ omega arith ]
number_small String v is = absurd is
number_small Bytes v is = absurd is
number_small (Message m) v is = absurd is

-- ---- kinds

abbrev pub IsNumeric : FieldKind → Type 0
IsNumeric Int64 = Unit {0}
IsNumeric Int32 = Unit {0}
IsNumeric Uint32 = Unit {0}
IsNumeric Enum = Unit {0}
IsNumeric Flag = Unit {0}
IsNumeric String = ⊥
IsNumeric Bytes = ⊥
IsNumeric (Message m) = ⊥

-- the five kinds of numbers are numeric
pub numeric_kind : (k : FieldKind) → (k ≡ Int64) ⊎ ((k ≡ Int32) ⊎ ((k ≡ Uint32) ⊎ ((k ≡ Enum) ⊎ (k ≡ Flag)))) → IsNumeric k
numeric_kind k (inl e) = subst IsNumeric (sym e) tt
numeric_kind k (inr (inl e)) = subst IsNumeric (sym e) tt
numeric_kind k (inr (inr (inl e))) = subst IsNumeric (sym e) tt
numeric_kind k (inr (inr (inr (inl e)))) = subst IsNumeric (sym e) tt
numeric_kind k (inr (inr (inr (inr e)))) = subst IsNumeric (sym e) tt

abbrev pub IsHeld : FieldKind → Type 0
IsHeld Int64 = ⊥
IsHeld Int32 = ⊥
IsHeld Uint32 = ⊥
IsHeld Enum = ⊥
IsHeld Flag = ⊥
IsHeld String = Unit {0}
IsHeld Bytes = Unit {0}
IsHeld (Message m) = ⊥

-- strings and bytes are the kinds that are held as bytes
pub held_kind : (k : FieldKind) → (k ≡ String) ⊎ (k ≡ Bytes) → IsHeld k
held_kind k (inl e) = subst IsHeld (sym e) tt
held_kind k (inr e) = subst IsHeld (sym e) tt

four : (a b c d e : List ℕ) → (((a ++ b) ++ c) ++ d) ++ e ≡ a ++ (b ++ (c ++ (d ++ e)))
four a b c d e = simp append_assoc

module _ (labels : List (List ℕ)) (depth : ℕ) where
  -- ---- the first field

  -- the text of the first field with that payload, and what is later
  abbrev pub HeadText : FieldKind → Row → ℕ → List ℕ → List ℕ → List ℕ → Type 0
  HeadText Int64 row v p text later = text ≡ line_text (item_line depth row.0 (number_text row.1.kind v)) ++ later
  HeadText Int32 row v p text later = text ≡ line_text (item_line depth row.0 (number_text row.1.kind v)) ++ later
  HeadText Uint32 row v p text later = text ≡ line_text (item_line depth row.0 (number_text row.1.kind v)) ++ later
  HeadText Enum row v p text later = text ≡ line_text (item_line depth row.0 (number_text row.1.kind v)) ++ later
  HeadText Flag row v p text later = text ≡ line_text (item_line depth row.0 (number_text row.1.kind v)) ++ later
  HeadText String row v p text later = IsBytesOf row.1.kind p × (text ≡ text_of_lines (held_lines labels depth row p) ++ later)
  HeadText Bytes row v p text later = IsBytesOf row.1.kind p × (text ≡ text_of_lines (held_lines labels depth row p) ++ later)
  HeadText (Message n) row v p text later =
      (inner : Fields) × AreFields n 0 false inner × (p ≡ bytes_of inner)
      × (text ≡ line_text (item_line depth row.0 opening) ++ (fields_text labels (depth + 1) inner ++ (line_text (closing_line depth) ++ later)))

  of_number : (k : FieldKind) (row : Row) (v : ℕ) (p text later : List ℕ) → IsNumberOf k v
      → text ≡ line_text (item_line depth row.0 (number_text row.1.kind v)) ++ later → HeadText k row v p text later
  of_number Int64 row v p text later is e = e
  of_number Int32 row v p text later is e = e
  of_number Uint32 row v p text later is e = e
  of_number Enum row v p text later is e = e
  of_number Flag row v p text later is e = e
  of_number String row v p text later is e = absurd is
  of_number Bytes row v p text later is e = absurd is
  of_number (Message n) row v p text later is e = absurd is

  of_bytes : (k : FieldKind) (row : Row) (v : ℕ) (p text later : List ℕ) → IsBytesOf k p → row.1.kind ≡ k
      → text ≡ text_of_lines (held_lines labels depth row p) ++ later → HeadText k row v p text later
  of_bytes Int64 row v p text later is same e = absurd is
  of_bytes Int32 row v p text later is same e = absurd is
  of_bytes Uint32 row v p text later is same e = absurd is
  of_bytes Enum row v p text later is same e = absurd is
  of_bytes Flag row v p text later is same e = absurd is
  of_bytes String row v p text later is same e = (subst (λ (x : FieldKind). IsBytesOf x p) (sym same) is, e)
  of_bytes Bytes row v p text later is same e = (subst (λ (x : FieldKind). IsBytesOf x p) (sym same) is, e)
  of_bytes (Message n) row v p text later is same e = absurd is

  held_text_is : (row : Row) (held : List ℕ) (rest : Fields)
      → fields_text labels depth (bytes row held rest) ≡ text_of_lines (held_lines labels depth row held) ++ fields_text labels depth rest
  held_text_is row held rest = go (row.1.of_entry && (length held == 0))
    where
      go : (b : Bool) → text_of_lines (field_lines labels depth (cond b (without_empty rest) (bytes row held (without_empty rest))))
          ≡ text_of_lines (cond b [] (item_line depth row.0 (Rattle.llb_asm.specs.DisassembledText.held_text row.1.kind labels row.0 held) ∷ [])) ++ fields_text
          labels depth rest
      go true = refl
      go false = ap (λ l. l ++ fields_text labels depth rest)
          (sym (append-nil (line_text (item_line depth row.0 (Rattle.llb_asm.specs.DisassembledText.held_text row.1.kind labels row.0 held)))))

  message_text_is : (row : Row) (inner rest : Fields) → fields_text labels depth (message row inner rest)
      ≡ line_text (item_line depth row.0 opening) ++ (fields_text labels (depth + 1) inner ++ (line_text (closing_line depth) ++ fields_text labels depth rest))
  message_text_is row inner rest =
      ap (λ l. line_text (item_line depth row.0 opening) ++ l)
      (flat_map-append line_text (field_lines labels (depth + 1) (without_empty inner)) (closing_line depth ∷ field_lines labels depth (without_empty rest)))

  -- the first field's record, and the fields after it
  pub record Head (m : MessageName) (row : Row) (front : Front) (fs : Fields) : Type 0 where
    pub last : ℕ
    pub set : Bool
    pub later : Fields
    pub are : AreFields m last set later
    pub after : front.after.now ≡ bytes_of later
    pub text : HeadText row.1.kind row front.value front.payload.now (fields_text labels depth fs) (fields_text labels depth later)

  -- the row of a record is that of the table
  row_is : (m : MessageName) (row row' : Row) (n : ℕ) → by_number row.1.number (rows_of m) ≡ Some row → n ≡ row.1.number → row_numbered m n ≡ Some row'
      → row' ≡ row
  unfolding row_numbered
  row_is m row row' n known same e = let at = ap (λ k. by_number k (rows_of m)) same in cc

  pub head : (m : MessageName) (last : ℕ) (set : Bool) (fs : Fields) (all : List ℕ) (front : Front) (row : Row) → AreFields m last set fs → all ≡ bytes_of fs
      → length all < 2 ^ 64 → Finds all (Some front) → row_numbered m front.number ≡ Some row → Head m row front fs
  head m last set (extra []) all front row un is small finds e = absurd (next_nothing all front is finds)
  head m last set (extra (b ∷ more)) all front row un is small finds e =
      let x = unnamed_first m b more un in
      let same : front.number ≡ x.field.number = unnamed_number all front x.field finds (ap (λ k. next_field k 0) is ∙ x.next) in
      absurd (let y = ap (λ k. row_numbered m k) same in let z = x.none in cc)
  head m last set (number row' v rest) all front row (next, of, some, are) is small finds e =
      let named = named_number m row' next.known in
      let x = front_holds all front (number_record row'.1.number v) (bytes_of rest) finds
      (number_is_record row'.1.number v named (number_small row'.1.kind v of))
      (is ∙ number_split row'.1.number v (bytes_of rest)) in
      let same : row ≡ row' = row_is m row' row front.number next.known x.number e in
      record {
        last = row'.1.number;
        set = set || row'.1.member;
        later = rest;
        are = are;
        after = x.after;
        text = rw (same, x.value) (of_number row'.1.kind row' v front.payload.now _ _ of refl);
      }
  head m last set (bytes row' held rest) all front row (next, of, some, are) is small finds e =
      let named = named_number m row' next.known in
      let split = is ∙ bytes_split row'.1.number held (bytes_of rest) in
      let size : length held < 2 ^ 64 = omega (arith, small, ap length split, payload_fits row'.1.number held (bytes_of rest)) in
      let x = front_holds all front (bytes_record row'.1.number held) (bytes_of rest) finds (bytes_is_record row'.1.number held named size) split in
      let same : row ≡ row' = row_is m row' row front.number next.known x.number e in
      record {
        last = row'.1.number;
        set = set || row'.1.member;
        later = rest;
        are = are;
        after = x.after;
        text = rw (same, x.payload) (of_bytes row'.1.kind row' front.value held _ _ of refl (held_text_is row' held rest));
      }
  head m last set (message row' inner rest) all front row (next, (sub, kind, within), are) is small finds e =
      let named = named_number m row' next.known in
      let split = is ∙ bytes_split row'.1.number (bytes_of inner) (bytes_of rest) in
      let size : length (bytes_of inner) < 2 ^ 64 = omega (arith, small, ap length split, payload_fits row'.1.number (bytes_of inner) (bytes_of rest)) in
      let x = front_holds all front (bytes_record row'.1.number (bytes_of inner)) (bytes_of rest) finds
      (bytes_is_record row'.1.number (bytes_of inner) named size) split in
      let same : row ≡ row' = row_is m row' row front.number next.known x.number e in
      record {
        last = row'.1.number;
        set = set || row'.1.member;
        later = rest;
        are = are;
        after = x.after;
        text = rw (same, kind) (inner, within, x.payload, message_text_is row' inner rest);
      }

  -- nothing is found only where there are no bytes
  no_bytes : (m : MessageName) (last : ℕ) (set : Bool) (fs : Fields) (rest : List ℕ) → AreFields m last set fs → rest ≡ bytes_of fs → length rest < 2 ^ 64
      → Finds rest None → rest ≡ []
  no_bytes m last set (extra []) rest un is small none = is
  no_bytes m last set (extra (b ∷ more)) rest un is small none = let x = unnamed_first m b more un in absurd (none x.field (ap (λ k. next_field k 0) is
      ∙ x.next))
  no_bytes m last set (number row v later) rest (next, of, some, are) is small none =
      absurd (front_there rest (number_record row.1.number v) (bytes_of later) none
      (number_is_record row.1.number v (named_number m row next.known) (number_small row.1.kind v of)) (is ∙ number_split row.1.number v (bytes_of later)))
  no_bytes m last set (bytes row held later) rest (next, of, some, are) is small none =
      let split = is ∙ bytes_split row.1.number held (bytes_of later) in
      let size : length held < 2 ^ 64 = omega (arith, small, ap length split, payload_fits row.1.number held (bytes_of later)) in
      absurd (front_there rest (bytes_record row.1.number held) (bytes_of later) none (bytes_is_record row.1.number held (named_number m row next.known) size)
      split)
  no_bytes m last set (message row inner later) rest (next, within, are) is small none =
      let split = is ∙ bytes_split row.1.number (bytes_of inner) (bytes_of later) in
      let size : length (bytes_of inner) < 2 ^ 64 = omega (arith, small, ap length split, payload_fits row.1.number (bytes_of inner) (bytes_of later)) in
      absurd (front_there rest (bytes_record row.1.number (bytes_of inner)) (bytes_of later) none
      (bytes_is_record row.1.number (bytes_of inner) (named_number m row next.known) size) split)

  -- ---- what is kept

  -- fields are left, and what is written so far with theirs is all
  pub record Left (m : MessageName) (rest written before : List ℕ) (fs : Fields) : Type 0 where
    pub last : ℕ
    pub set : Bool
    pub later : Fields
    pub are : AreFields m last set later
    pub bytes : rest ≡ bytes_of later
    pub all : written ++ fields_text labels depth later ≡ before ++ fields_text labels depth fs

  pub record Keeps (m : MessageName) (whole rest written before : List ℕ) : Type 0 where
    pub short : length rest ≤ length whole
    pub goes : (last : ℕ) (set : Bool) (fs : Fields) → AreFields m last set fs → whole ≡ bytes_of fs → Left m rest written before fs

  -- no record is left, or the first that is left is of no named field
  abbrev pub IsLast : MessageName → List ℕ → Option Front → Type 0
  IsLast m rest None = Finds rest None
  IsLast m rest (Some front) = Finds rest (Some front) × (row_numbered m front.number ≡ None)

  unnamed_here : (m : MessageName) (rest : List ℕ) (o : Option Front) (row : Row) (r : Record) (later : List ℕ) → IsLast m rest o
      → by_number row.1.number (rows_of m) ≡ Some row
      → r.number ≡ row.1.number → IsRecord r → rest ≡ r.text ++ later → ⊥
  unfolding row_numbered
  unnamed_here m rest None row r later is known count record_is split = front_there rest r later is record_is split
  unnamed_here m rest (Some front) row r later (finds, none) known count record_is split =
      let x = front_holds rest front r later finds record_is split in
      let e = ap (λ k. by_number k (rows_of m)) (x.number ∙ count) in
      cc

  only_extra : (m : MessageName) (last : ℕ) (set : Bool) (fs : Fields) (rest : List ℕ) (o : Option Front) → AreFields m last set fs → rest ≡ bytes_of fs
      → length rest < 2 ^ 64
      → IsLast m rest o → fields_text labels depth fs ≡ text_of_lines (extra_lines depth rest)
  only_extra m last set (extra more) rest o un is small end = ap (λ b. text_of_lines (extra_lines depth b)) (sym is)
  only_extra m last set (number row v later) rest o (next, of, some, are) is small end =
      absurd (unnamed_here m rest o row (number_record row.1.number v) (bytes_of later) end next.known refl
      (number_is_record row.1.number v (named_number m row next.known) (number_small row.1.kind v of)) (is ∙ number_split row.1.number v (bytes_of later)))
  only_extra m last set (bytes row held later) rest o (next, of, some, are) is small end =
      let split = is ∙ bytes_split row.1.number held (bytes_of later) in
      let size : length held < 2 ^ 64 = omega (arith, small, ap length split, payload_fits row.1.number held (bytes_of later)) in
      absurd (unnamed_here m rest o row (bytes_record row.1.number held) (bytes_of later) end next.known refl
      (bytes_is_record row.1.number held (named_number m row next.known) size) split)
  only_extra m last set (message row inner later) rest o (next, within, are) is small end =
      let split = is ∙ bytes_split row.1.number (bytes_of inner) (bytes_of later) in
      let size : length (bytes_of inner) < 2 ^ 64 = omega (arith, small, ap length split, payload_fits row.1.number (bytes_of inner) (bytes_of later)) in
      absurd (unnamed_here m rest o row (bytes_record row.1.number (bytes_of inner)) (bytes_of later) end next.known refl
      (bytes_is_record row.1.number (bytes_of inner) (named_number m row next.known) size) split)

  -- what is left where no named field is left
  pub left_extra : (m : MessageName) (whole rest written before : List ℕ) (o : Option Front) → Keeps m whole rest written before → length whole < 2 ^ 64
      → IsLast m rest o
      → (last : ℕ) (set : Bool) (fs : Fields) → AreFields m last set fs → whole ≡ bytes_of fs
      → written ++ text_of_lines (extra_lines depth rest) ≡ before ++ fields_text labels depth fs
  left_extra m whole rest written before o keeps small end last set fs are is =
      let left = keeps.goes last set fs are is in
      let short : length rest < 2 ^ 64 = omega (arith, keeps.short, small) in
      ap (λ l. written ++ l) (sym (only_extra m left.last left.set left.later rest o left.are left.bytes short end)) ∙ left.all

  -- where no record is left, all fields are written
  pub left_none : (m : MessageName) (whole rest written before : List ℕ) → Keeps m whole rest written before → length whole < 2 ^ 64 → Finds rest None
      → (last : ℕ) (set : Bool) (fs : Fields) → AreFields m last set fs → whole ≡ bytes_of fs → written ≡ before ++ fields_text labels depth fs
  left_none m whole rest written before keeps small none last set fs are is =
      let left = keeps.goes last set fs are is in
      let e = left_extra m whole rest written before None keeps small none last set fs are is in
      let nothing : rest ≡ [] = no_bytes m left.last left.set left.later rest left.are left.bytes (omega (arith, keeps.short, small)) none in
      sym (append-nil written) ∙ ap (λ b. written ++ text_of_lines (extra_lines depth b)) (sym nothing) ∙ e

  -- one field more is written
  pub goes_on : (m : MessageName) (whole rest written before written' : List ℕ) (front : Front) (row : Row) → Keeps m whole rest written before
      → length whole < 2 ^ 64
      → Finds rest (Some front) → row_numbered m front.number ≡ Some row → length front.after.now < length rest
      → ((text later : List ℕ) → HeadText row.1.kind row front.value front.payload.now text later → written' ++ later ≡ written ++ text)
      → Keeps m whole front.after.now written' before
  goes_on m whole rest written before written' front row keeps small finds named shorter pushes = record {
    short = omega (arith, keeps.short, shorter);
    goes = λ last set fs are is.
        let left = keeps.goes last set fs are is in
        let h = head m left.last left.set left.later rest front row left.are left.bytes (omega (arith, keeps.short, small)) finds named in
        record {
          last = h.last;
          set = h.set;
          later = h.later;
          are = h.are;
          bytes = h.after;
          all = pushes (fields_text labels depth left.later) (fields_text labels depth h.later) h.text ∙ left.all;
        };
  }

  -- ---- each kind of field

  pub behind : (written written' line text later : List ℕ) → written' ≡ written ++ line → text ≡ line ++ later → written' ++ later ≡ written ++ text
  behind written written' line text later pushed is = ap (λ x. x ++ later) pushed ∙ append_assoc written line later ∙ ap (λ x. written ++ x) (sym is)

  numeric_text : (k : FieldKind) (row : Row) (v : ℕ) (p text later : List ℕ) → IsNumeric k → HeadText k row v p text later
      → text ≡ line_text (item_line depth row.0 (number_text row.1.kind v)) ++ later
  numeric_text Int64 row v p text later is h = h
  numeric_text Int32 row v p text later is h = h
  numeric_text Uint32 row v p text later is h = h
  numeric_text Enum row v p text later is h = h
  numeric_text Flag row v p text later is h = h
  numeric_text String row v p text later is h = absurd is
  numeric_text Bytes row v p text later is h = absurd is
  numeric_text (Message m) row v p text later is h = absurd is

  -- once its line is written, a number has moved from the text that is to come to the text that is written
  pub number_arm : (row : Row) (v : ℕ) (p written written' text later : List ℕ) → IsNumeric row.1.kind
      → written' ≡ written ++ line_text (item_line depth row.0 (number_text row.1.kind v)) → HeadText row.1.kind row v p text later
      → written' ++ later ≡ written ++ text
  number_arm row v p written written' text later is pushed h =
      behind written written' (line_text (item_line depth row.0 (number_text row.1.kind v))) text later pushed (numeric_text row.1.kind row v p text later is h)

  held_of : (k : FieldKind) (row : Row) (v : ℕ) (p text later : List ℕ) → IsHeld k → HeadText k row v p text later
      → IsBytesOf row.1.kind p × (text ≡ text_of_lines (held_lines labels depth row p) ++ later)
  held_of Int64 row v p text later is h = absurd is
  held_of Int32 row v p text later is h = absurd is
  held_of Uint32 row v p text later is h = absurd is
  held_of Enum row v p text later is h = absurd is
  held_of Flag row v p text later is h = absurd is
  held_of String row v p text later is h = h
  held_of Bytes row v p text later is h = h
  held_of (Message m) row v p text later is h = absurd is

  -- so has a string or bytes, also where an empty one has no line
  pub held_arm : (row : Row) (v : ℕ) (p written written' text later : List ℕ) → IsHeld row.1.kind
      → (IsBytesOf row.1.kind p → written' ≡ written ++ text_of_lines (held_lines labels depth row p)) → HeadText row.1.kind row v p text later
      → written' ++ later ≡ written ++ text
  held_arm row v p written written' text later is pushed h =
      let x = held_of row.1.kind row v p text later is h in
      behind written written' (text_of_lines (held_lines labels depth row p)) text later (pushed x.0) x.1

  -- and so has a message, after its opening line, its fields one deeper, and its closing line
  pub message_arm : (n : MessageName) (row : Row) (v : ℕ) (p written one two three text later : List ℕ) → row.1.kind ≡ Message n
      → one ≡ written ++ line_text (item_line depth row.0 opening)
      → ((last : ℕ) (set : Bool) (fs : Fields) → AreFields n last set fs → p ≡ bytes_of fs → two ≡ one ++ fields_text labels (depth + 1) fs)
      → three ≡ two ++ line_text (closing_line depth) → HeadText row.1.kind row v p text later → three ++ later ≡ written ++ text
  message_arm n row v p written one two three text later same opened printed closed h =
      let (inner, are, is, all) = subst (λ (x : FieldKind). HeadText x row v p text later) same h in
      let inside = printed 0 false inner are is in
      let a = line_text (item_line depth row.0 opening) in
      let b = fields_text labels (depth + 1) inner in
      let d = line_text (closing_line depth) in
      ap (λ l. l ++ later) (closed ∙ ap (λ l. l ++ d) (inside ∙ ap (λ l. l ++ b) opened)) ∙ four written a b d later ∙ ap (λ l. written ++ l) (sym all)
