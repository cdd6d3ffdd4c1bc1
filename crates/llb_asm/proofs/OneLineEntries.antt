-- What is written of entries is on its lines as it is.
use Rattle.std.proofs.Common.{◌≡◌, ◌≢◌, ℕ, ◌+◌, ◌^◌, ◌<◌, ◌≤◌, nat_lt, nat_le, ◌==◌, ◌&&◌, Bool, true, false, List, [], ◌∷◌, ◌++◌, length, Option, Some, None}
use Rattle.std.proofs.Common.{refl, sym, ap, subst, ◌∙◌, append_assoc, length-append, true≢false, arith}
use Rattle.std.specs.Prelude.{codes, map, position}
use Rattle.std.specs.List.{AllByRecursion, list_all, find, position_or_len}
use Rattle.std.specs.Str.{IsUtf8, is_utf8, IsAscii}
use Rattle.std.proofs.lemmas.Bool.{and_parts, cond_both, leb-true, le-leb, ltb-true}
use Rattle.std.proofs.lemmas.List.Elements.{All-weaker}
use Rattle.std.proofs.lemmas.List.Folds.{list_all-append}
use Rattle.std.proofs.lemmas.List.Sums.{AllPass-from_list_all, list_all-from_AllPass}
use Rattle.std.proofs.lemmas.Str.{IsUtf8-append, IsUtf8-from_ascii, IsUtf8-from_is_utf8, is_utf8-from_IsUtf8}
use Rattle.std.proofs.lemmas.Str.Ascii.{IsAscii-nil, IsAscii-cons, IsAscii-from_all}
use Rattle.llb_wire.specs.Spelling.{AreBytes, varint_text, tag_text}
use Rattle.llb_wire.specs.declared.field.Wire.TheVariants as wire
use Rattle.llb_wire.specs.Digest.{digest_text}
use Rattle.llb_wire.specs.Hexadecimal.{hex_text}
use Rattle.llb_wire.proofs.Varints.{are_bytes-front, are_bytes-back}
use Rattle.llb_ops.specs.declared.table.MessageName.{MessageName}
use Rattle.llb_ops.specs.declared.table.MessageName.TheVariants as named
use Rattle.llb_ops.specs.declared.table.FieldKind.{FieldKind}
use Rattle.llb_ops.specs.declared.table.FieldKind.TheVariants as kind
use Rattle.llb_ops.specs.Table.{Row, rows_of, by_number}
use Rattle.llb_ops.specs.Writing.{set_number, set_bytes}
use Rattle.llb_ops.specs.CanonicalFields.{Fields, extra, number, bytes, message, bytes_of, without_empty, IsNumberOf, IsBytesOf, AreFields}
use Rattle.llb_asm.specs.ItemLines.{kept}
use Rattle.llb_asm.specs.DisassembledText.{PlainLine, label_for, labelled_text, string_for, held_text, opening, closing_line, extra_lines, field_lines}
use Rattle.llb_asm.specs.DisassembledText.{HasForm, Form, structured, raw, entry_lines, Formed, HaveForms, AreFormed, plain_lines, plain_text}
use Rattle.llb_asm.specs.FieldValueTexts.{IsSolid, number_text}
use Rattle.llb_wire.specs.TextComparison.{is_text}
use Rattle.llb_asm.proofs.OneLineValues.{number_solid, string_solid, bytes_solid, label_solid}
use Rattle.llb_asm.proofs.LineSplitting.{IsContent, AreContents, kept_lines}

-- ---- a name, a space, and a value

-- bytes of ASCII above `#`
abbrev is_name_byte : ℕ → Bool
is_name_byte b = nat_le 36 b && nat_lt b 128

-- at least one of them
abbrev is_name : List ℕ → Bool
is_name [] = false
is_name (b ∷ name) = list_all is_name_byte (b ∷ name)

name_above : (name : List ℕ) → list_all is_name_byte name ≡ true → list_all (λ b. nat_le 32 b) name ≡ true
name_above name is =
    list_all-from_AllPass (λ b. nat_le 32 b) name
    (All-weaker (λ b. is_name_byte b ≡ true) (λ b. nat_le 32 b ≡ true)
    (λ b h. let above = leb-true 36 b (and_parts (nat_le 36 b) (nat_lt b 128) h).0 in le-leb 32 b (omega arith)) name
    (AllPass-from_list_all is_name_byte name is))

name_ascii : (name : List ℕ) → list_all is_name_byte name ≡ true → IsAscii name
name_ascii name is = IsAscii-from_all name
    (All-weaker (λ b. is_name_byte b ≡ true) (λ b. b < 128) (λ b h. ltb-true b 128 (and_parts (nat_le 36 b) (nat_lt b 128) h).1) name
    (AllPass-from_list_all is_name_byte name is))

space_utf8 : IsUtf8 (32 ∷ [])
space_utf8 = IsUtf8-from_ascii (32 ∷ []) (IsAscii-cons 32 [] (omega arith) IsAscii-nil)

item_is : (name value : List ℕ) → is_name name ≡ true → IsSolid value → IsContent (name ++ 32 ∷ value)
item_is [] value is solid = absurd (true≢false (sym is))
item_is (b ∷ name) value is solid =
    let first : 36 ≤ b = leb-true 36 b (and_parts (nat_le 36 b) (nat_lt b 128) (and_parts (is_name_byte b) (list_all is_name_byte name) is).0).0 in
    record {
      solid = record {
        begins = record { byte = b; behind = name ++ 32 ∷ value; is = refl; above = omega arith };
        ends = record {
          before = (b ∷ name) ++ 32 ∷ solid.ends.before;
          byte = solid.ends.byte;
          is = ap (λ v. (b ∷ name) ++ 32 ∷ v) solid.ends.is ∙ sym (append_assoc (b ∷ name) (32 ∷ solid.ends.before) (solid.ends.byte ∷ []));
          above = solid.ends.above;
        };
        plain =
            list_all-append (λ b. nat_le 32 b) (b ∷ name) (32 ∷ value)
            ∙ (λ i. name_above (b ∷ name) is i && solid.plain i);
        utf8 = is_utf8-from_IsUtf8 ((b ∷ name) ++ 32 ∷ value)
            (IsUtf8-append (b ∷ name) (32 ∷ value) (IsUtf8-from_ascii (b ∷ name) (name_ascii (b ∷ name) is))
            (IsUtf8-append (32 ∷ []) value space_utf8 (IsUtf8-from_is_utf8 value solid.utf8)));
      };
      other = λ e. omega arith;
    }

brace_is : (b : ℕ) → 33 ≤ b → b < 128 → b ≢ 35 → IsContent (b ∷ [])
brace_is b above below other = record {
  solid = record {
    begins = record { byte = b; behind = []; is = refl; above = above };
    ends = record { before = []; byte = b; is = refl; above = above };
    plain = ap (λ t. t && true) (le-leb 32 b (omega arith));
    utf8 = is_utf8-from_IsUtf8 (b ∷ []) (IsUtf8-from_ascii (b ∷ []) (IsAscii-cons b [] below IsAscii-nil));
  };
  other = other;
}

opening_solid : IsSolid opening
opening_solid = (brace_is 123 (omega arith) (omega arith) (λ e. omega arith)).solid

closing_is : IsContent (codes "}")
closing_is = brace_is 125 (omega arith) (omega arith) (λ e. omega arith)

-- ---- the names of the table

names_pass : (m : MessageName) → list_all (λ r. is_name r.0) (rows_of m) ≡ true
names_pass named.Definition = refl
names_pass named.Op = refl
names_pass named.Input = refl
names_pass named.SourceOp = refl
names_pass named.AttributeEntry = refl
names_pass named.FileOp = refl
names_pass named.FileAction = refl
names_pass named.FileActionCopy = refl
names_pass named.FileActionMkFile = refl
names_pass named.FileActionMkDir = refl
names_pass named.FileActionRm = refl
names_pass named.ChownOpt = refl
names_pass named.UserOpt = refl
names_pass named.ExecOp = refl
names_pass named.Meta = refl
names_pass named.Mount = refl
names_pass named.TmpfsOpt = refl
names_pass named.CacheOpt = refl
names_pass named.MergeOp = refl
names_pass named.MergeInput = refl

found_passes : (p test : Row → Bool) (rows : List Row) (row : Row) → list_all p rows ≡ true → find test rows ≡ Some row → p row ≡ true
found_passes p test [] row all is = absurd cc
found_passes p test (r ∷ rows) row all is =
    let both = and_parts (p r) (list_all p rows) all in
    cond_both (test r) (Some r) (find test rows) (λ o. o ≡ Some row → p row ≡ true)
    (λ here e. let same : r ≡ row = cc in ap p (sym same) ∙ both.0)
    (λ behind e. found_passes p test rows row both.1 e) is

row_named : (m : MessageName) (n : ℕ) (row : Row) → by_number n (rows_of m) ≡ Some row → is_name row.0 ≡ true
row_named m n row is = found_passes (λ r. is_name r.0) (λ r. r.1.number == n) (rows_of m) row (names_pass m) is

-- ---- what the fields of an entry are

-- each has such a name and a value of its kind, and what is held is bytes
abbrev AreSpellable : Fields → Type 0
AreSpellable (extra more) = AreBytes more
AreSpellable (number row v rest) = (is_name row.0 ≡ true) × IsNumberOf row.1.kind v × AreSpellable rest
AreSpellable (bytes row held rest) = (is_name row.0 ≡ true) × IsBytesOf row.1.kind held × AreBytes held × AreSpellable rest
AreSpellable (message row inner rest) = (is_name row.0 ≡ true) × AreSpellable inner × AreSpellable rest

payload_bytes : (n : ℕ) (held : List ℕ) → AreBytes (set_bytes n held) → AreBytes held
unfolding set_bytes
payload_bytes n held are = are_bytes-back (varint_text (length held)) held (are_bytes-back (tag_text n wire.Len) (varint_text (length held) ++ held) are)

are_spellable : (m : MessageName) (last : ℕ) (set : Bool) (fs : Fields) → AreFields m last set fs → AreBytes (bytes_of fs) → AreSpellable fs
are_spellable m last set (extra more) are bs = bs
are_spellable m last set (number row v rest) are bs =
    (row_named m row.1.number row are.0.known, are.1, are_spellable m _ _ rest are.3 (are_bytes-back (set_number row.1.number v) (bytes_of rest) bs))
are_spellable m last set (bytes row held rest) are bs = (
  row_named m row.1.number row are.0.known,
  are.1,
  payload_bytes row.1.number held (are_bytes-front (set_bytes row.1.number held) (bytes_of rest) bs),
  are_spellable m _ _ rest are.3 (are_bytes-back (set_bytes row.1.number held) (bytes_of rest) bs),
)
are_spellable m last set (message row inner rest) are bs = (
  row_named m row.1.number row are.0.known,
  are_spellable are.1.0 0 false inner are.1.2
      (payload_bytes row.1.number (bytes_of inner) (are_bytes-front (set_bytes row.1.number (bytes_of inner)) (bytes_of rest) bs)),
  are_spellable m _ _ rest are.2 (are_bytes-back (set_bytes row.1.number (bytes_of inner)) (bytes_of rest) bs),
)

fewer_spellable : (fs : Fields) → AreSpellable fs → AreSpellable (without_empty fs)
fewer_spellable (extra more) can = can
fewer_spellable (number row v rest) can = (can.0, can.1, fewer_spellable rest can.2)
fewer_spellable (bytes row held rest) can =
    cond_both (row.1.of_entry && (length held == 0)) (without_empty rest) (bytes row held (without_empty rest)) AreSpellable
    (λ empty. fewer_spellable rest can.3)
    (λ full. (can.0, can.1, can.2, fewer_spellable rest can.3))
fewer_spellable (message row inner rest) can = (can.0, fewer_spellable inner can.1, fewer_spellable rest can.2)

-- ---- the values

found_below : (p : List ℕ → Bool) (labels : List (List ℕ)) (k : ℕ) → position p labels ≡ Some k → k < length labels
found_below p labels k =
    let first = position_or_len p labels in
    cond_both (nat_lt first (length labels)) (Some first) None (λ o. o ≡ Some k → k < length labels)
    (λ below e. let same : first ≡ k = cc in subst (λ j. j < length labels) same (ltb-true first (length labels) below))
    (λ past e. absurd cc)

labelled_solid : (string : List ℕ) (o : Option ℕ) → is_utf8 string ≡ true → ((k : ℕ) → o ≡ Some k → k < 2 ^ 64) → IsSolid (labelled_text string o)
labelled_solid string None utf8 small = string_solid string utf8
labelled_solid string (Some k) utf8 small = label_solid k (small k refl)

string_is : (labels : List (List ℕ)) (name string : List ℕ) → length labels ≤ 2 ^ 64 → is_utf8 string ≡ true → IsSolid (string_for labels name string)
string_is labels name string few utf8 =
    cond_both (is_text name (codes "digest")) (label_for labels string) None (λ o. IsSolid (labelled_text string o))
    (λ digest. labelled_solid string (label_for labels string) utf8 (λ k e. let below = found_below (is_text string) labels k e in omega arith))
    (λ other. string_solid string utf8)

held_solid : (k : FieldKind) (labels : List (List ℕ)) (name held : List ℕ) → length labels ≤ 2 ^ 64 → IsBytesOf k held → AreBytes held
    → IsSolid (held_text k labels name held)
held_solid kind.String labels name held few is are = string_is labels name held few is
held_solid kind.Bytes labels name held few is are = bytes_solid held are
held_solid kind.Int64 labels name held few is are = absurd is
held_solid kind.Int32 labels name held few is are = absurd is
held_solid kind.Uint32 labels name held few is are = absurd is
held_solid kind.Enum labels name held few is are = absurd is
held_solid kind.Bool labels name held few is are = absurd is
held_solid (kind.Message m) labels name held few is are = absurd is

-- ---- the lines

joined : (some others : List PlainLine) → AreContents some → AreContents others → AreContents (some ++ others)
joined [] others a b = b
joined (l ∷ some) others a b = (a.0, joined some others a.1 b)

extra_is : (depth : ℕ) (more : List ℕ) → AreBytes more → AreContents (extra_lines depth more)
extra_is depth [] are = tt
extra_is depth (b ∷ more) are = (item_is (codes "extra") (hex_text (b ∷ more)) refl (bytes_solid (b ∷ more) are), tt)

fields_are : (labels : List (List ℕ)) (depth : ℕ) (fs : Fields) → length labels ≤ 2 ^ 64 → AreSpellable fs → AreContents (field_lines labels depth fs)
fields_are labels depth (extra more) few can = extra_is depth more can
fields_are labels depth (number row v rest) few can =
    (item_is row.0 (number_text row.1.kind v) can.0 (number_solid row.1.kind v can.1), fields_are labels depth rest few can.2)
fields_are labels depth (bytes row held rest) few can =
    let solid = held_solid row.1.kind labels row.0 held few can.1 can.2 in
    (item_is row.0 (held_text row.1.kind labels row.0 held) can.0 solid, fields_are labels depth rest few can.3)
fields_are labels depth (message row inner rest) few can = (
  item_is row.0 opening can.0 opening_solid,
  joined (field_lines labels (depth + 1) inner) (closing_line depth ∷ field_lines labels depth rest) (fields_are labels (depth + 1) inner few can.1)
      (closing_is, fields_are labels depth rest few can.2),
)

entry_are : (labels : List (List ℕ)) (entry : List ℕ) (form : Form) → length labels ≤ 2 ^ 64 → AreBytes entry → HasForm entry form
    → AreContents (entry_lines labels entry form)
entry_are labels entry (structured op has) few are is =
    let can = are_spellable named.Op 0 false has.fields has.are (subst AreBytes (sym is.1 ∙ has.written) are) in (
      item_is (codes "op") opening refl opening_solid,
      joined (field_lines labels 1 (without_empty has.fields)) (closing_line 0 ∷ [])
          (fields_are labels 1 (without_empty has.fields) few (fewer_spellable has.fields can)) (closing_is, tt),
    )
entry_are labels entry raw few are is = (item_is (codes "raw") (hex_text entry) refl (bytes_solid entry are), tt)

lines_are : (labels : List (List ℕ)) (xs : List Formed) → length labels + length xs ≤ 2 ^ 64 → AllByRecursion AreBytes (map (λ x. x.0) xs)
    → HaveForms HasForm xs → AreContents (plain_lines labels xs)
lines_are labels [] few are have = tt
lines_are labels (x ∷ xs) few are have =
    joined (entry_lines labels x.0 x.1) (plain_lines (labels ++ digest_text x.0 ∷ []) xs) (entry_are labels x.0 x.1 (omega arith) are.0 have.0)
    (lines_are (labels ++ digest_text x.0 ∷ []) xs (omega (arith, length-append labels (digest_text x.0 ∷ []))) are.1 have.1)

as_many : (xs : List Formed) → length (map (λ x. x.0) xs) ≡ length xs
as_many [] = refl
as_many (x ∷ xs) = omega (arith, as_many xs)

pub plain_contents : (entries : List (List ℕ)) → AllByRecursion AreBytes entries → length entries ≤ 2 ^ 64 → (xs : List Formed) → AreFormed entries xs
    → AreContents (plain_lines [] xs)
plain_contents entries are few xs formed =
    let many : length xs ≡ length entries = sym (as_many xs) ∙ ap length formed.same in
    lines_are [] xs (omega arith) (subst (AllByRecursion AreBytes) (sym formed.same) are) formed.forms

-- the lines that are kept of the text of entries are the lines that were written
pub kept_plain : (entries : List (List ℕ)) → AllByRecursion AreBytes entries → length entries ≤ 2 ^ 64 → (xs : List Formed) → AreFormed entries xs
    → map (λ l. l.1) (kept (plain_text xs)) ≡ map (λ l. l.1) (plain_lines [] xs)
kept_plain entries are few xs formed = kept_lines (plain_lines [] xs) (plain_contents entries are few xs formed)
