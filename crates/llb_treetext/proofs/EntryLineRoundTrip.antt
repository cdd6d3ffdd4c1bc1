-- The line of an entry is read as the entry, and it is a text with no line end in it.
use Rattle.std.proofs.Common.{◌≡◌, ◌≢◌, ℕ, suc, ◌+◌, ◌-◌, ◌/◌, ◌%◌, ◌^◌, ◌<◌, ◌≤◌, nat_lt, nat_eq, nat_le, ◌==◌, Bool, true}
use Rattle.std.proofs.Common.{false, not, cond, ◌&&◌, ◌||◌, true≢false, List, [], ◌∷◌, ◌++◌, length, get_or, take, drop, Option}
use Rattle.std.proofs.Common.{Some, None, refl, sym, ap, subst, ◌∙◌, arith, append_assoc, length-append}
use Rattle.std.specs.Prelude.{codes}
use Rattle.std.proofs.lemmas.Bool.{lt-ltb, le-ltb, lt-leb, le-leb, ltb-true, ltb-false, eq-eqb, ne_eqb}
use Rattle.std.proofs.lemmas.List.{take_at, append-nil, get_or_past}
use Rattle.std.proofs.lemmas.List.Elements.{All-nil, All-cons, All-head, All-tail, All-append, All-weaker}
use Rattle.std.proofs.lemmas.List.Sums.{AllPass-from_list_all, list_all-from_AllPass}
use Rattle.std.proofs.lemmas.Fmt.{decimal_digit, decimal_by_steps, IsAscii-decimal}
use Rattle.std.proofs.lemmas.Str.{IsUtf8-append, IsUtf8-nil, IsUtf8-from_ascii}
use Rattle.std.proofs.lemmas.Str.Ascii.{IsAscii-nil, IsAscii-cons}
use Rattle.std.specs.List.{All, list_all, position_or_len, before_first, after_first}
use Rattle.std.specs.Str.{IsUtf8}
use Rattle.std.specs.Fmt.{decimal}
use Rattle.std.specs.Result.{result_ok}
use Rattle.std.specs.Cmp.Lexicographic.{pointwise}
use Rattle.hex.specs.Hex.{encode_with, encode_lower, lower_digits, hex_digit_value}
use Rattle.hex.proofs.HexLemmas.{IsAscii-encode_with, IsDigits-lower_digits}
use Rattle.llb_wire.specs.Spelling.{AreBytes}
use Rattle.llb_wire.specs.Hexadecimal.{hex_text}
use Rattle.llb_wire.proofs.HexTexts.{content_is, is_content_text}
use Rattle.llb_tree.specs.Path.{is_name, is_name_byte, IsPath, joined, path_of}
use Rattle.llb_tree.specs.ModeAndOwner.{MetaValue, IsMeta, meta_of}
use Rattle.llb_tree.specs.ModeTexts.{is_octal_digit, octal}
use Rattle.llb_tree.specs.Tree.{Entry, Dir, File}
use Rattle.llb_treetext.specs.TreeText.{mode_text, meta_text, names_text, path_text, row_text}
use Rattle.llb_treetext.specs.TextGrammar.{IsRow}
use Rattle.llb_treetext.specs.LineFields as fields
use Rattle.llb_treetext.specs.LineFields.{Fields, on, cut_at, mode_in, decimal_in, are_names, is_path, dir_parts, file_parts, parts_in}
use Rattle.llb_treetext.specs.LineFields.{parts_from, dir_in, file_in, row_from, row_in}
use Rattle.llb_tree.proofs.NameTests.{name-IsUtf8, passes_tests, from_space}
use Rattle.llb_treetext.proofs.Numbers.{decimal_written}
use Rattle.llb_tree.proofs.PathTextRoundTrip.{reads_back, parts_joined}

-- ---- a text is cut at the first byte of a kind

module _ (c : ℕ) where
  place : (w rest : List ℕ) → All (λ b. nat_eq b c ≡ false) w → position_or_len (λ b. nat_eq b c) (w ++ c ∷ rest) ≡ length w
  place [] rest all = ap (λ t. cond (not t) (1 + position_or_len (λ b. nat_eq b c) rest) 0) (eq-eqb c c refl)
  place (x ∷ w) rest all =
      ap (λ t. cond (not t) (1 + position_or_len (λ b. nat_eq b c) (w ++ c ∷ rest)) 0) (All-head (λ b. nat_eq b c ≡ false) x w all)
      ∙ ap (λ n. 1 + n) (place w rest (All-tail (λ b. nat_eq b c ≡ false) x w all)) ∙ one_more (length w)
    where
      one_more : (n : ℕ) → 1 + n ≡ suc n
      one_more n = omega arith

  take_front : (w rest : List ℕ) → take (length w) (w ++ c ∷ rest) ≡ w
  take_front w rest = take_at w (c ∷ rest) (length w) refl

  drop_front : (w rest : List ℕ) (n : ℕ) → n ≡ suc (length w) → drop n (w ++ c ∷ rest) ≡ rest
  drop_front [] rest n is = ap (λ k. drop k (c ∷ rest)) is
  drop_front (x ∷ w) rest n is = ap (λ k. drop k (x ∷ w ++ c ∷ rest)) is ∙ drop_front w rest (suc (length w)) refl

  -- a word without the byte is cut off at the byte, and the rest is what comes after it
  pub cut_is : (w rest : List ℕ) → All (λ b. nat_eq b c ≡ false) w → cut_at c (w ++ c ∷ rest) ≡ Some (w, rest)
  cut_is w rest all =
      let at = place w rest all in
      let long = length-append w (c ∷ rest) in
      ap (λ t. cond t (Some (before_first (λ b. nat_eq b c) (w ++ c ∷ rest), after_first (λ b. nat_eq b c) (w ++ c ∷ rest))) None)
      (lt-ltb _ _ (omega (arith, at, long)))
      ∙ (λ i. Some (take (at i) (w ++ c ∷ rest), drop (at i + 1) (w ++ c ∷ rest)))
      ∙ (λ i. Some (take_front w rest i, drop_front w rest (length w + 1) (omega arith) i))

-- all bytes are above a space (`Solid`), or at least a space, and so no control bytes below it (`Plain`)
abbrev pub Solid : List ℕ → Type 0
Solid w = All (λ b. 33 ≤ b) w

abbrev pub Plain : List ℕ → Type 0
Plain w = All (λ b. 32 ≤ b) w

pub solid_plain : (w : List ℕ) → Solid w → Plain w
solid_plain w solid = All-weaker (λ b. 33 ≤ b) (λ b. 32 ≤ b) (λ b h. omega arith) w solid

no_space : (w : List ℕ) → Solid w → All (λ b. nat_eq b 32 ≡ false) w
no_space w solid = All-weaker (λ b. 33 ≤ b) (λ b. nat_eq b 32 ≡ false) (λ b h. ne_eqb b 32 (λ e. omega arith)) w solid

-- a text with no byte below a space has no line end
pub no_end : (w : List ℕ) → Plain w → All (λ b. nat_eq b 10 ≡ false) w
no_end w plain = All-weaker (λ b. 32 ≤ b) (λ b. nat_eq b 10 ≡ false) (λ b h. ne_eqb b 10 (λ e. omega arith)) w plain

word : (w rest : List ℕ) → Solid w → cut_at 32 (w ++ 32 ∷ rest) ≡ Some (w, rest)
word w rest solid = cut_is 32 w rest (no_space w solid)

-- ---- digits

decimal_solid : (n : ℕ) → n < 2 ^ 64 → Solid (decimal n)
decimal_solid n small = decimal_by_steps (λ n ds. Solid ds)
    (λ n lt. All-cons (λ b. 33 ≤ b) (48 + n) [] (omega arith) (All-nil (λ b. 33 ≤ b)))
    (λ n ds le solid. All-append (λ b. 33 ≤ b) ds ((48 + n % 10) ∷ []) solid
    (All-cons (λ b. 33 ≤ b) (48 + n % 10) [] (omega arith) (All-nil (λ b. 33 ≤ b)))) n small

module _ (m : ℕ) (small : m ≤ 4095) where
  octal_is : mode_text m ≡ (48 + m / 512) ∷ (48 + m / 64 % 8) ∷ (48 + m / 8 % 8) ∷ (48 + m % 8) ∷ []
  octal_is = λ i. decimal_digit (m / 512) (omega arith) i
      ++ (decimal_digit (m / 64 % 8) (omega arith) i ++ (decimal_digit (m / 8 % 8) (omega arith) i ++ decimal_digit (m % 8) (omega arith) i))

  octal_value : octal ((48 + m / 512) ∷ (48 + m / 64 % 8) ∷ (48 + m / 8 % 8) ∷ (48 + m % 8) ∷ []) ≡ m
  octal_value = omega arith

  octal_byte : (k : ℕ) → k < 8 → is_octal_digit (48 + k) ≡ true
  octal_byte k lt = λ i. le-leb 48 (48 + k) (omega arith) i && le-leb (48 + k) 55 (omega arith) i

  all_octal : list_all is_octal_digit ((48 + m / 512) ∷ (48 + m / 64 % 8) ∷ (48 + m / 8 % 8) ∷ (48 + m % 8) ∷ []) ≡ true
  all_octal = λ i. octal_byte (m / 512) (omega arith) i
      && (octal_byte (m / 64 % 8) (omega arith) i && (octal_byte (m / 8 % 8) (omega arith) i && (octal_byte (m % 8) (omega arith) i && true)))

  mode_is : mode_in (mode_text m) ≡ Some m
  mode_is = ap mode_in octal_is
      ∙ ap (λ t. cond t (Some (octal ((48 + m / 512) ∷ (48 + m / 64 % 8) ∷ (48 + m / 8 % 8) ∷ (48 + m % 8) ∷ []))) None) all_octal
      ∙ ap (λ v. Some v) octal_value

  octal_solid : Solid (mode_text m)
  octal_solid =
      All-append (λ b. 33 ≤ b) (decimal (m / 512)) (decimal (m / 64 % 8) ++ (decimal (m / 8 % 8) ++ decimal (m % 8))) (decimal_solid (m / 512) (omega arith))
      (All-append (λ b. 33 ≤ b) (decimal (m / 64 % 8)) (decimal (m / 8 % 8) ++ decimal (m % 8)) (decimal_solid (m / 64 % 8) (omega arith))
      (All-append (λ b. 33 ≤ b) (decimal (m / 8 % 8)) (decimal (m % 8)) (decimal_solid (m / 8 % 8) (omega arith)) (decimal_solid (m % 8) (omega arith))))

-- ---- the mode and the owners

module _ (m : MetaValue) (is : IsMeta m) where
  new_meta : meta_of m.mode m.uid m.gid ≡ Some m
  new_meta = ap (λ t. cond t None (Some m)) (le_not 4095 m.mode is.mode)
    where
      le_not : (a b : ℕ) → b ≤ a → nat_lt a b ≡ false
      le_not a b le = le-ltb a b le

  -- the text of the metadata, in the groups in which it is read: the mode, the user and the group, a space after each
  pub grouped : (rest : List ℕ) → meta_text m ++ rest ≡ mode_text m.mode ++ 32 ∷ (decimal m.uid ++ 32 ∷ (decimal m.gid ++ 32 ∷ rest))
  grouped rest =
      append_assoc (mode_text m.mode) (32 ∷ (decimal m.uid ++ (32 ∷ (decimal m.gid ++ 32 ∷ [])))) rest
      ∙ ap (λ x. mode_text m.mode ++ 32 ∷ x) (append_assoc (decimal m.uid) (32 ∷ (decimal m.gid ++ 32 ∷ [])) rest)
      ∙ ap (λ x. mode_text m.mode ++ 32 ∷ (decimal m.uid ++ 32 ∷ x)) (append_assoc (decimal m.gid) (32 ∷ []) rest)

  pub meta_is : (rest : List ℕ) → fields.meta_in (meta_text m ++ rest) ≡ Some (m, rest)
  meta_is rest =
      let uid = decimal_solid m.uid (omega (arith, is.uid)) in
      let gid = decimal_solid m.gid (omega (arith, is.gid)) in
      ap fields.meta_in (grouped rest)
      ∙ ap (λ o. on o (λ a. on (cut_at 32 a.1)
      (λ u. on (cut_at 32 u.1)
      (λ g. on (mode_in a.0) (λ mode. on (decimal_in u.0)
      (λ uid. on (decimal_in g.0) (λ gid. on (meta_of mode uid gid) (λ meta. Some (meta, g.1)))))))))
      (word (mode_text m.mode) (decimal m.uid ++ 32 ∷ (decimal m.gid ++ 32 ∷ rest)) (octal_solid m.mode is.mode))
      ∙ ap (λ o. on o (λ u. on (cut_at 32 u.1) (λ g. on (mode_in (mode_text m.mode))
      (λ mode. on (decimal_in u.0) (λ uid. on (decimal_in g.0) (λ gid. on (meta_of mode uid gid) (λ meta. Some (meta, g.1))))))))
      (word (decimal m.uid) (decimal m.gid ++ 32 ∷ rest) uid)
      ∙ ap (λ o. on o (λ g. on (mode_in (mode_text m.mode))
      (λ mode. on (decimal_in (decimal m.uid)) (λ uid. on (decimal_in g.0) (λ gid. on (meta_of mode uid gid) (λ meta. Some (meta, g.1)))))))
      (word (decimal m.gid) rest gid)
      ∙ ap (λ o. on o (λ mode. on (decimal_in (decimal m.uid))
      (λ uid. on (decimal_in (decimal m.gid)) (λ gid. on (meta_of mode uid gid) (λ meta. Some (meta, rest)))))) (mode_is m.mode is.mode)
      ∙ ap (λ o. on o (λ uid. on (decimal_in (decimal m.gid)) (λ gid. on (meta_of m.mode uid gid) (λ meta. Some (meta, rest))))) (decimal_written m.uid is.uid)
      ∙ ap (λ o. on o (λ gid. on (meta_of m.mode m.uid gid) (λ meta. Some (meta, rest)))) (decimal_written m.gid is.gid)
      ∙ ap (λ o. on o (λ meta. Some (meta, rest))) new_meta

-- ---- the content

digit_solid : (c d : ℕ) → hex_digit_value c ≡ Some d → 33 ≤ c
digit_solid c d is = by_cases (nat_lt c 33) refl
  where
    none : c < 33 → hex_digit_value c ≡ None
    none lt = (λ i. cond (high 65 (omega arith) i && nat_le c 70) (Some (c - 55))
        (cond (high 97 (omega arith) i && nat_le c 102) (Some (c - 87)) (cond (high 48 (omega arith) i && nat_le c 57) (Some (c - 48)) None)))
      where
        high : (k : ℕ) → c < k → nat_le k c ≡ false
        high k lt = lt-leb k c lt

    by_cases : (t : Bool) → nat_lt c 33 ≡ t → 33 ≤ c
    by_cases true t = let e : ◌≡◌ {A = Option ℕ} (Some d) None = sym is ∙ none (ltb-true c 33 t) in absurd cc
    by_cases false t = ltb-false c 33 t

encode_solid : (content : List ℕ) → AreBytes content → Solid (encode_with lower_digits content)
unfolding encode_with
encode_solid [] bytes = All-nil (λ b. 33 ≤ b)
encode_solid (b ∷ content) bytes =
    let small : b < 256 = bytes.0 in
    All-cons (λ b. 33 ≤ b) (get_or lower_digits (b / 16) 0) (get_or lower_digits (b % 16) 0 ∷ encode_with lower_digits content)
    (digit_solid _ (b / 16) (IsDigits-lower_digits (b / 16) (omega arith)))
    (All-cons (λ b. 33 ≤ b) (get_or lower_digits (b % 16) 0) (encode_with lower_digits content)
    (digit_solid _ (b % 16) (IsDigits-lower_digits (b % 16) (omega arith)))
    (encode_solid content bytes.1))

content_solid : (content : List ℕ) → AreBytes content → Solid (hex_text content)
content_solid [] bytes = All-cons (λ b. 33 ≤ b) 45 [] (omega arith) (All-nil (λ b. 33 ≤ b))
content_solid (b ∷ content) bytes = encode_solid (b ∷ content) bytes

-- ---- the path

-- a path's text is a slash and then the names with slashes between them
pub path_joined : (p : List (List ℕ)) → path_text p ≡ 47 ∷ joined p
path_joined [] = refl
path_joined (n ∷ p) = go n p
  where
    go : (n : List ℕ) (p : List (List ℕ)) → names_text (n ∷ p) ≡ 47 ∷ joined (n ∷ p)
    go n [] = ap (λ x. 47 ∷ x) (append-nil n)
    go n (m ∷ p) = ap (λ x. 47 ∷ (n ++ x)) (go m p)

path_is : (p : List (List ℕ)) → IsPath p → result_ok (path_of (path_text p)) ≡ Some p
path_is p path = ap (λ t. result_ok (path_of t)) (path_joined p) ∙ ap result_ok (reads_back p path).absolute

-- what a line is by its kind
abbrev pub by_kind : List ℕ × List ℕ → Option Fields
by_kind k = on (fields.meta_in k.1) (λ m.
    cond (pointwise nat_eq k.0 (codes "d")) (dir_parts m.0 m.1)
    (cond (pointwise nat_eq k.0 (codes "f")) (on (cut_at 32 m.1) (λ c. file_parts m.0 c.0 c.1)) None))

-- ---- the tests of the content and of the path

are_names_joined : (name : List ℕ) (names : List (List ℕ)) → IsPath (name ∷ names) → are_names (joined (name ∷ names)) ≡ true
are_names_joined name names path =
    ap (λ ps. list_all is_name ps && nat_le (length ps) 128) (parts_joined name names path.named)
    ∙ (λ i. list_all-from_AllPass is_name (name ∷ names) path.named i && le-leb (length (name ∷ names)) 128 path.short i)

is_path_text : (p : List (List ℕ)) → IsPath p → is_path (path_text p) ≡ true
is_path_text [] path = refl
is_path_text (n ∷ p) path = ap is_path (path_joined (n ∷ p)) ∙ ap (λ t. (length (joined (n ∷ p)) == 0) || t) (are_names_joined n p path)
    ∙ or_true (length (joined (n ∷ p)) == 0)
  where
    or_true : (b : Bool) → (b || true) ≡ true
    or_true true = refl
    or_true false = refl

some_name : (name : List ℕ) → is_name name ≡ true → 0 < length name
some_name [] is = absurd (true≢false (sym (eq-eqb (length {A = ℕ} []) 0 refl) ∙ (passes_tests [] is).some))
some_name (b ∷ name) is = omega arith

-- the text of a path that is not the root has two bytes or more
pub long_path : (p : List (List ℕ)) → IsPath p → p ≢ [] → 2 ≤ length (path_text p)
long_path [] path named = absurd (named refl)
long_path (n ∷ p) path named = omega (arith, some_name n (All-head (λ name. is_name name ≡ true) n p path.named), length-append n (names_text p))

-- ---- the line

dir_is : (m : MetaValue) (p : List (List ℕ)) → IsPath p → dir_in m (path_text p) ≡ Some (p, Dir m)
dir_is m p path = ap (λ o. on o (λ q. Some (q, Dir m))) (path_is p path)

file_is : (m : MetaValue) (content : List ℕ) (p : List (List ℕ)) → AreBytes content → IsPath p
    → file_in m (hex_text content) (path_text p) ≡ Some (p, File m content)
file_is m content p bytes path =
    ap (λ o. on o (λ c. on (result_ok (path_of (path_text p))) (λ q. Some (q, File m c)))) (content_is content bytes)
    ∙ ap (λ o. on o (λ q. Some (q, File m content))) (path_is p path)

-- the entry of the parts of an entry
pub row_from_is : (row : List (List ℕ) × Entry) → IsRow row → row_from (parts_from row) ≡ Some row
row_from_is (p, Dir m) is = dir_is m p is.allowed.path
row_from_is (p, File m content) is = file_is m content p is.allowed.bytes is.allowed.path

one_solid : (c : ℕ) → 33 ≤ c → Solid (c ∷ [])
one_solid c le = All-cons (λ b. 33 ≤ b) c [] le (All-nil (λ b. 33 ≤ b))

dir_parts_are : (m : MetaValue) (p : List (List ℕ)) → IsPath p → dir_parts m (path_text p) ≡ Some (m, None, path_text p)
dir_parts_are m p path = ap (λ t. cond {A = Option Fields} t (Some (m, None, path_text p)) None) (is_path_text p path)

file_parts_are : (m : MetaValue) (content : List ℕ) (p : List (List ℕ)) → AreBytes content → IsPath p → p ≢ []
    → file_parts m (hex_text content) (path_text p) ≡ Some (m, Some (hex_text content), path_text p)
file_parts_are m content p bytes path named =
    (λ i. cond {A = Option Fields} (is_content_text content bytes i && is_path_text p path i
    && not (le-ltb (length (path_text p)) 2 (long_path p path named) i)) (Some (m, Some (hex_text content), path_text p)) None)

-- the parts of the line of an entry
pub parts_are : (row : List (List ℕ) × Entry) → IsRow row → parts_in (row_text row) ≡ Some (parts_from row)
parts_are (p, Dir m) is =
    ap (λ o. on o by_kind) (word (100 ∷ []) (meta_text m ++ path_text p) (one_solid 100 (omega arith)))
    ∙ ap (λ o. on o (λ (m : MetaValue × List ℕ). dir_parts m.0 m.1)) (meta_is m is.allowed.meta (path_text p))
    ∙ dir_parts_are m p is.allowed.path
parts_are (p, File m content) is =
    ap (λ o. on o by_kind) (word (102 ∷ []) (meta_text m ++ (hex_text content ++ 32 ∷ path_text p)) (one_solid 102 (omega arith)))
    ∙ ap (λ o. on o (λ (m : MetaValue × List ℕ). on (cut_at 32 m.1) (λ c. file_parts m.0 c.0 c.1)))
    (meta_is m is.allowed.meta (hex_text content ++ 32 ∷ path_text p))
    ∙ ap (λ o. on o (λ (c : List ℕ × List ℕ). file_parts m c.0 c.1)) (word (hex_text content) (path_text p) (content_solid content is.allowed.bytes))
    ∙ file_parts_are m content p is.allowed.bytes is.allowed.path (λ at. let one = (is.root at).1 in absurd cc)

-- the entry of the line of an entry
pub row_is : (row : List (List ℕ) × Entry) → IsRow row → row_in (row_text row) ≡ Some row
row_is row is = ap (λ o. on o row_from) (parts_are row is) ∙ row_from_is row is

-- ---- no line end, and UTF-8

name_plain : (name : List ℕ) → is_name name ≡ true → Plain name
name_plain name is = All-weaker (λ b. is_name_byte b ≡ true) (λ b. 32 ≤ b) from_space name
    (AllPass-from_list_all is_name_byte name (passes_tests name is).plain)

names_plain : (p : List (List ℕ)) → All (λ name. is_name name ≡ true) p → Plain (names_text p)
names_plain [] all = All-nil (λ b. 32 ≤ b)
names_plain (n ∷ p) all =
    All-cons (λ b. 32 ≤ b) 47 (n ++ names_text p) (omega arith)
    (All-append (λ b. 32 ≤ b) n (names_text p) (name_plain n (All-head (λ name. is_name name ≡ true) n p all))
    (names_plain p (All-tail (λ name. is_name name ≡ true) n p all)))

path_plain : (p : List (List ℕ)) → IsPath p → Plain (path_text p)
path_plain [] path = All-cons (λ b. 32 ≤ b) 47 [] (omega arith) (All-nil (λ b. 32 ≤ b))
path_plain (n ∷ p) path = names_plain (n ∷ p) path.named

words_plain : (w rest : List ℕ) → Solid w → Plain rest → Plain (w ++ 32 ∷ rest)
words_plain w rest solid plain = All-append (λ b. 32 ≤ b) w (32 ∷ rest) (solid_plain w solid) (All-cons (λ b. 32 ≤ b) 32 rest (omega arith) plain)

meta_plain : (m : MetaValue) (rest : List ℕ) → IsMeta m → Plain rest → Plain (meta_text m ++ rest)
meta_plain m rest is plain = subst Plain (sym (grouped m is rest))
    (words_plain (mode_text m.mode) (decimal m.uid ++ 32 ∷ (decimal m.gid ++ 32 ∷ rest)) (octal_solid m.mode is.mode)
    (words_plain (decimal m.uid) (decimal m.gid ++ 32 ∷ rest) (decimal_solid m.uid (omega (arith, is.uid)))
    (words_plain (decimal m.gid) rest (decimal_solid m.gid (omega (arith, is.gid))) plain)))

-- no byte of an entry's line is below a space
pub row_plain : (row : List (List ℕ) × Entry) → IsRow row → Plain (row_text row)
row_plain (p, Dir m) is = words_plain (100 ∷ []) (meta_text m ++ path_text p) (one_solid 100 (omega arith))
    (meta_plain m (path_text p) is.allowed.meta (path_plain p is.allowed.path))
row_plain (p, File m content) is =
    words_plain (102 ∷ []) (meta_text m ++ (hex_text content ++ 32 ∷ path_text p)) (one_solid 102 (omega arith))
    (meta_plain m (hex_text content ++ 32 ∷ path_text p) is.allowed.meta
    (words_plain (hex_text content) (path_text p) (content_solid content is.allowed.bytes) (path_plain p is.allowed.path)))

one_text : (c : ℕ) → c < 128 → IsUtf8 (c ∷ [])
one_text c lt = IsUtf8-from_ascii (c ∷ []) (IsAscii-cons c [] lt IsAscii-nil)

decimal_utf8 : (n : ℕ) → n < 2 ^ 64 → IsUtf8 (decimal n)
decimal_utf8 n small = IsUtf8-from_ascii (decimal n) (IsAscii-decimal n small)

names_utf8 : (p : List (List ℕ)) → All (λ name. is_name name ≡ true) p → IsUtf8 (names_text p)
names_utf8 [] all = IsUtf8-nil
names_utf8 (n ∷ p) all =
    IsUtf8-append (47 ∷ []) (n ++ names_text p) (one_text 47 (omega arith))
    (IsUtf8-append n (names_text p) (name-IsUtf8 n (All-head (λ name. is_name name ≡ true) n p all))
    (names_utf8 p (All-tail (λ name. is_name name ≡ true) n p all)))

path_utf8 : (p : List (List ℕ)) → IsPath p → IsUtf8 (path_text p)
path_utf8 [] path = one_text 47 (omega arith)
path_utf8 (n ∷ p) path = names_utf8 (n ∷ p) path.named

words_utf8 : (w rest : List ℕ) → IsUtf8 w → IsUtf8 rest → IsUtf8 (w ++ 32 ∷ rest)
words_utf8 w rest one other = IsUtf8-append w (32 ∷ rest) one (IsUtf8-append (32 ∷ []) rest (one_text 32 (omega arith)) other)

octal_utf8 : (m : ℕ) → m ≤ 4095 → IsUtf8 (mode_text m)
octal_utf8 m small =
    IsUtf8-append (decimal (m / 512)) (decimal (m / 64 % 8) ++ (decimal (m / 8 % 8) ++ decimal (m % 8))) (decimal_utf8 (m / 512) (omega arith))
    (IsUtf8-append (decimal (m / 64 % 8)) (decimal (m / 8 % 8) ++ decimal (m % 8)) (decimal_utf8 (m / 64 % 8) (omega arith))
    (IsUtf8-append (decimal (m / 8 % 8)) (decimal (m % 8)) (decimal_utf8 (m / 8 % 8) (omega arith)) (decimal_utf8 (m % 8) (omega arith))))

meta_utf8 : (m : MetaValue) (rest : List ℕ) → IsMeta m → IsUtf8 rest → IsUtf8 (meta_text m ++ rest)
meta_utf8 m rest is other = subst IsUtf8 (sym (grouped m is rest))
    (words_utf8 (mode_text m.mode) (decimal m.uid ++ 32 ∷ (decimal m.gid ++ 32 ∷ rest)) (octal_utf8 m.mode is.mode)
    (words_utf8 (decimal m.uid) (decimal m.gid ++ 32 ∷ rest) (decimal_utf8 m.uid (omega (arith, is.uid)))
    (words_utf8 (decimal m.gid) rest (decimal_utf8 m.gid (omega (arith, is.gid))) other)))

digit_low : (c d : ℕ) → hex_digit_value c ≡ Some d → c < 128
digit_low c d is = by_cases (nat_lt c 128) refl
  where
    none : 128 ≤ c → hex_digit_value c ≡ None
    none le = (λ i. cond (past 65 70 (omega arith) i) (Some (c - 55))
        (cond (past 97 102 (omega arith) i) (Some (c - 87)) (cond (past 48 57 (omega arith) i) (Some (c - 48)) None)))
      where
        past : (j k : ℕ) → k < c → (nat_le j c && nat_le c k) ≡ false
        past j k lt = ap (λ t. nat_le j c && t) (lt-leb c k lt) ∙ and_false (nat_le j c)
          where
            and_false : (t : Bool) → (t && false) ≡ false
            and_false true = refl
            and_false false = refl

    by_cases : (t : Bool) → nat_lt c 128 ≡ t → c < 128
    by_cases true t = ltb-true c 128 t
    by_cases false t = let e : ◌≡◌ {A = Option ℕ} (Some d) None = sym is ∙ none (ltb-false c 128 t) in absurd cc

-- a digit of the table is ASCII, and so is the 0 that is read past the end of the table
digit_ascii : (k : ℕ) → get_or lower_digits k 0 < 128
digit_ascii k = by_cases (nat_lt k 16) refl
  where
    by_cases : (t : Bool) → nat_lt k 16 ≡ t → get_or lower_digits k 0 < 128
    by_cases true t = digit_low _ k (IsDigits-lower_digits k (ltb-true k 16 t))
    by_cases false t = subst (λ v. v < 128) (sym (get_or_past lower_digits k 0 (ltb-false k 16 t))) (omega arith)

content_utf8 : (content : List ℕ) → AreBytes content → IsUtf8 (hex_text content)
content_utf8 [] bytes = one_text 45 (omega arith)
content_utf8 (b ∷ content) bytes = IsUtf8-from_ascii (encode_lower (b ∷ content)) (IsAscii-encode_with lower_digits (b ∷ content) digit_ascii)

-- the line of an entry is UTF-8
pub row_utf8 : (row : List (List ℕ) × Entry) → IsRow row → IsUtf8 (row_text row)
row_utf8 (p, Dir m) is = words_utf8 (100 ∷ []) (meta_text m ++ path_text p) (one_text 100 (omega arith))
    (meta_utf8 m (path_text p) is.allowed.meta (path_utf8 p is.allowed.path))
row_utf8 (p, File m content) is =
    words_utf8 (102 ∷ []) (meta_text m ++ (hex_text content ++ 32 ∷ path_text p)) (one_text 102 (omega arith))
    (meta_utf8 m (hex_text content ++ 32 ∷ path_text p) is.allowed.meta
    (words_utf8 (hex_text content) (path_text p) (content_utf8 content is.allowed.bytes) (path_utf8 p is.allowed.path)))
