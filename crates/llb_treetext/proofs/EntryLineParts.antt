-- A text that has all its parts is the line of an entry: each field that is read is the one that is written.
use Rattle.std.proofs.Common.{◌≡◌, ◌≢◌, ℕ, zero, suc, ◌+◌, ◌-◌, ◌*◌, ◌/◌, ◌%◌, ◌^◌, ◌<◌, ◌≤◌, nat_lt, nat_eq, nat_le, ◌==◌, Bool, true}
use Rattle.std.proofs.Common.{false, not, cond, ◌&&◌, ◌||◌, List, [], ◌∷◌, ◌++◌, length, get_or, Option, Some, None, refl, sym, ap, subst}
use Rattle.std.proofs.Common.{◌∙◌, true≢false, arith, inl, inr, ◌⊎◌}
use Rattle.std.specs.Prelude.{codes}
use Rattle.std.proofs.lemmas.Bool.{and_parts, cases_lt, eq-eqb, eqb-true, leb-true, ltb-true, lt-ltb, le-ltb}
use Rattle.std.proofs.lemmas.Fmt.{decimal_digit}
use Rattle.std.proofs.lemmas.List.Sums.{AllPass-from_list_all, split_at_first, passes_at_first}
use Rattle.std.proofs.lemmas.List.Splits.{join_with_byte-slice_split}
use Rattle.std.proofs.lemmas.List.Elements.{All-nil}
use Rattle.std.specs.List.{list_all, position_or_len, before_first, after_first}
use Rattle.std.specs.Fmt.{decimal}
use Rattle.std.specs.Cmp.Lexicographic.{pointwise, bytes_decides}
use Rattle.hex.specs.Hex.{encode_with, lower_digits}
use Rattle.llb_wire.specs.Spelling.{AreBytes}
use Rattle.llb_wire.specs.Hexadecimal.{hex_text, is_lower, is_hex}
use Rattle.llb_tree.specs.Path.{is_name, IsPath, parts_of}
use Rattle.llb_tree.specs.ModeAndOwner.{MetaValue, IsMeta, meta_of}
use Rattle.llb_tree.specs.ModeTexts.{is_octal_digit, octal, mode_of}
use Rattle.llb_tree.specs.Tree.{Dir, File}
use Rattle.llb_treetext.specs.TreeText.{mode_text, meta_text, path_text, row_text, line_of}
use Rattle.llb_treetext.specs.TextGrammar.{IsRow, Begins}
use Rattle.llb_treetext.specs.LineScanning.{Spells}
use Rattle.llb_treetext.specs.declared.line_fields.Parts.{Parts}
use Rattle.std.specs.Option.{option_map}
use Rattle.llb_treetext.specs.LineFields.{Fields, on, cut_at, mode_in, number_from, decimal_in, meta_in, are_names, is_path, dir_parts}
use Rattle.llb_treetext.specs.LineFields.{file_parts, parts_in, parts_seen, parts_from, row_from}
use Rattle.llb_treetext.proofs.EntryLineRoundTrip.{by_kind, path_joined, grouped, parts_are, row_from_is}
use Rattle.llb_treetext.proofs.RowLines.{Pair, dir_is_row, file_is_row}

on_some : {A B : Type 0} (o : Option A) (f : A → Option B) (y : B) → on o f ≡ Some y → (x : A) × (o ≡ Some x) × (f x ≡ Some y)
on_some None f y is = absurd cc
on_some (Some x) f y is = (x, refl, is)

cond_some : {A : Type 0} (t : Bool) (o : Option A) (y : A) → cond t o None ≡ Some y → (t ≡ true) × (o ≡ Some y)
cond_some true o y is = (refl, is)
cond_some false o y is = absurd cc

some_is : {A : Type 0} (x y : A) → ◌≡◌ {A = Option A} (Some x) (Some y) → x ≡ y
some_is x y is = cc

-- ---- the text up to a byte, and after it

pub cut_gives : (c : ℕ) (text a b : List ℕ) → cut_at c text ≡ Some (a, b) → text ≡ a ++ c ∷ b
cut_gives c text a b is =
    let found = cond_some (nat_lt (position_or_len (λ b. nat_eq b c) text) (length text))
    (Some (before_first (λ b. nat_eq b c) text, after_first (λ b. nat_eq b c) text)) (a, b) is in
    let first : position_or_len (λ b. nat_eq b c) text < length text = ltb-true _ _ found.0 in
    let two = some_is (before_first (λ b. nat_eq b c) text, after_first (λ b. nat_eq b c) text) (a, b) found.1 in
    split_at_first (λ b. nat_eq b c) text 0 first
    ∙ (λ i. (two i).0 ++ (eqb-true _ c (passes_at_first (λ b. nat_eq b c) text 0 first) i ∷ (two i).1))

-- ---- the mode and the owners

octal_bounds : (b : ℕ) → is_octal_digit b ≡ true → (48 ≤ b) × (b ≤ 55)
octal_bounds b is = let both = and_parts (nat_le 48 b) (nat_le b 55) is in (leb-true 48 b both.0, leb-true b 55 both.1)

four : (text : List ℕ) (m : ℕ) → length text ≡ 4 → list_all is_octal_digit text ≡ true → octal text ≡ m → (text ≡ mode_text m) × (m ≤ 4095)
four (a ∷ b ∷ c ∷ d ∷ []) m long all is =
    let one = and_parts (is_octal_digit a) _ all in
    let two = and_parts (is_octal_digit b) _ one.1 in
    let three = and_parts (is_octal_digit c) _ two.1 in
    let last = and_parts (is_octal_digit d) _ three.1 in
    digits (octal_bounds a one.0) (octal_bounds b two.0) (octal_bounds c three.0) (octal_bounds d last.0) (omega (arith, is))
  where
    digits : (48 ≤ a) × (a ≤ 55) → (48 ≤ b) × (b ≤ 55) → (48 ≤ c) × (c ≤ 55) → (48 ≤ d) × (d ≤ 55)
        → (a - 48) * 512 + (b - 48) * 64 + (c - 48) * 8 + (d - 48) ≡ m
        → (a ∷ b ∷ c ∷ d ∷ [] ≡ mode_text m) × (m ≤ 4095)
    digits (la, ha) (lb, hb) (lc, hc) (ld, hd) is =
        let w : (48 + m / 512 ≡ a) = omega (arith, is, la, ha, lb, hb, lc, hc, ld, hd) in
        let x : (48 + m / 64 % 8 ≡ b) = omega (arith, is, la, ha, lb, hb, lc, hc, ld, hd) in
        let y : (48 + m / 8 % 8 ≡ c) = omega (arith, is, la, ha, lb, hb, lc, hc, ld, hd) in
        let z : (48 + m % 8 ≡ d) = omega (arith, is, la, ha, lb, hb, lc, hc, ld, hd) in (
          (λ i. sym w i ∷ sym x i ∷ sym y i ∷ sym z i ∷ [])
              ∙ sym (λ i. decimal_digit (m / 512) (omega (arith, w, ha)) i
              ++ (decimal_digit (m / 64 % 8) (omega arith) i ++ (decimal_digit (m / 8 % 8) (omega arith) i ++ decimal_digit (m % 8) (omega arith) i))),
          omega (arith, w, ha),
        )
four [] m long all is = absurd (omega (arith, long))
four (a ∷ []) m long all is = absurd (omega (arith, long))
four (a ∷ b ∷ []) m long all is = absurd (omega (arith, long))
four (a ∷ b ∷ c ∷ []) m long all is = absurd (omega (arith, long))
four (a ∷ b ∷ c ∷ d ∷ e ∷ text) m long all is = absurd (omega (arith, long))

mode_gives : (text : List ℕ) (m : ℕ) → mode_in text ≡ Some m → (text ≡ mode_text m) × (m ≤ 4095)
mode_gives text m is =
    let long = cond_some (length text == 4) (mode_of text) m is in
    let spelled = cond_some (nat_le 1 (length text) && nat_le (length text) 4 && list_all is_octal_digit text) (Some (octal text)) m long.1 in
    let all = and_parts _ (list_all is_octal_digit text) spelled.0 in
    four text m (eqb-true (length text) 4 long.0) all.1 (some_is (octal text) m spelled.1)

number_small : (n : ℕ) (text : List ℕ) (k : ℕ) → n < 2 ^ 32 → number_from n text ≡ Some k → k < 2 ^ 32
unfolding number_from
number_small n [] k small is = subst (λ v. v < 2 ^ 32) (some_is n k is) small
number_small n (b ∷ text) k small is =
    let more = cond_some (nat_lt (n * 10 + (b - 48)) (2 ^ 32)) (number_from (n * 10 + (b - 48)) text) k is in
    number_small (n * 10 + (b - 48)) text k (ltb-true _ _ more.0) more.1

decimal_gives : (text : List ℕ) (n : ℕ) → decimal_in text ≡ Some n → (text ≡ decimal n) × (n < 2 ^ 32)
decimal_gives text n is =
    let (k, reads, then) = on_some (number_from 0 text) (λ n. cond (pointwise nat_eq text (decimal n)) (Some n) None) n is in
    let same = cond_some (pointwise nat_eq text (decimal k)) (Some k) n then in
    let own = some_is k n same.1 in
    ((bytes_decides text (decimal k)).0 same.0 ∙ ap decimal own, subst (λ v. v < 2 ^ 32) own (number_small 0 text k (omega arith) reads))

meta_gives : (mode uid gid : ℕ) (m : MetaValue) → mode ≤ 4095 → uid < 2 ^ 32 → gid < 2 ^ 32 → meta_of mode uid gid ≡ Some m
    → IsMeta m × (m.mode ≡ mode) × (m.uid ≡ uid) × (m.gid ≡ gid)
meta_gives mode uid gid m small u g is = go (nat_lt 4095 mode) is
  where
    go : (t : Bool) → cond t None (Some (record { mode = mode; uid = uid; gid = gid })) ≡ Some m → IsMeta m × (m.mode ≡ mode) × (m.uid ≡ uid) × (m.gid ≡ gid)
    go true is = absurd cc
    go false is =
        let own : record { mode = mode; uid = uid; gid = gid } ≡ m = some_is _ m is in (
          subst IsMeta own (record { mode = small; uid = u; gid = g }),
          sym (ap (λ (v : MetaValue). v.mode) own),
          sym (ap (λ (v : MetaValue). v.uid) own),
          sym (ap (λ (v : MetaValue). v.gid) own),
        )

meta_written : (m : MetaValue) → IsMeta m → (text a t b u c rest : List ℕ) → text ≡ a ++ 32 ∷ t → t ≡ b ++ 32 ∷ u → u ≡ c ++ 32 ∷ rest
    → a ≡ mode_text m.mode → b ≡ decimal m.uid → c ≡ decimal m.gid → text ≡ meta_text m ++ rest
meta_written m is text a t b u c rest one two three mode uid gid =
    let back : u ≡ decimal m.gid ++ 32 ∷ rest = three ∙ ap (λ w. w ++ 32 ∷ rest) gid in
    let middle : t ≡ decimal m.uid ++ 32 ∷ (decimal m.gid ++ 32 ∷ rest) = two ∙ (λ i. uid i ++ 32 ∷ back i) in
    let front : text ≡ mode_text m.mode ++ 32 ∷ (decimal m.uid ++ 32 ∷ (decimal m.gid ++ 32 ∷ rest)) = one ∙ (λ i. mode i ++ 32 ∷ middle i) in
    front ∙ sym (grouped m is rest)

pub meta_in_gives : (text : List ℕ) (x : MetaValue × List ℕ) → meta_in text ≡ Some x → IsMeta x.0 × (text ≡ meta_text x.0 ++ x.1)
meta_in_gives text x is =
    let (m, cut_m, is) = on_some (cut_at 32 text) _ x is in
    let (u, cut_u, is) = on_some (cut_at 32 m.1) _ x is in
    let (g, cut_g, is) = on_some (cut_at 32 u.1) _ x is in
    let (mode, mode_is, is) = on_some (mode_in m.0) _ x is in
    let (uid, uid_is, is) = on_some (decimal_in u.0) _ x is in
    let (gid, gid_is, is) = on_some (decimal_in g.0) _ x is in
    let (meta, meta_is, is) = on_some (meta_of mode uid gid) _ x is in
    let o = mode_gives m.0 mode mode_is in
    let d = decimal_gives u.0 uid uid_is in
    let e = decimal_gives g.0 gid gid_is in
    let v = meta_gives mode uid gid meta o.1 d.1 e.1 meta_is in
    let own : (meta, g.1) ≡ x = some_is (meta, g.1) x is in
    let text_is = meta_written meta v.0 text m.0 m.1 u.0 u.1 g.0 g.1 (cut_gives 32 text m.0 m.1 cut_m) (cut_gives 32 m.1 u.0 u.1 cut_u)
    (cut_gives 32 u.1 g.0 g.1 cut_g)
    (o.0 ∙ ap mode_text (sym v.1)) (d.0 ∙ ap decimal (sym v.2)) (e.0 ∙ ap decimal (sym v.3)) in
    (subst (λ (y : MetaValue × List ℕ). IsMeta y.0) own v.0, subst (λ (y : MetaValue × List ℕ). text ≡ meta_text y.0 ++ y.1) own text_is)

-- ---- the content

-- the digit at a place of the table, by a test that computes
abbrev is_digit_at : ℕ → Bool
is_digit_at k = nat_eq (get_or lower_digits k 0) (cond (nat_lt k 10) (48 + k) (87 + k))

abbrev all_digits : ℕ → Bool
all_digits zero = true
all_digits (suc n) = is_digit_at n && all_digits n

digit_at : (n k : ℕ) → all_digits n ≡ true → k < n → get_or lower_digits k 0 ≡ cond (nat_lt k 10) (48 + k) (87 + k)
digit_at zero k all lt = absurd (omega arith)
digit_at (suc n) k all lt =
    let both = and_parts (is_digit_at n) (all_digits n) all in
    elim (cases_lt k n) [
      | inl below ↦ digit_at n k both.1 below
      | inr top ↦ let e : k ≡ n = omega arith in eqb-true _ _ (ap is_digit_at e ∙ both.0)
    ]

or_parts : (a b : Bool) → (a || b) ≡ true → (a ≡ true) ⊎ (b ≡ true)
or_parts true b is = inl refl
or_parts false b is = inr is

-- a digit is at its place
lower_digit : (c : ℕ) → is_lower c ≡ true → (k : ℕ) × (k < 16) × (get_or lower_digits k 0 ≡ c)
lower_digit c is =
    elim (or_parts (nat_le 48 c && nat_le c 57) (nat_le 97 c && nat_le c 102) is) [
      | inl low ↦
          let both = and_parts (nat_le 48 c) (nat_le c 57) low in
          let from = leb-true 48 c both.0 in
          let to = leb-true c 57 both.1 in (
            c - 48,
            omega (arith, from, to),
            digit_at 16 (c - 48) refl (omega (arith, from, to))
                ∙ ap (λ t. cond t (48 + (c - 48)) (87 + (c - 48))) (lt-ltb (c - 48) 10 (omega (arith, from, to))) ∙ omega (arith, from),
          )
      | inr high ↦
          let both = and_parts (nat_le 97 c) (nat_le c 102) high in
          let from = leb-true 97 c both.0 in
          let to = leb-true c 102 both.1 in (
            c - 87,
            omega (arith, from, to),
            digit_at 16 (c - 87) refl (omega (arith, from, to))
                ∙ ap (λ t. cond t (48 + (c - 87)) (87 + (c - 87))) (le-ltb (c - 87) 10 (omega (arith, from, to))) ∙ omega (arith, from),
          )
    ]

digits_give : (digits : List ℕ) → list_all is_lower digits ≡ true → length digits % 2 ≡ 0
    → (content : List ℕ) × AreBytes content × (encode_with lower_digits content ≡ digits)
unfolding encode_with
digits_give [] all even = ([], tt, refl)
digits_give (a ∷ []) all even = absurd (omega (arith, even))
digits_give (a ∷ b ∷ digits) all even =
    let one = and_parts (is_lower a) _ all in
    let two = and_parts (is_lower b) _ one.1 in
    let (k, k_small, k_is) = lower_digit a one.0 in
    let (j, j_small, j_is) = lower_digit b two.0 in
    let (content, bytes, same) = digits_give digits two.1 (omega (arith, even)) in
    let high : (k * 16 + j) / 16 ≡ k = omega (arith, j_small) in
    let low : (k * 16 + j) % 16 ≡ j = omega (arith, j_small) in (
      (k * 16 + j) ∷ content,
      (omega (arith, k_small, j_small), bytes),
      λ i. (ap (λ n. get_or lower_digits n 0) high ∙ k_is) i ∷ (ap (λ n. get_or lower_digits n 0) low ∙ j_is) i ∷ same i,
    )

content_given : (digits content : List ℕ) → AreBytes content → encode_with lower_digits content ≡ digits → not (length digits == 0) ≡ true
    → (content : List ℕ) × AreBytes content × (digits ≡ hex_text content)
unfolding encode_with
content_given digits [] bytes same some = absurd (true≢false (sym some ∙ ap (λ t. not t) (eq-eqb (length digits) 0 (ap length (sym same)))))
content_given digits (b ∷ content) bytes same some = (b ∷ content, bytes, sym same)

content_gives : (digits : List ℕ) → is_hex digits ≡ true → (content : List ℕ) × AreBytes content × (digits ≡ hex_text content)
content_gives digits is =
    elim (or_parts (pointwise nat_eq digits (codes "-")) _ is) [
      | inl dash ↦ ([], tt, (bytes_decides digits (codes "-")).0 dash)
      | inr pairs ↦
          let all = and_parts _ (list_all is_lower digits) pairs in
          let some = and_parts (not (length digits == 0)) (length digits % 2 == 0) all.0 in
          let found = digits_give digits all.1 (eqb-true (length digits % 2) 0 some.1) in
          content_given digits found.0 found.1 found.2 some.0
    ]

-- ---- the path

pub path_gives : (text : List ℕ) → is_path text ≡ true → (p : List (List ℕ)) × IsPath p × (text ≡ path_text p)
path_gives [] is = absurd (true≢false (sym is))
path_gives (b ∷ names) is =
    let both = and_parts (b == 47) _ is in
    let slash : b ≡ 47 = eqb-true b 47 both.0 in
    elim (or_parts (length names == 0) (are_names names) both.1) [
      | inl none ↦ (
        [],
        record { short = omega arith; named = All-nil (λ name. is_name name ≡ true) },
        (λ i. slash i ∷ no_length names (eqb-true (length names) 0 none) i),
      )
      | inr named ↦
          let all = and_parts (list_all is_name (parts_of names)) _ named in (
            parts_of names,
            record { short = leb-true (length (parts_of names)) 128 all.1; named = AllPass-from_list_all is_name (parts_of names) all.0 },
            (λ i. slash i ∷ sym (join_with_byte-slice_split 47 names) i) ∙ sym (path_joined (parts_of names)),
          )
    ]
  where
    no_length : (xs : List ℕ) → length xs ≡ 0 → xs ≡ []
    no_length [] is = refl
    no_length (x ∷ xs) is = absurd (omega (arith, is))

-- ---- the line

-- an entry whose line the text is
abbrev pub IsLineOf : List ℕ → Fields → Type 0
IsLineOf line x = (row : Pair) × IsRow row × (line ≡ row_text row) × (x ≡ parts_from row)

dir_gives : (line : List ℕ) (m : MetaValue) (path : List ℕ) (x : Fields) → IsMeta m → line ≡ codes "d " ++ (meta_text m ++ path)
    → dir_parts m path ≡ Some x → IsLineOf line x
dir_gives line m path x meta text is =
    let tests = cond_some (is_path path) (Some (m, None, path)) x is in
    let (p, stands, same) = path_gives path tests.0 in
    let own : (m, None, path) ≡ x = some_is _ x tests.1 in
    ((p, Dir m), dir_is_row p m stands meta, text ∙ ap (λ t. codes "d " ++ (meta_text m ++ t)) same, sym own ∙ (λ i. (m, None, same i)))

file_gives : (line : List ℕ) (m : MetaValue) (digits path : List ℕ) (x : Fields) → IsMeta m
    → line ≡ codes "f " ++ (meta_text m ++ (digits ++ 32 ∷ path)) → file_parts m digits path ≡ Some x → IsLineOf line x
file_gives line m digits path x meta text is =
    let tests = cond_some (is_hex digits && is_path path && not (nat_lt (length path) 2)) (Some (m, Some digits, path)) x is in
    let all = and_parts _ (not (nat_lt (length path) 2)) tests.0 in
    let both = and_parts (is_hex digits) (is_path path) all.0 in
    let (content, bytes, own) = content_gives digits both.0 in
    let (p, stands, same) = path_gives path both.1 in
    let named : p ≢ [] = λ at. true≢false (sym all.1 ∙ ap (λ t. not (nat_lt (length t) 2)) (same ∙ ap path_text at)) in
    let found : (m, Some digits, path) ≡ x = some_is _ x tests.1 in (
      (p, File m content),
      file_is_row p m content stands meta bytes named,
      text
          ∙ (λ i. codes "f " ++ (meta_text m ++ (own i ++ 32 ∷ same i))),
      sym found ∙ (λ i. (m, Some (own i), same i)),
    )

pub line_gives : (line : List ℕ) (x : Fields) → parts_in line ≡ Some x → IsLineOf line x
line_gives line x is =
    let (k, cut_k, is) = on_some (cut_at 32 line) by_kind x is in
    let (m, meta_is, is) = on_some (meta_in k.1) _ x is in
    let meta = meta_in_gives k.1 m meta_is in
    let text : line ≡ k.0 ++ 32 ∷ (meta_text m.0 ++ m.1) = cut_gives 32 line k.0 k.1 cut_k ∙ ap (λ t. k.0 ++ 32 ∷ t) meta.1 in
    by_dir k m meta.0 text (pointwise nat_eq k.0 (codes "d")) refl is
  where
    by_file : (k : List ℕ × List ℕ) (m : MetaValue × List ℕ) → IsMeta m.0 → line ≡ k.0 ++ 32 ∷ (meta_text m.0 ++ m.1) → (t : Bool)
        → pointwise nat_eq k.0 (codes "f") ≡ t
        → cond t (on (cut_at 32 m.1) (λ c. file_parts m.0 c.0 c.1)) None ≡ Some x → IsLineOf line x
    by_file k m meta text false kind is = absurd cc
    by_file k m meta text true kind is =
        let (c, cut_c, is) = on_some (cut_at 32 m.1) (λ c. file_parts m.0 c.0 c.1) x is in
        file_gives line m.0 c.0 c.1 x meta (text
        ∙ (λ i. (bytes_decides k.0 (codes "f")).0 kind i ++ 32 ∷ (meta_text m.0 ++ cut_gives 32 m.1 c.0 c.1 cut_c i))) is

    by_dir : (k : List ℕ × List ℕ) (m : MetaValue × List ℕ) → IsMeta m.0 → line ≡ k.0 ++ 32 ∷ (meta_text m.0 ++ m.1) → (t : Bool)
        → pointwise nat_eq k.0 (codes "d") ≡ t
        → cond t (dir_parts m.0 m.1) (cond (pointwise nat_eq k.0 (codes "f")) (on (cut_at 32 m.1) (λ c. file_parts m.0 c.0 c.1)) None)
        ≡ Some x → IsLineOf line x
    by_dir k m meta text true kind is = dir_gives line m.0 m.1 x meta (text ∙ (λ i. (bytes_decides k.0 (codes "d")).0 kind i ++ 32 ∷ (meta_text m.0 ++ m.1))) is
    by_dir k m meta text false kind is = by_file k m meta text (pointwise nat_eq k.0 (codes "f")) refl is

-- ---- what is decided about a line

-- the parts into which a line is split are those of an entry; if it can't be split, the line is the line of no entry
pub spells : (line text : List ℕ) (o : Option Parts) → text ≡ line → option_map parts_seen o ≡ parts_in text → Spells line o
spells line text None same is = λ row stands own.
    let one : ◌≡◌ {A = Option Fields} None (Some (parts_from row)) = is ∙ ap parts_in (same ∙ own) ∙ parts_are row stands in absurd cc
spells line text (Some x) same is =
    let (row, stands, own, parts) = line_gives text (parts_seen x) (sym is) in
    (row, stands, sym same ∙ own, parts)

-- bytes that are not the line of a row followed by any bytes begin with the line of no row
pub begins_none : (bytes : List ℕ) → ((row : Pair) (later : List ℕ) → IsRow row → bytes ≢ line_of row ++ later) → (row : Pair) → ¬ Begins bytes row
begins_none bytes none row begins = none row begins.1.0 begins.0 begins.1.1

-- ---- the row that is made of parts

module _ (row : Pair) (x : Fields) (o : Option Pair) (stands : IsRow row) (parts : x ≡ parts_from row) (gives : o ≡ row_from x) where
  made : o ≡ Some row
  made = gives ∙ ap row_from parts ∙ row_from_is row stands

  -- a row that is made of the parts of another row is equal to it
  pub row_made : (read : Pair) → o ≡ Some read → row ≡ read
  row_made read is = some_is row read (sym made ∙ is)
