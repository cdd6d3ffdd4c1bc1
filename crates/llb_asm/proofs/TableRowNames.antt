-- Each row of the table is found by its name, which is ASCII without a space, and not `extra`.
use Rattle.std.proofs.Common.{◌≡◌, ℕ, ◌<◌, Bool, true, false, cond, List, [], ◌∷◌, ◌++◌, length, codes, Some, refl, subst, arith, length-append}
use Rattle.std.specs.Prelude.{nat_eq, nat_lt, ◌==◌, ◌&&◌, not, find}
use Rattle.std.specs.List.{AllByRecursion, list_all, position_or_len}
use Rattle.std.specs.Str.{is_utf8, IsAscii}
use Rattle.std.proofs.lemmas.Bool.{and_parts, lt-ltb, ltb-true, ne_eqb}
use Rattle.std.proofs.lemmas.List.{drop_at, take_at}
use Rattle.std.proofs.lemmas.Str.{IsUtf8-append, IsUtf8-from_ascii, IsUtf8-from_is_utf8, is_utf8-from_IsUtf8}
use Rattle.std.proofs.lemmas.Str.Ascii.{IsAscii-nil, IsAscii-cons}
use Rattle.llb_ops.specs.declared.table.MessageName.{MessageName}
use Rattle.llb_ops.specs.declared.table.MessageName.TheVariants as name
use Rattle.llb_ops.specs.Table.{Row, rows_of, by_number, row_named, IsApart}
use Rattle.llb_ops.proofs.TableRows.{rows_found}
use Rattle.llb_wire.specs.TextComparison.{is_text}
use Rattle.llb_asm.specs.EntryLine.{parted}

-- ---- what holds of each row holds of the one that is found

module _ {X : Type 0} where
  found_of : (P : X → Type 0) (p : X → Bool) (xs : List X) (x : X) → AllByRecursion P xs → find p xs ≡ Some x → P x
  found_of P p [] x all e = absurd cc
  found_of P p (y ∷ xs) x (here, all) e = go (found_of P p xs x all) (p y) e
    where
      go : (find p xs ≡ Some x → P x) → (b : Bool) → cond b (Some y) (find p xs) ≡ Some x → P x
      go again true e = let same : y ≡ x = cc in subst P same here
      go again false e = again e

  -- a test that a whole list passes holds of each member
  pub passes_all : (p : X → Bool) (xs : List X) → list_all p xs ≡ true → AllByRecursion (λ x. p x ≡ true) xs
  passes_all p [] e = tt
  passes_all p (x ∷ xs) e = let both = and_parts (p x) (list_all p xs) e in (both.0, passes_all p xs both.1)

  -- and one that holds of each member is passed by the whole list
  pub all_passes : (p : X → Bool) (xs : List X) → AllByRecursion (λ x. p x ≡ true) xs → list_all p xs ≡ true
  all_passes p [] all = refl
  all_passes p (x ∷ xs) (here, all) = rw here (all_passes p xs all)

-- ---- names

abbrev is_letter : ℕ → Bool
is_letter b = nat_lt 32 b && nat_lt b 128

-- ASCII without a space
abbrev pub is_word : List ℕ → Bool
is_word text = list_all is_letter text

abbrev is_name : Row → Bool
is_name r = is_word r.0 && not (is_text r.0 (codes "extra"))

names_good : (m : MessageName) → list_all is_name (rows_of m) ≡ true
names_good name.Definition = refl
names_good name.Op = refl
names_good name.Input = refl
names_good name.SourceOp = refl
names_good name.AttributeEntry = refl
names_good name.FileOp = refl
names_good name.FileAction = refl
names_good name.FileActionCopy = refl
names_good name.FileActionMkFile = refl
names_good name.FileActionMkDir = refl
names_good name.FileActionRm = refl
names_good name.ChownOpt = refl
names_good name.UserOpt = refl
names_good name.ExecOp = refl
names_good name.Meta = refl
names_good name.Mount = refl
names_good name.TmpfsOpt = refl
names_good name.CacheOpt = refl
names_good name.MergeOp = refl
names_good name.MergeInput = refl

not_true : (b : Bool) → not b ≡ true → b ≡ false
not_true true e = absurd cc
not_true false e = refl

module _ (m : MessageName) (row : Row) (known : by_number row.1.number (rows_of m) ≡ Some row) where
  -- a row that is found by its number is found by its name too
  pub named_again : row_named m row.0 ≡ Some row
  named_again = (found_of (IsApart m) (λ r. r.1.number == row.1.number) (rows_of m) row (rows_found m) known).name

  row_good : is_name row ≡ true
  row_good = found_of (λ r. is_name r ≡ true) (λ r. r.1.number == row.1.number) (rows_of m) row (passes_all is_name (rows_of m) (names_good m)) known

  -- its name is a word, as the first of a line is
  pub name_is_word : is_word row.0 ≡ true
  name_is_word = (and_parts (is_word row.0) (not (is_text row.0 (codes "extra"))) row_good).0

  -- and is not the word that lines of unnamed bytes begin with
  pub name_not_extra : is_text row.0 (codes "extra") ≡ false
  name_not_extra = not_true (is_text row.0 (codes "extra")) (and_parts (is_word row.0) (not (is_text row.0 (codes "extra"))) row_good).1

-- ---- a name, a space and a value

abbrev is_space : ℕ → Bool
is_space b = nat_eq b 32

letter_no_space : (b : ℕ) → is_letter b ≡ true → is_space b ≡ false
letter_no_space b e = let above = ltb-true 32 b (and_parts (nat_lt 32 b) (nat_lt b 128) e).0 in ne_eqb b 32 (λ same. omega arith)

first_space : (text after : List ℕ) → is_word text ≡ true → position_or_len is_space (text ++ (32 ∷ after)) ≡ length text
first_space [] after good = refl
first_space (b ∷ text) after good =
    let both = and_parts (is_letter b) (is_word text) good in
    let again = first_space text after both.1 in
    rw (letter_no_space b both.0) (omega (arith, again))

word_ascii : (text : List ℕ) → is_word text ≡ true → IsAscii text
word_ascii [] good = IsAscii-nil
word_ascii (b ∷ text) good =
    let both = and_parts (is_letter b) (is_word text) good in
    IsAscii-cons b text (ltb-true b 128 (and_parts (nat_lt 32 b) (nat_lt b 128) both.0).1) (word_ascii text both.1)

-- a text of ASCII without a space is UTF-8
pub word_utf8 : (text : List ℕ) → is_word text ≡ true → is_utf8 text ≡ true
word_utf8 text good = is_utf8-from_IsUtf8 text (IsUtf8-from_ascii text (word_ascii text good))

line_utf8 : (text after : List ℕ) → is_word text ≡ true → is_utf8 after ≡ true → is_utf8 (text ++ (32 ∷ after)) ≡ true
line_utf8 text after good utf8 =
    is_utf8-from_IsUtf8 (text ++ (32 ∷ after))
    (IsUtf8-append text (32 ∷ after) (IsUtf8-from_ascii text (word_ascii text good))
    (IsUtf8-append (32 ∷ []) after (IsUtf8-from_ascii (32 ∷ []) (IsAscii-cons 32 [] (omega arith) IsAscii-nil)) (IsUtf8-from_is_utf8 after utf8)))

-- a word, a space and a text are taken apart at this space
pub parted_word : (text after : List ℕ) → is_word text ≡ true → is_utf8 after ≡ true → parted (text ++ (32 ∷ after)) ≡ Some (text, after)
unfolding parted
parted_word text after good utf8 =
    let at = first_space text after good in
    let lt : length text < length (text ++ (32 ∷ after)) = omega (arith, length-append text (32 ∷ after)) in
    rw (line_utf8 text after good utf8, at, lt-ltb _ _ lt, take_at text (32 ∷ after) (length text) refl, drop_at text (32 ∷ after) (length text) refl) refl
