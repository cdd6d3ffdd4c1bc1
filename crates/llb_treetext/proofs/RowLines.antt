-- Which rows have lines, and where the line of a row ends.
use Rattle.std.proofs.Common.{◌≡◌, ◌≢◌, ℕ, ◌+◌, ◌<◌, nat_lt, nat_eq, Bool, true, false, cond, List, [], ◌∷◌, ◌++◌, length, take, drop}
use Rattle.std.proofs.Common.{Option, Some, None, refl, sym, ap, ◌∙◌, append_assoc}
use Rattle.std.specs.List.{position, position_or_len, before_first, after_first}
use Rattle.std.proofs.lemmas.List.{drop-drop}
use Rattle.std.proofs.lemmas.List.Sums.{split_at_first, passes_at_first}
use Rattle.std.proofs.lemmas.Bool.{ltb-true, eqb-true}
use Rattle.llb_wire.specs.Spelling.{AreBytes}
use Rattle.llb_tree.specs.Path.{IsPath}
use Rattle.llb_tree.specs.ModeAndOwner.{MetaValue, IsMeta}
use Rattle.llb_tree.specs.Tree.{Entry, Dir, File}
use Rattle.llb_treetext.specs.TreeText.{row_text, line_of}
use Rattle.llb_treetext.specs.TextGrammar.{IsRow}
use Rattle.llb_treetext.specs.LineFields.{cut_at, row_in}
use Rattle.llb_treetext.proofs.EntryLineRoundTrip.{cut_is, row_is, row_plain, no_end}

abbrev pub Pair : Type 0
Pair = List (List ℕ) × Entry

-- a directory has a line at any path, with a mode and owners in range
pub dir_is_row : (p : List (List ℕ)) (m : MetaValue) → IsPath p → IsMeta m → IsRow (p, Dir m)
dir_is_row p m path meta = record { allowed = record { path = path; meta = meta; bytes = tt }; root = λ at. (m, refl) }

-- a file of bytes has a line at any path but the root, with a mode and owners in range
pub file_is_row : (p : List (List ℕ)) (m : MetaValue) (content : List ℕ) → IsPath p → IsMeta m → AreBytes content → p ≢ [] → IsRow (p, File m content)
file_is_row p m content path meta bytes named = record { allowed = record { path = path; meta = meta; bytes = bytes }; root = λ at. absurd (named at) }

-- ---- the first line

-- the line of a row, and what follows it, split before the line feed
abbrev grouped_line : (row : Pair) (later : List ℕ) → line_of row ++ later ≡ row_text row ++ 10 ∷ later
grouped_line row later = append_assoc (row_text row) (10 ∷ []) later

pub first_line : (row : Pair) (later : List ℕ) → IsRow row → cut_at 10 (line_of row ++ later) ≡ Some (row_text row, later)
first_line row later is = ap (cut_at 10) (grouped_line row later) ∙ cut_is 10 (row_text row) later (no_end (row_text row) (row_plain row is))

-- at most one row begins a text
pub one_line : (row other : Pair) (later rest : List ℕ) → IsRow row → IsRow other → line_of row ++ later ≡ line_of other ++ rest
    → (row ≡ other) × (later ≡ rest)
one_line row other later rest is are same =
    let cuts : ◌≡◌ {A = Option (List ℕ × List ℕ)} (Some (row_text row, later)) (Some (row_text other, rest)) =
    sym (first_line row later is) ∙ ap (cut_at 10) same ∙ first_line other rest are in
    let pairs : ◌≡◌ {A = List ℕ × List ℕ} (row_text row, later) (row_text other, rest) = cc in
    let rows : ◌≡◌ {A = Option Pair} (Some row) (Some other) = sym (row_is row is) ∙ ap (λ x. row_in x.0) pairs ∙ row_is other are in
    (cc, ap (λ x. x.1) pairs)

-- ---- where the first line ends

module _ (bytes : List ℕ) where
  ends : ℕ → Bool
  ends b = nat_eq b 10

  cut_none : position (λ b. nat_eq b 10) bytes ≡ None → cut_at 10 bytes ≡ None
  cut_none is = go (nat_lt (position_or_len (λ b. nat_eq b 10) bytes) (length bytes)) is
    where
      go : (t : Bool) → cond t (Some (position_or_len (λ b. nat_eq b 10) bytes)) None ≡ None
          → cond {A = Option (List ℕ × List ℕ)} t (Some (before_first (λ b. nat_eq b 10) bytes, after_first (λ b. nat_eq b 10) bytes)) None ≡ None
      go true is = absurd cc
      go false is = refl

  -- bytes without a line end do not begin with a line
  pub no_line_end : position (λ b. nat_eq b 10) bytes ≡ None → (row : Pair) (later : List ℕ) → IsRow row → bytes ≢ line_of row ++ later
  no_line_end is row later stands same =
      let one : ◌≡◌ {A = Option (List ℕ × List ℕ)} None (Some (row_text row, later)) = sym (cut_none is) ∙ ap (cut_at 10) same
      ∙ first_line row later stands in absurd cc

  module _ (end : ℕ) (is : position (λ b. nat_eq b 10) bytes ≡ Some end) where
    found : (position_or_len (λ b. nat_eq b 10) bytes ≡ end) × (nat_lt (position_or_len (λ b. nat_eq b 10) bytes) (length bytes) ≡ true)
    found = go (nat_lt (position_or_len (λ b. nat_eq b 10) bytes) (length bytes)) refl is
      where
        go : (t : Bool) → nat_lt (position_or_len (λ b. nat_eq b 10) bytes) (length bytes) ≡ t
            → cond t (Some (position_or_len (λ b. nat_eq b 10) bytes)) None ≡ Some end → (position_or_len (λ b. nat_eq b 10) bytes ≡ end)
            × (nat_lt (position_or_len (λ b. nat_eq b 10) bytes) (length bytes) ≡ true)
        go true t is = (cc, t)
        go false t is = absurd cc

    cut_some : cut_at 10 bytes ≡ Some (take end bytes, drop (end + 1) bytes)
    cut_some =
        ap (λ t. cond {A = Option (List ℕ × List ℕ)} t (Some (before_first (λ b. nat_eq b 10) bytes, after_first (λ b. nat_eq b 10) bytes)) None) found.1
        ∙ ap (λ n. Some (take n bytes, drop (n + 1) bytes)) found.0

    -- if the bytes before the first line end are the text of no row, the bytes do not begin with a line
    pub no_first_line : ((row : Pair) → IsRow row → take end bytes ≢ row_text row) → (row : Pair) (later : List ℕ) → IsRow row → bytes ≢ line_of row ++ later
    no_first_line none row later stands same =
        let one : ◌≡◌ {A = Option (List ℕ × List ℕ)} (Some (take end bytes, drop (end + 1) bytes)) (Some (row_text row, later)) =
        sym cut_some ∙ ap (cut_at 10) same ∙ first_line row later stands in
        let pairs : ◌≡◌ {A = List ℕ × List ℕ} (take end bytes, drop (end + 1) bytes) (row_text row, later) = cc in
        none row stands (ap (λ x. x.0) pairs)

    parts : bytes ≡ take end bytes ++ 10 ∷ drop (end + 1) bytes
    parts =
        let first : position_or_len (λ b. nat_eq b 10) bytes < length bytes = ltb-true _ _ found.1 in
        split_at_first (λ b. nat_eq b 10) bytes 0 first
        ∙ (λ i. take (found.0 i) bytes ++ (eqb-true _ 10 (passes_at_first (λ b. nat_eq b 10) bytes 0 first) i ∷ drop (found.0 i + 1) bytes))

    -- if the bytes before the first line end are the text of a row, the bytes begin with the row's line
    pub has_first_line : (row : Pair) (rest later : List ℕ) → rest ≡ drop end bytes → later ≡ drop 1 rest → take end bytes ≡ row_text row
        → bytes ≡ line_of row ++ later
    has_first_line row rest later one two same =
        parts ∙ ap (λ l. l ++ 10 ∷ drop (end + 1) bytes) same ∙ sym (grouped_line row (drop (end + 1) bytes))
        ∙ ap (λ l. line_of row ++ l) (sym (two ∙ ap (drop 1) one ∙ drop-drop 1 end bytes))
