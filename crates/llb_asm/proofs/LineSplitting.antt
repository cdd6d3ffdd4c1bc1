-- A text of lines is cut into these lines again.
use Rattle.std.proofs.Common.{◌≡◌, ◌≢◌, ℕ, zero, suc, ◌+◌, ◌*◌, ◌≤◌, nat_le, nat_eq, ◌&&◌, ◌||◌, Bool, true, false, List, [], ◌∷◌, ◌++◌, replicate}
use Rattle.std.proofs.Common.{refl, sym, ap, ◌∙◌, append_assoc, arith}
use Rattle.std.specs.Prelude.{not, map, cond}
use Rattle.std.specs.List.{All, AllByRecursion}
use Rattle.std.specs.Str.{is_utf8}
use Rattle.std.proofs.lemmas.Bool.{ne_eqb, leb-true}
use Rattle.std.proofs.lemmas.List.Elements.{All-append, All-replicate, All-weaker}
use Rattle.std.proofs.lemmas.List.Splits.{slice_split_at}
use Rattle.std.proofs.lemmas.List.Sums.{AllPass-from_list_all}
use Rattle.llb_asm.specs.ItemLines.{is_blank, without_front, without_end, stripped, is_dropped, numbered, kept}
use Rattle.llb_asm.specs.DisassembledText.{PlainLine, line_text, text_of_lines}
use Rattle.llb_asm.specs.FieldValueTexts.{BeginsSolid, EndsSolid, IsSolid}
use Rattle.llb_asm.proofs.TrimmedLines.{front_blank, front_kept, end_kept}
use Rattle.llb_asm.proofs.RemainingLines.{pieces, kept_of}

-- the content of a line as it is: solid text that does not begin with `#`
pub record IsContent (t : List ℕ) : Type 0 where
  pub solid : IsSolid t
  pub other : solid.begins.byte ≢ 35

abbrev pub AreContents : List PlainLine → Type 0
AreContents lines = AllByRecursion (λ l. IsContent l.1) lines

-- a line without its end
abbrev indented : PlainLine → List ℕ
indented l = replicate (2 * l.0) 32 ++ l.1

-- ---- cutting

abbrev is_end : ℕ → Bool
is_end b = nat_eq b 10

no_end : (l : PlainLine) → IsContent l.1 → All (λ b. is_end b ≡ false) (indented l)
no_end l is =
    All-append (λ b. is_end b ≡ false) (replicate (2 * l.0) 32) l.1 (All-replicate (λ b. is_end b ≡ false) (2 * l.0) 32 refl)
    (All-weaker (λ b. nat_le 32 b ≡ true) (λ b. is_end b ≡ false) (λ b h. let above = leb-true 32 b h in ne_eqb b 10 (λ e. omega arith)) l.1
    (AllPass-from_list_all (λ b. nat_le 32 b) l.1 is.solid.plain))

first_end : (l : PlainLine) (rest : List ℕ) → line_text l ++ rest ≡ indented l ++ 10 ∷ rest
first_end l rest = ap (λ t. t ++ rest) (sym (append_assoc (replicate (2 * l.0) 32) l.1 (10 ∷ []))) ∙ append_assoc (indented l) (10 ∷ []) rest

pieces_are : (lines : List PlainLine) → AreContents lines → pieces (text_of_lines lines) ≡ map indented lines ++ [] ∷ []
pieces_are [] are = refl
pieces_are (l ∷ lines) are =
    ap pieces (first_end l (text_of_lines lines)) ∙ slice_split_at is_end (indented l) 10 (text_of_lines lines) (no_end l are.0) refl
    ∙ ap (λ ls. indented l ∷ ls) (pieces_are lines are.1)

-- ---- stripping

no_blank : (b : ℕ) → 33 ≤ b → is_blank b ≡ false
no_blank b above = λ i. (ne_eqb b 32 (λ e. omega arith) i || ne_eqb b 9 (λ e. omega arith) i) || ne_eqb b 13 (λ e. omega arith) i

without_indent : (n : ℕ) (t : List ℕ) → without_front (replicate n 32 ++ t) ≡ without_front t
without_indent zero t = refl
without_indent (suc n) t = front_blank 32 (replicate n 32 ++ t) refl ∙ without_indent n t

front_stays : (t : List ℕ) → BeginsSolid t → without_front t ≡ t
front_stays t b = ap without_front b.is ∙ front_kept b.byte b.behind (no_blank b.byte b.above) ∙ sym b.is

end_stays : (t : List ℕ) → EndsSolid t → without_end t ≡ t
end_stays t e = ap without_end e.is ∙ end_kept e.before e.byte (no_blank e.byte e.above) ∙ sym e.is

stripped_is : (l : PlainLine) → IsContent l.1 → stripped (indented l) ≡ l.1
unfolding stripped
stripped_is l is = ap without_end (without_indent (2 * l.0) l.1 ∙ front_stays l.1 is.solid.begins) ∙ end_stays l.1 is.solid.ends

is_kept : (t : List ℕ) → IsContent t → is_dropped t ≡ false
is_kept t is =
    let begins = is.solid.begins in
    ap is_dropped begins.is ∙ ap (λ b. b && is_utf8 (begins.byte ∷ begins.behind)) (ne_eqb begins.byte 35 is.other)

-- ---- what is left

empty_dropped : (n : ℕ) → kept_of (numbered n ([] ∷ [])) ≡ []
unfolding stripped
empty_dropped n = refl

all_left : (n : ℕ) (lines : List PlainLine) → AreContents lines
    → map (λ l. l.1) (kept_of (numbered n (map indented lines ++ [] ∷ []))) ≡ map (λ l. l.1) lines
all_left n [] are = ap (map (λ l. l.1)) (empty_dropped n)
all_left n (l ∷ lines) are =
    let behind = numbered (n + 1) (map indented lines ++ [] ∷ []) in
    ap (λ t. map (λ l. l.1) (kept_of ((n, t) ∷ behind))) (stripped_is l are.0)
    ∙ ap (λ b. map (λ l. l.1) (cond (not b) ((n, l.1) ∷ kept_of behind) (kept_of behind))) (is_kept l.1 are.0)
    ∙ ap (λ ls. l.1 ∷ ls) (all_left (n + 1) lines are.1)

-- the lines that are kept of a text of solid lines are these lines, without what they are indented by
pub kept_lines : (lines : List PlainLine) → AreContents lines → map (λ l. l.1) (kept (text_of_lines lines)) ≡ map (λ l. l.1) lines
unfolding kept
kept_lines lines are = ap (λ ps. map (λ l. l.1) (kept_of (numbered 1 ps))) (pieces_are lines are) ∙ all_left 1 lines are
