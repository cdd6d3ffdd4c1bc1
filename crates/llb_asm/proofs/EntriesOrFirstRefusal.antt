-- Each line goes on from entries to entries, or it is refused; so a text is entries, or it has a first line that is refused.
use Rattle.std.proofs.Common.{◌≡◌, ◌≢◌, refl, sym, ap, subst, ◌∙◌, ℕ, List, [], ◌∷◌, ◌++◌, map, append_assoc, append-nil, Result, Ok, Err, ◌⊎◌, inl, inr}
use Rattle.llb_asm.specs.declared.fault.AsmFault.{AsmFault}
use Rattle.llb_asm.specs.declared.fault.AsmFault.TheVariants as fault
use Rattle.llb_asm.specs.declared.line.Refusal.{Refusal}
use Rattle.llb_asm.specs.declared.line.Refusal.TheVariants.{Breaks, UnknownLabel}
use Rattle.llb_asm.specs.declared.open_op.Frame.{Frame}
use Rattle.llb_asm.specs.ItemLines.{Line, kept}
use Rattle.llb_asm.specs.TextGrammar.{Items, records_of, IsWhole, at_hand, outermost, item_at, is_within, labels_of, closing, IsRefusedIn}
use Rattle.llb_asm.specs.TextGrammar.{Entries, none, raw, op, open_op, text_of, AreClosed, AreEntries, begun_in, entry_in, IsRefused, SpellsEntries, FaultAt}
use Rattle.llb_asm.specs.TextGrammar.{Assembles}
use Rattle.llb_asm.specs.LineReader.{Progress, at_front, between, amid, with_item, with_begun, closed_on, step_in, step_of, run_from, finish, next}
use Rattle.llb_asm.specs.LineReader.{GivesEntries}
use Rattle.llb_asm.proofs.ReaderStates.{state_in_op, hand_after, whole_or_not, below_open, item_in, closes_or_not, step_other}
use Rattle.llb_asm.proofs.ReaderStates.{progress_after, progress_closed, closed_or_not, progress_open}
use Rattle.llb_asm.proofs.AcceptedLines.{refused_from, step_closing, AddsTo, adds_to}

-- ---- a line that is refused

-- a closing line is not refused where a message is open
never_refused : (earlier : List (List ℕ)) (t : Items) (line : List ℕ) (e : Refusal)
    → ¬ IsWhole t → line ≡ closing → step_in earlier (state_in_op t) line ≡ Err e → ⊥
never_refused earlier t line e not same is =
    let s = state_in_op t in
    let g = below_open at_front.here [] [] t not in
    let closes : step_in earlier s closing ≡ Err e = subst (λ (l : List ℕ). step_in earlier s l ≡ Err e) same is in
    let goes : closed_on earlier s.bytes (g.first ∷ g.others) ≡ Err e = subst (λ (w : List Frame). closed_on earlier s.bytes w ≡ Err e) g.below closes in
    cc

refuses_in : (earlier : List (List ℕ)) (t : Items) (line : List ℕ) (e : Refusal) → step_in earlier (state_in_op t) line ≡ Err e → IsRefusedIn earlier t line e
refuses_in earlier t line e is = elim (closes_or_not line) [ inl same ↦ closing_is same | inr apart ↦ inr (apart.0, other apart.0) ]
  where
    closing_is : line ≡ closing → IsRefusedIn earlier t line e
    closing_is same = elim (whole_or_not t) [
      | inl whole ↦ inl (
        same,
        whole,
        refused_from (entry_in earlier (records_of t)) (λ entry. between (earlier ++ entry ∷ [])) e
            (step_closing earlier at_front.here [] [] t line (Err e) whole same is),
      )
      | inr not ↦ absurd (never_refused earlier t line e not same is)
    ]

    other : line ≢ closing → item_at (labels_of earlier) (at_hand (outermost earlier) t) line ≡ Err e
    other apart =
        ap (λ hand. item_at (labels_of earlier) hand line) (sym (hand_after (is_within earlier) at_front.here [] [] t))
        ∙ refused_from (item_in earlier (state_in_op t) line) (λ i. amid earlier (with_item (state_in_op t) i)) e
        (sym (step_other earlier (state_in_op t) line apart) ∙ is)

refuses : (earlier : List (List ℕ)) (t : Entries) (line : List ℕ) (e : Refusal) → step_of (progress_after earlier t) line ≡ Err e → IsRefused earlier t line e
refuses earlier none line e is = refused_from (begun_in earlier line) (λ b. with_begun earlier b) e is
refuses earlier (raw l bytes rest) line e is = refuses (earlier ++ bytes ∷ []) rest line e is
refuses earlier (op l items entry rest) line e is = refuses (earlier ++ entry ∷ []) rest line e is
refuses earlier (open_op l items) line e is = refuses_in earlier items line e is

-- ---- all lines

-- what the reading says of all lines
abbrev Says : List Line → Result (List (List ℕ)) (ℕ × Refusal) → Type 0
Says lines (Ok entries) = SpellsEntries lines entries
Says lines (Err x) = FaultAt lines x.0 x.1

-- the number is the last line's
record IsLast (before : List Line) (n : ℕ) : Type 0 where
  front : List Line
  line : List ℕ
  split : before ≡ front ++ (n, line) ∷ []

abbrev EndsAt : List Line → ℕ → Type 0
EndsAt before n = (before ≡ []) ⊎ IsLast before n

-- an op that is open has a line
open_has_line : (t : Entries) → ¬ AreClosed t → text_of t ≢ []
open_has_line none not e = not tt
open_has_line (raw line bytes rest) not e = cc
open_has_line (op line items entry rest) not e = cc
open_has_line (open_op line items) not e = cc

module _ (lines : List Line) where
  ends_closed : (n : ℕ) (t : Entries) → AreEntries [] t → map (λ l. l.1) lines ≡ text_of t → AreClosed t
      → Says lines (finish n (progress_after [] t).earlier (progress_after [] t).current)
  ends_closed n t are text closed =
      subst (λ (p : Progress). Says lines (finish n p.earlier p.current)) (sym (progress_closed [] t closed))
      (record { parts = t; are = are; closed = closed; text = text; same = refl })

  ends_open : (n : ℕ) (t : Entries) → AreEntries [] t → map (λ l. l.1) lines ≡ text_of t → EndsAt lines n → ¬ AreClosed t
      → Says lines (finish n (progress_after [] t).earlier (progress_after [] t).current)
  ends_open n t are text last not =
      subst (λ (p : Progress). Says lines (finish n p.earlier p.current)) (sym (progress_open [] t not).is)
      (elim last [
        | inl no_line ↦ absurd (open_has_line t not (sym text ∙ ap (λ x. map (λ l. l.1) x) no_line))
        | inr x ↦ inr (record { before = x.front; line = x.line; split = x.split; parts = t; are = are; text = text; not_closed = not }, refl)
      ])

  -- after lines that are entries, the result for the rest is the reading's
  abbrev WalksOn : List Line → Type 0
  WalksOn rest =
      (before : List Line) (n : ℕ) (t : Entries) → AreEntries [] t → lines ≡ before ++ rest → map (λ l. l.1) before ≡ text_of t → EndsAt before n
      → Says lines (run_from n (progress_after [] t) rest)

map_end : (before : List Line) (l : Line) → map (λ k. k.1) (before ++ l ∷ []) ≡ map (λ k. k.1) before ++ (l.1 ∷ [])
map_end [] l = refl
map_end (k ∷ before) l = ap (λ x. k.1 ∷ x) (map_end before l)

walk : (lines rest : List Line) → WalksOn lines rest
unfolding run_from
walk lines [] before n t are split text last =
    let all : before ≡ lines = sym (split ∙ append-nil before) in
    let told : map (λ l. l.1) lines ≡ text_of t = subst (λ (x : List Line). map (λ l. l.1) x ≡ text_of t) all text in
    let ends : EndsAt lines n = subst (λ (x : List Line). EndsAt x n) all last in
    elim (closed_or_not t) [ inl closed ↦ ends_closed lines n t are told closed | inr not ↦ ends_open lines n t are told ends not ]
walk lines (l ∷ rest) before n t are split text last = go (walk lines rest) (step_of (progress_after [] t) l.1) refl
  where
    refused : (e : Refusal) → step_of (progress_after [] t) l.1 ≡ Err e → Says lines (Err (l.0, e))
    refused e is = inl (record {
      before = before;
      line = l.1;
      after = rest;
      split = split;
      parts = t;
      are = are;
      text = text;
      refused = refuses [] t l.1 e is;
    })

    further : WalksOn lines rest → (q : Progress) → AddsTo [] t l.1 q → Says lines (run_from l.0 q rest)
    further again q a =
        subst (λ (p : Progress). Says lines (run_from l.0 p rest)) a.ends
        (again (before ++ l ∷ []) l.0 a.parts a.are
        (split ∙ sym (append_assoc before (l ∷ []) rest))
        (map_end before l ∙ (ap (λ x. x ++ (l.1 ∷ [])) text ∙ sym a.text))
        (inr (record { front = before; line = l.1; split = refl })))

    go : WalksOn lines rest → (r : Result Progress Refusal) → step_of (progress_after [] t) l.1 ≡ r → Says lines (next l.0 (λ q. run_from l.0 q rest) r)
    go again (Err e) is = refused e is
    go again (Ok q) is = further again q (adds_to [] t l.1 q are is)

all_lines : (lines : List Line) → Says lines (run_from 0 (between []) lines)
all_lines lines = walk lines lines [] 0 none tt refl refl (inl refl)

read_so : (lines : List Line) (r : Result (List (List ℕ)) (ℕ × Refusal)) → run_from 0 (between []) lines ≡ r → Says lines r
read_so lines r e = subst (λ (x : Result (List (List ℕ)) (ℕ × Refusal)). Says lines x) e (all_lines lines)

-- the result of the lines, read one after another, is what the text is assembled to
pub answers : (text : List ℕ) (r : Result (List (List ℕ)) AsmFault) → GivesEntries r (run_from 0 (between []) (kept text)) → Assembles text r
answers text (Ok entries) e = read_so (kept text) (Ok entries) e
answers text (Err (fault.Line n rule)) e = read_so (kept text) (Err (n, Breaks rule)) e
answers text (Err (fault.UnknownLabel n)) e = read_so (kept text) (Err (n, UnknownLabel)) e
answers text (Err fault.Memory) e = tt
answers text (Err fault.Write) e = absurd e
