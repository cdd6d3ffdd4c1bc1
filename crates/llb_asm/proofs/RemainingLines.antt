-- The lines of a text that are left after some of them, and what the next one does.
use Rattle.std.proofs.Common.{◌≡◌, ℕ, suc, ◌+◌, ◌<◌, true, false, List, [], ◌∷◌, length, drop, get_or, Result, Ok, Err, Option, Some, None, refl, sym}
use Rattle.std.proofs.Common.{ap, ◌∙◌, arith}
use Rattle.std.specs.Prelude.{nat_eq, not, filter}
use Rattle.std.specs.List.{slice_split}
use Rattle.std.proofs.Math.Seq.{drop-cons}
use Rattle.std.proofs.Math.ListN.{drop_of_length-le}
use Rattle.llb_asm.specs.declared.line.Refusal.{Refusal}
use Rattle.llb_asm.specs.ItemLines.{Line, stripped, is_dropped, numbered, kept}
use Rattle.std.specs.Prelude.{is_some, option_map}
use Rattle.llb_asm.specs.declared.fault.Rule.TheVariants.{Unclosed}
use Rattle.llb_asm.specs.declared.line.Refusal.TheVariants.{Breaks, UnknownLabel}
use Rattle.llb_asm.specs.declared.open_op.Open.{Open}
use Rattle.llb_asm.specs.LineReader.{Progress, open_op_of, step_of, run_from, finish, fault_at, GivesEntries}

abbrev pub pieces : List ℕ → List (List ℕ)
pieces text = slice_split (λ b. nat_eq b 10) text

abbrev pub kept_of : List Line → List Line
kept_of lines = filter (λ l. not (is_dropped l.1)) lines

-- the kept lines of a text after its first n lines
abbrev pub kept_behind : ℕ → List ℕ → List Line
kept_behind n text = kept_of (numbered (n + 1) (drop n (pieces text)))

-- before a line is looked at, all lines that are kept of a text are left
pub all_kept : (text : List ℕ) → kept text ≡ kept_behind 0 text
unfolding kept
all_kept text = refl

-- the next line
pub record IsNext (text : List ℕ) (n : ℕ) (line : List ℕ) : Type 0 where
  pub inside : n < length (pieces text)
  pub same : line ≡ get_or (pieces text) n line

numbered_next : (text : List ℕ) (n : ℕ) (line : List ℕ) → IsNext text n line
    → numbered (n + 1) (drop n (pieces text)) ≡ (n + 1, stripped line) ∷ numbered ((n + 1) + 1) (drop (n + 1) (pieces text))
numbered_next text n line is =
    let one : suc n ≡ n + 1 = omega arith in
    ap (numbered (n + 1)) (drop-cons (pieces text) n line is.inside)
    ∙ ap (λ l. (n + 1, stripped l) ∷ numbered ((n + 1) + 1) (drop (suc n) (pieces text))) (sym is.same)
    ∙ ap (λ k. (n + 1, stripped line) ∷ numbered ((n + 1) + 1) (drop k (pieces text))) one

-- where the next line is empty or a comment, the lines that are left are those after it
pub is_left_out : (text : List ℕ) (n : ℕ) (line : List ℕ) → IsNext text n line → is_dropped (stripped line) ≡ true
    → kept_behind n text ≡ kept_behind (n + 1) text
is_left_out text n line is e = ap kept_of (numbered_next text n line is) ∙ (rw e refl)

-- where the next line is neither empty nor a comment, it is the first of those that are left, with its number
pub is_taken : (text : List ℕ) (n : ℕ) (line : List ℕ) → IsNext text n line → is_dropped (stripped line) ≡ false
    → kept_behind n text ≡ (n + 1, stripped line) ∷ kept_behind (n + 1) text
is_taken text n line is e = ap kept_of (numbered_next text n line is) ∙ (rw e refl)

-- after the last line none is left
pub none_left : (text : List ℕ) (n : ℕ) → n ≡ length (pieces text) → kept_behind n text ≡ []
none_left text n e = ap (λ l. kept_of (numbered (n + 1) l)) (drop_of_length-le (pieces text) (omega (arith, e)))

-- ---- the reading after the remaining lines

-- a line that is not refused leads on to the other lines, from where it leaves the reading
pub goes_on : (last n : ℕ) (p q : Progress) (line : List ℕ) (lines : List Line) → step_of p line ≡ Ok q
    → run_from last p ((n, line) ∷ lines) ≡ run_from n q lines
unfolding run_from
goes_on last n p q line lines e = rw e refl

-- a line that is refused ends the reading, with its number and why
pub stops : (last n : ℕ) (p : Progress) (e : Refusal) (line : List ℕ) (lines : List Line) → step_of p line ≡ Err e
    → run_from last p ((n, line) ∷ lines) ≡ Err (n, e)
unfolding run_from
stops last n p e line lines same = rw same refl

-- with no line left, the reading ends by whether an op is open
pub ends : (last : ℕ) (p : Progress) → run_from last p [] ≡ finish last p.earlier p.current
unfolding run_from
ends last p = refl

-- where an op is open after the last line, the text is refused at this line as unclosed
pub finish_open : (last : ℕ) (earlier : List (List ℕ)) (o : Option Open) → is_some o ≡ true
    → finish last earlier (option_map open_op_of o) ≡ Err (last, Breaks Unclosed)
finish_open last earlier None e = absurd cc
finish_open last earlier (Some s) e = refl

-- where no op is open after the last line, the text is read as the entries so far
pub finish_whole : (last : ℕ) (earlier : List (List ℕ)) (o : Option Open) → is_some o ≡ false → finish last earlier (option_map open_op_of o) ≡ Ok earlier
finish_whole last earlier None e = refl
finish_whole last earlier (Some s) e = absurd cc

-- where the reading is refused at a line, the fault of that line is the right result
pub gives_fault : (n : ℕ) (e : Refusal) (r : Result (List (List ℕ)) (ℕ × Refusal)) → r ≡ Err (n, e) → GivesEntries (Err (fault_at n e)) r
gives_fault n (Breaks rule) r same = same
gives_fault n UnknownLabel r same = same
