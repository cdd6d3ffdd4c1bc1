-- A text has one result at most: entries, or a refusal, are what it is read as.
use Rattle.std.proofs.Common.{◌≡◌, refl, sym, ap, ◌∙◌, ℕ, List, [], ◌∷◌, ◌++◌, map, Result, Ok, Err, append_assoc, append-nil, inl, inr}
use Rattle.llb_wire.specs.CallResults.{◌>>=◌}
use Rattle.llb_wire.proofs.RuleComposition.{bind_ok}
use Rattle.llb_ops.specs.Writing.{set_bytes}
use Rattle.llb_asm.specs.declared.fault.Rule.TheVariants.{Unclosed}
use Rattle.llb_asm.specs.declared.line.Refusal.{Refusal}
use Rattle.llb_asm.specs.declared.line.Refusal.TheVariants.{Breaks}
use Rattle.llb_asm.specs.declared.line.Here.{Here}
use Rattle.llb_asm.specs.declared.line.Held.TheVariants.{Record, Opens}
use Rattle.llb_asm.specs.declared.line.Item.{Item}
use Rattle.llb_asm.specs.declared.entry.Begun.{Begun}
use Rattle.llb_asm.specs.declared.entry.Begun.TheVariants.{Raw, Structured}
use Rattle.llb_asm.specs.declared.open_op.Frame.{Frame}
use Rattle.llb_asm.specs.ItemLines.{Line, kept}
use Rattle.llb_asm.specs.EntryLine.{inside}
use Rattle.llb_asm.specs.TextGrammar.{Items, done, single, nested, unclosed, lines_of, records_of, item_at, item, is_within, labels_of, closing, IsRefusedIn}
use Rattle.llb_asm.specs.TextGrammar.{Entries, none, raw, op, open_op, text_of, AreEntries, begun_in, entry_in, IsRefused}
use Rattle.llb_asm.specs.TextGrammar.{SpellsEntries, FaultAt, HasOneAnswer}
use Rattle.llb_asm.specs.LineReader.{OpenOp, Progress, at_front, between, amid, with_item, with_begun, step_in, step_of, run_from, finish}
use Rattle.llb_asm.proofs.ReaderStates.{state, frame, state_after, state_in_op, AreItemsAt, here_after, state_whole, hand_after, item_in, step_other, step_item}
use Rattle.llb_asm.proofs.ReaderStates.{progress_after, progress_closed, progress_open}

-- ---- lines without their numbers

unfoldable steps : Progress → List (List ℕ) → Result Progress Refusal
steps p [] = Ok p
steps p (line ∷ lines) = step_of p line >>= λ q. steps q lines

steps_end : (p : Progress) → steps p [] ≡ Ok p
unfolding steps
steps_end p = refl

steps_begun : (earlier : List (List ℕ)) (line : List ℕ) (x : Begun) (rest : List (List ℕ)) → begun_in earlier line ≡ Ok x
    → steps (between earlier) (line ∷ rest) ≡ steps (with_begun earlier x) rest
unfolding steps
steps_begun earlier line x rest e = rw e refl

module _ (earlier : List (List ℕ)) where
  steps_item : (s : OpenOp) (line : List ℕ) (i : Item) (rest : List (List ℕ)) → item_in earlier s line ≡ Ok i
      → steps (amid earlier s) (line ∷ rest) ≡ steps (amid earlier (with_item s i)) rest
  unfolding steps
  steps_item s line i rest e = ap (λ r. r >>= λ q. steps q rest) (step_item earlier s line i e)

  steps_close : (h : Here) (b : List ℕ) (g : Frame) (w : List Frame) (rest : List (List ℕ))
      → steps (amid earlier (state h b (g ∷ w))) (closing ∷ rest) ≡ steps (amid earlier (state g.here (g.bytes ++ set_bytes g.number b) w)) rest
  unfolding steps
  steps_close h b g w rest = refl

  steps_entry : (h : Here) (b entry : List ℕ) (rest : List (List ℕ)) → entry_in earlier b ≡ Ok entry
      → steps (amid earlier (state h b [])) (closing ∷ rest) ≡ steps (between (earlier ++ entry ∷ [])) rest
  unfolding steps
  steps_entry h b entry rest e = rw e refl

  -- the lines of items lead to the state after them
  steps_items : (h : Here) (b : List ℕ) (w : List Frame) (t : Items) → AreItemsAt earlier (state h b w) t → (more : List (List ℕ))
      → steps (amid earlier (state h b w)) (lines_of t ++ more) ≡ steps (amid earlier (state_after h b w t)) more
  steps_items h b w done fits more = refl
  steps_items h b w (single line next bytes rest) (is, fits) more =
      steps_item (state h b w) line (item next (Record bytes)) (lines_of rest ++ more) is
      ∙ steps_items next (b ++ bytes) w rest fits more
  steps_items h b w (nested line next number sub inner rest) (is, within, whole, fits) more =
      let here = frame next number b ∷ w in
      steps_item (state h b w) line (item next (Opens number sub)) ((lines_of inner ++ (closing ∷ lines_of rest)) ++ more) is
      ∙ ap (λ x. steps (amid earlier (state (inside sub) [] here)) x) (append_assoc (lines_of inner) (closing ∷ lines_of rest) more)
      ∙ steps_items (inside sub) [] here inner within (closing ∷ (lines_of rest ++ more))
      ∙ ap (λ x. steps (amid earlier x) (closing ∷ (lines_of rest ++ more))) (state_whole (inside sub) [] here inner whole)
      ∙ steps_close (here_after (inside sub) inner) (records_of inner) (frame next number b) w (lines_of rest ++ more)
      ∙ steps_items next (b ++ set_bytes number (records_of inner)) w rest fits more
  steps_items h b w (unclosed line next number sub inner) (is, within) more =
      steps_item (state h b w) line (item next (Opens number sub)) (lines_of inner ++ more) is
      ∙ steps_items (inside sub) [] (frame next number b ∷ w) inner within more

-- the lines of entries lead to the state of the reading after them
steps_entries : (earlier : List (List ℕ)) (t : Entries) → AreEntries earlier t → (more : List (List ℕ))
    → steps (between earlier) (text_of t ++ more) ≡ steps (progress_after earlier t) more
steps_entries earlier none are more = refl
steps_entries earlier (raw line bytes rest) (is, are) more =
    steps_begun earlier line (Raw bytes) (text_of rest ++ more) is
    ∙ steps_entries (earlier ++ bytes ∷ []) rest are more
steps_entries earlier (op line items entry rest) (is, fits, whole, ends, are) more =
    steps_begun earlier line Structured ((lines_of items ++ (closing ∷ text_of rest)) ++ more) is
    ∙ ap (λ x. steps (amid earlier at_front) x) (append_assoc (lines_of items) (closing ∷ text_of rest) more)
    ∙ steps_items earlier at_front.here [] [] items fits (closing ∷ (text_of rest ++ more))
    ∙ ap (λ x. steps (amid earlier x) (closing ∷ (text_of rest ++ more))) (state_whole at_front.here [] [] items whole)
    ∙ steps_entry earlier (here_after at_front.here items) (records_of items) entry (text_of rest ++ more) ends
    ∙ steps_entries (earlier ++ entry ∷ []) rest are more
steps_entries earlier (open_op line items) (is, fits) more =
    steps_begun earlier line Structured (lines_of items ++ more) is
    ∙ steps_items earlier at_front.here [] [] items fits more

steps_all : (lines : List (List ℕ)) (t : Entries) → AreEntries [] t → lines ≡ text_of t → steps (between []) lines ≡ Ok (progress_after [] t)
steps_all lines t are text =
    ap (λ x. steps (between []) x) (text ∙ sym (append-nil (text_of t))) ∙ steps_entries [] t are [] ∙ steps_end (progress_after [] t)

-- ---- lines with their numbers

abbrev last_of : ℕ → List Line → ℕ
last_of n [] = n
last_of n (l ∷ lines) = last_of l.0 lines

last_end : (n m : ℕ) (line : List ℕ) (before : List Line) → last_of n (before ++ (m, line) ∷ []) ≡ m
last_end n m line [] = refl
last_end n m line (l ∷ before) = last_end l.0 m line before

run_front : (n : ℕ) (p q : Progress) (before more : List Line) → steps p (map (λ l. l.1) before) ≡ Ok q
    → run_from n p (before ++ more) ≡ run_from (last_of n before) q more
unfolding steps run_from
run_front n p q [] more e = ap (λ x. run_from n x more) (let same : p ≡ q = cc in same)
run_front n p q (l ∷ before) more e =
    let x = bind_ok (step_of p l.1) (λ r. steps r (map (λ k. k.1) before)) q e in
    rw x.1 (run_front l.0 x.0 q before more x.2)

run_end : (n : ℕ) (p : Progress) → run_from n p [] ≡ finish n p.earlier p.current
unfolding run_from
run_end n p = refl

run_refused : (n m : ℕ) (p : Progress) (line : List ℕ) (rest : List Line) (e : Refusal) → step_of p line ≡ Err e
    → run_from n p ((m, line) ∷ rest) ≡ Err (m, e)
unfolding run_from
run_refused n m p line rest e is = rw is refl

-- all lines, read to their end
run_all : (lines : List Line) (t : Entries) → AreEntries [] t → map (λ l. l.1) lines ≡ text_of t
    → run_from 0 (between []) lines ≡ finish (last_of 0 lines) (progress_after [] t).earlier (progress_after [] t).current
run_all lines t are text =
    ap (λ x. run_from 0 (between []) x) (sym (append-nil lines))
    ∙ run_front 0 (between []) (progress_after [] t) lines [] (steps_all (map (λ l. l.1) lines) t are text)
    ∙ run_end (last_of 0 lines) (progress_after [] t)

-- ---- what is said of a text is read

read_entries : (lines : List Line) (entries : List (List ℕ)) → SpellsEntries lines entries → run_from 0 (between []) lines ≡ Ok entries
read_entries lines entries x =
    run_all lines x.parts x.are x.text
    ∙ ap (λ p. finish (last_of 0 lines) p.earlier p.current) (progress_closed [] x.parts x.closed)
    ∙ ap (λ y. Ok y) (sym x.same)

refused_in : (earlier : List (List ℕ)) (t : Items) (line : List ℕ) (e : Refusal) → IsRefusedIn earlier t line e
    → step_in earlier (state_in_op t) line ≡ Err e
refused_in earlier t line e (inl (same, whole, is)) = rw (same, state_whole at_front.here [] [] t whole, is) refl
refused_in earlier t line e (inr (apart, is)) =
    step_other earlier (state_in_op t) line apart
    ∙ ap (λ r. r >>= λ i. Ok (amid earlier (with_item (state_in_op t) i)))
    (ap (λ x. item_at (labels_of earlier) x line) (hand_after (is_within earlier) at_front.here [] [] t) ∙ is)

refused_on : (earlier : List (List ℕ)) (t : Entries) (line : List ℕ) (e : Refusal) → IsRefused earlier t line e
    → step_of (progress_after earlier t) line ≡ Err e
refused_on earlier none line e is = rw is refl
refused_on earlier (raw l bytes rest) line e is = refused_on (earlier ++ bytes ∷ []) rest line e is
refused_on earlier (op l items entry rest) line e is = refused_on (earlier ++ entry ∷ []) rest line e is
refused_on earlier (open_op l items) line e is = refused_in earlier items line e is

read_fault : (lines : List Line) (n : ℕ) (e : Refusal) → FaultAt lines n e → run_from 0 (between []) lines ≡ Err (n, e)
read_fault lines n e (inl x) =
    ap (λ l. run_from 0 (between []) l) x.split
    ∙ run_front 0 (between []) (progress_after [] x.parts) x.before ((n, x.line) ∷ x.after) (steps_all (map (λ l. l.1) x.before) x.parts x.are x.text)
    ∙ run_refused (last_of 0 x.before) n (progress_after [] x.parts) x.line x.after e (refused_on [] x.parts x.line e x.refused)
read_fault lines n e (inr (x, is)) =
    let open_end = progress_open [] x.parts x.not_closed in
    run_all lines x.parts x.are x.text
    ∙ ap (λ p. finish (last_of 0 lines) p.earlier p.current) open_end.is
    ∙ ap (λ k. Err (k, Breaks Unclosed)) (ap (λ l. last_of 0 l) x.split ∙ last_end 0 n x.line x.before)
    ∙ ap (λ r. Err (n, r)) (sym is)

-- ---- one result

abbrev refused_at : ℕ × Refusal → Result (List (List ℕ)) (ℕ × Refusal)
refused_at x = Err x

same_place : (x y : ℕ × Refusal) → refused_at x ≡ refused_at y → x ≡ y
same_place x y e = cc

pub one_answer : (text : List ℕ) → HasOneAnswer text
one_answer text = record {
  entries = λ a b x y. let p = read_entries (kept text) a x in let q = read_entries (kept text) b y in cc;
  apart = λ a n e x y. let p = read_entries (kept text) a x in let q = read_fault (kept text) n e y in cc;
  faults = λ n d m e x y.
      let p = read_fault (kept text) n d x in let q = read_fault (kept text) m e y in
      let both : refused_at (n, d) ≡ refused_at (m, e) = cc in same_place (n, d) (m, e) both;
}
