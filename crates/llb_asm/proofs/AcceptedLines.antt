-- A line that is not refused adds to the items of the op that is open, closes it, or begins an entry.
use Rattle.std.proofs.Common.{◌≡◌, ◌≢◌, refl, sym, ap, ◌∙◌, ℕ, List, [], ◌∷◌, ◌++◌, append_assoc, Result, Ok, Err, ◌⊎◌, inl, inr}
use Rattle.llb_wire.specs.CallResults.{◌>>=◌}
use Rattle.llb_ops.specs.declared.table.MessageName.{MessageName}
use Rattle.llb_ops.specs.Writing.{set_bytes}
use Rattle.llb_asm.specs.declared.line.Refusal.{Refusal}
use Rattle.llb_asm.specs.declared.line.Here.{Here}
use Rattle.llb_asm.specs.declared.line.Held.{Held}
use Rattle.llb_asm.specs.declared.line.Held.TheVariants.{Record, Opens}
use Rattle.llb_asm.specs.declared.entry.Begun.{Begun}
use Rattle.llb_asm.specs.declared.entry.Begun.TheVariants.{Raw, Structured}
use Rattle.llb_asm.specs.declared.open_op.Frame.{Frame}
use Rattle.llb_asm.specs.EntryLine.{inside}
use Rattle.llb_asm.specs.TextGrammar.{Items, done, single, nested, unclosed, lines_of, records_of, IsWhole, item, closing}
use Rattle.llb_asm.specs.TextGrammar.{Entries, none, raw, op, open_op, text_of, AreEntries, begun_in, entry_in}
use Rattle.llb_asm.specs.LineReader.{Progress, at_front, between, amid, with_held, with_item, with_begun, closed_on, step_in, step_of}
use Rattle.llb_asm.proofs.ReaderStates.{state, frame, state_after, AreItemsAt, state_whole, progress_after, closes_or_not, item_in, step_other}

-- what goes on to a value had one to go on with, and what goes on to a refusal was refused
pub goes_from : {A B : Type 0} (r : Result A Refusal) (f : A → B) (y : B) → (r >>= λ x. Ok (f x)) ≡ Ok y → (x : A) × (r ≡ Ok x) × (f x ≡ y)
goes_from (Ok x) f y e = (x, refl, cc)
goes_from (Err d) f y e = absurd cc

-- a refusal after a step that refuses nothing itself was there before the step
pub refused_from : {A B : Type 0} (r : Result A Refusal) (f : A → B) (d : Refusal) → (r >>= λ x. Ok (f x)) ≡ Err d → r ≡ Err d
refused_from (Ok x) f d e = absurd cc
refused_from (Err x) f d e = cc

abbrev granted : Progress → Result Progress Refusal
granted p = Ok p

same_progress : (p q : Progress) → granted p ≡ Ok q → p ≡ q
same_progress p q e = cc

-- ---- in an op

module _ (earlier : List (List ℕ)) where
  -- items with one line more
  pub record Adds (h : Here) (b : List ℕ) (w : List Frame) (t : Items) (line : List ℕ) (q : Progress) : Type 0 where
    pub items : Items
    pub fits : AreItemsAt earlier (state h b w) items
    pub text : lines_of items ≡ lines_of t ++ (line ∷ [])
    pub ends : amid earlier (state_after h b w items) ≡ q

  -- the line closes whole items, or it adds to them
  abbrev pub GoesOn : Here → List ℕ → List Frame → Items → List ℕ → Progress → Type 0
  GoesOn h b w t line q = (IsWhole t × (line ≡ closing)) ⊎ Adds h b w t line q

  first_held : (h : Here) (b : List ℕ) (w : List Frame) (line : List ℕ) (q : Progress) (next : Here) (held : Held)
      → item_in earlier (state h b w) line ≡ Ok (item next held) → amid earlier (with_held (state h b w) next held) ≡ q → Adds h b w done line q
  first_held h b w line q next (Record bytes) is ends = record { items = single line next bytes done; fits = (is, tt); text = refl; ends = ends }
  first_held h b w line q next (Opens number sub) is ends =
      record { items = unclosed line next number sub done; fits = (is, tt); text = refl; ends = ends }

  first_line : (h : Here) (b : List ℕ) (w : List Frame) (line : List ℕ) (q : Progress)
      → line ≢ closing → step_in earlier (state h b w) line ≡ Ok q → Adds h b w done line q
  first_line h b w line q apart e =
      let here = state h b w in
      let x = goes_from (item_in earlier here line) (λ i. amid earlier (with_item here i)) q (sym (step_other earlier here line apart) ∙ e) in
      first_held h b w line q x.0.next x.0.held x.1 x.2

  -- what a closing line does after whole items
  pub step_closing : (h : Here) (b : List ℕ) (w : List Frame) (t : Items) (line : List ℕ) (r : Result Progress Refusal)
      → IsWhole t → line ≡ closing → step_in earlier (state_after h b w t) line ≡ r → closed_on earlier (b ++ records_of t) w ≡ r
  step_closing h b w t line r whole same e = sym (rw (same, state_whole h b w t whole) refl) ∙ e

  -- a message that was not closed is closed
  closes : (h : Here) (b : List ℕ) (w : List Frame) (opens : List ℕ) (next : Here) (number : ℕ) (sub : MessageName) (inner : Items)
      (line : List ℕ) (q : Progress) → AreItemsAt earlier (state h b w) (unclosed opens next number sub inner)
      → IsWhole inner → line ≡ closing → step_in earlier (state_after h b w (unclosed opens next number sub inner)) line ≡ Ok q
      → Adds h b w (unclosed opens next number sub inner) line q
  closes h b w opens next number sub inner line q (is, fits) whole same e = record {
    items = nested opens next number sub inner done;
    fits = (is, fits, whole, tt);
    text = ap (λ l. opens ∷ (lines_of inner ++ (l ∷ []))) (sym same);
    ends =
        same_progress (amid earlier (state next (b ++ set_bytes number (records_of inner)) w)) q
        (step_closing (inside sub) [] (frame next number b ∷ w) inner line (Ok q) whole same e);
  }

  -- each line goes on from items that fit
  pub goes_on : (h : Here) (b : List ℕ) (w : List Frame) (t : Items) (line : List ℕ) (q : Progress)
      → AreItemsAt earlier (state h b w) t → step_in earlier (state_after h b w t) line ≡ Ok q → GoesOn h b w t line q
  goes_on h b w done line q fits e =
      elim (closes_or_not line) [ inl same ↦ inl (tt, same) | inr apart ↦ inr (first_line h b w line q apart.0 e) ]
  goes_on h b w (single l next bytes rest) line q (is, fits) e =
      elim (goes_on next (b ++ bytes) w rest line q fits e) [
        | inl x ↦ inl x
        | inr a ↦ inr (record { items = single l next bytes a.items; fits = (is, a.fits); text = ap (λ x. l ∷ x) a.text; ends = a.ends })
      ]
  goes_on h b w (nested l next number sub inner rest) line q (is, within, whole, fits) e =
      elim (goes_on next (b ++ set_bytes number (records_of inner)) w rest line q fits e) [
        | inl x ↦ inl x
        | inr a ↦ inr (record {
          items = nested l next number sub inner a.items;
          fits = (is, within, whole, a.fits);
          text =
              ap (λ x. l ∷ (lines_of inner ++ (closing ∷ x))) a.text
              ∙ ap (λ x. l ∷ x) (sym (append_assoc (lines_of inner) (closing ∷ lines_of rest) (line ∷ [])));
          ends = a.ends;
        })
      ]
  goes_on h b w (unclosed l next number sub inner) line q (is, fits) e =
      elim (goes_on (inside sub) [] (frame next number b ∷ w) inner line q fits e) [
        | inl x ↦ inr (closes h b w l next number sub inner line q (is, fits) x.0 x.1 e)
        | inr a ↦ inr (record { items = unclosed l next number sub a.items; fits = (is, a.fits); text = ap (λ x. l ∷ x) a.text; ends = a.ends })
      ]

-- ---- in a text

-- entries with one line more
pub record AddsTo (earlier : List (List ℕ)) (t : Entries) (line : List ℕ) (q : Progress) : Type 0 where
  pub parts : Entries
  pub are : AreEntries earlier parts
  pub text : text_of parts ≡ text_of t ++ (line ∷ [])
  pub ends : progress_after earlier parts ≡ q

begins : (earlier : List (List ℕ)) (line : List ℕ) (q : Progress) (x : Begun)
    → begun_in earlier line ≡ Ok x → with_begun earlier x ≡ q → AddsTo earlier none line q
begins earlier line q (Raw bytes) is ends = record { parts = raw line bytes none; are = (is, tt); text = refl; ends = ends }
begins earlier line q Structured is ends = record { parts = open_op line done; are = (is, tt); text = refl; ends = ends }

first_entry : (earlier : List (List ℕ)) (line : List ℕ) (q : Progress) → step_of (between earlier) line ≡ Ok q → AddsTo earlier none line q
first_entry earlier line q e =
    let x = goes_from (begun_in earlier line) (λ b. with_begun earlier b) q e in
    begins earlier line q x.0 x.1 x.2

-- an op that was not closed is closed
closes_op : (earlier : List (List ℕ)) (opens : List ℕ) (items : Items) (line : List ℕ) (q : Progress) → AreEntries earlier (open_op opens items)
    → IsWhole items → line ≡ closing → step_of (progress_after earlier (open_op opens items)) line ≡ Ok q → AddsTo earlier (open_op opens items) line q
closes_op earlier opens items line q (is, fits) whole same e =
    let ended = step_closing earlier at_front.here [] [] items line (Ok q) whole same e in
    let x = goes_from (entry_in earlier (records_of items)) (λ entry. between (earlier ++ entry ∷ [])) q ended in
    record {
      parts = op opens items x.0 none;
      are = (is, fits, whole, x.1, tt);
      text = ap (λ l. opens ∷ (lines_of items ++ (l ∷ []))) (sym same);
      ends = x.2;
    }

-- each line goes on from entries
pub adds_to : (earlier : List (List ℕ)) (t : Entries) (line : List ℕ) (q : Progress) → AreEntries earlier t
    → step_of (progress_after earlier t) line ≡ Ok q → AddsTo earlier t line q
adds_to earlier none line q are e = first_entry earlier line q e
adds_to earlier (raw l bytes rest) line q (is, are) e =
    let a = adds_to (earlier ++ bytes ∷ []) rest line q are e in
    record { parts = raw l bytes a.parts; are = (is, a.are); text = ap (λ x. l ∷ x) a.text; ends = a.ends }
adds_to earlier (op l items entry rest) line q (is, fits, whole, ends, are) e =
    let a = adds_to (earlier ++ entry ∷ []) rest line q are e in
    record {
      parts = op l items entry a.parts;
      are = (is, fits, whole, ends, a.are);
      text =
          ap (λ x. l ∷ (lines_of items ++ (closing ∷ x))) a.text
          ∙ ap (λ x. l ∷ x) (sym (append_assoc (lines_of items) (closing ∷ text_of rest) (line ∷ [])));
      ends = a.ends;
    }
adds_to earlier (open_op l items) line q (is, fits) e =
    elim (goes_on earlier at_front.here [] [] items line q fits e) [
      | inl x ↦ closes_op earlier l items line q (is, fits) x.0 x.1 e
      | inr a ↦ record { parts = open_op l a.items; are = (is, a.fits); text = ap (λ x. l ∷ x) a.text; ends = a.ends }
    ]
