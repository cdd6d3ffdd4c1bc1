-- Each entry has a form, and how one more entry is written.
use Rattle.std.proofs.Common.{◌≡◌, refl, sym, ap, subst, ◌∙◌, ℕ, ◌+◌, ◌<◌, Bool, true, false, List, [], ◌∷◌, ◌++◌, map, drop, length, get_or}
use Rattle.std.proofs.Common.{Option, Result, Ok, Err}
use Rattle.std.proofs.Common.{arith, true≢false, zero, suc}
use Rattle.std.specs.Result.{IsErrAnd}
use Rattle.std.specs.Io.KnownBytes.{Appends}
use Rattle.std.proofs.Math.Numerals.{add-one}
use Rattle.llb_wire.specs.Sink.{PartOut}
use Rattle.llb_wire.proofs.ConsecutiveTexts.{part_then, part_after}
use Rattle.llb_asm.specs.declared.fault.AsmFault.{AsmFault}
use Rattle.llb_asm.specs.declared.fault.AsmFault.TheVariants as fault
use Rattle.llb_asm.specs.PrintedPrefix.{Prints, HasBy}
use Rattle.std.proofs.lemmas.Slice.Eq.{bytes_eq-Decides}
use Rattle.std.proofs.lemmas.Grind.{flat_map-append}
use Rattle.std.specs.Str.{bytes_eq}
use Rattle.llb_wire.specs.Digest.{digest_text}
use Rattle.llb_ops.specs.declared.op.Op.{Op}
use Rattle.llb_ops.specs.declared.fault.OpFault.{OpFault}
use Rattle.llb_ops.specs.Messages.{op_of}
use Rattle.llb_ops.specs.Writing.{op_bytes}
use Rattle.llb_ops.specs.CanonicalFields.{EntryHasFields}
use Rattle.llb_asm.specs.DisassembledText.{IsStructured, Form, structured, raw, HasForm, Formed, HaveForms, AreFormedBy, entry_lines, plain_lines}
use Rattle.llb_asm.specs.DisassembledText.{text_of_lines, HasWords}
use Rattle.llb_asm.specs.declared.print.Wording.{Wording}
use Rattle.llb_asm.specs.declared.print.Wording.TheVariants.{Exact, Any}
use Rattle.llb_asm.specs.DisassembledText.{line_text}

-- ---- forms

abbrev answer : Op → Result Op OpFault
answer op = Ok op

abbrev refusal : OpFault → Result Op OpFault
refusal f = Err f

one_op : (a b : Op) → answer a ≡ answer b → a ≡ b
one_op a b e = cc

no_op : (op : Op) (f : OpFault) → answer op ≡ refusal f → ⊥
no_op op f e = absurd cc

-- op is the only one that is read
other_bytes : (entry : List ℕ) (op : Op) → op_of entry ≡ Ok op → bytes_eq (op_bytes op) entry ≡ false → ¬ IsStructured entry
other_bytes entry op is other (op', is', same) =
    let e : op' ≡ op = one_op op' op (sym is' ∙ is) in
    let yes : bytes_eq (op_bytes op) entry ≡ true = (bytes_eq-Decides (op_bytes op) entry).1 (ap op_bytes (sym e) ∙ same) in
    true≢false (sym yes ∙ other)

not_read : (entry : List ℕ) (f : OpFault) → op_of entry ≡ Err f → ¬ IsStructured entry
not_read entry f is (op, read, same) = no_op op f (sym read ∙ is)

form_of : (entry : List ℕ) → EntryHasFields entry → (form : Form) × HasForm entry form
form_of entry law = go (op_of entry) refl
  where
    same : (op : Op) → op_of entry ≡ Ok op → (b : Bool) → bytes_eq (op_bytes op) entry ≡ b → (form : Form) × HasForm entry form
    same op is true e = (structured op (law op is), (is, (bytes_eq-Decides (op_bytes op) entry).0 e))
    same op is false e = (raw, other_bytes entry op is e)

    go : (o : Result Op OpFault) → op_of entry ≡ o → (form : Form) × HasForm entry form
    go (Ok op) is = same op is (bytes_eq (op_bytes op) entry) refl
    go (Err f) is = (raw, not_read entry f is)

words_of : (entry : List ℕ) → EntryHasFields entry → (form : Form) × HasWords entry form
words_of entry law = go (op_of entry) refl
  where
    go : (o : Result Op OpFault) → op_of entry ≡ o → (form : Form) × HasWords entry form
    go (Ok op) is = (structured op (law op is), is)
    go (Err f) is = (raw, λ op read. no_op op f (sym read ∙ is))

-- each entry has a form
pub form_by : (w : Wording) (entry : List ℕ) → EntryHasFields entry → (form : Form) × HasBy w entry form
form_by Exact entry law = form_of entry law
form_by Any entry law = words_of entry law

module _ (Has : List ℕ → Form → Type 0) where
  have_more : (xs : List Formed) (x : Formed) → HaveForms Has xs → Has x.0 x.1 → HaveForms Has (xs ++ x ∷ [])
  have_more [] x all h = (h, tt)
  have_more (y ∷ ys) x all h = (all.0, have_more ys x all.1 h)

  map_more : (xs : List Formed) (x : Formed) → map (λ x. x.0) (xs ++ x ∷ []) ≡ map (λ x. x.0) xs ++ x.0 ∷ []
  map_more [] x = refl
  map_more (y ∷ ys) x = ap (λ l. y.0 ∷ l) (map_more ys x)

  -- entries in their forms have forms with one entry more
  pub formed_more : (entries : List (List ℕ)) (xs : List Formed) (entry : List ℕ) → AreFormedBy Has entries xs → (form : Form) × Has entry form
      → (ys : List Formed) × AreFormedBy Has (entries ++ entry ∷ []) ys
  formed_more entries xs entry are (form, has) = (
    xs ++ (entry, form) ∷ [],
    record {
      same = map_more xs (entry, form) ∙ ap (λ l. l ++ entry ∷ []) are.same;
      forms = have_more xs (entry, form) are.forms has;
    },
  )

  -- ---- how the entries are written

  -- the entry at a place has a form
  pub record Next (xs : List Formed) (k : ℕ) (entry : List ℕ) : Type 0 where
    pub form : Form
    pub has : Has entry form
    pub is : drop k xs ≡ (entry, form) ∷ drop (k + 1) xs

  next_in : (xs : List Formed) (k : ℕ) (d : List ℕ) → HaveForms Has xs → k < length (map (λ x. x.0) xs) → Next xs k (get_or (map (λ x. x.0) xs) k d)
  next_in [] k d all less = absurd (omega arith)
  next_in (x ∷ xs) zero d all less = record { form = x.1; has = all.0; is = refl }
  next_in (x ∷ xs) (suc k) d all less =
      let y = next_in xs k d all.1 (omega arith) in
      let later : drop (suc k + 1) (x ∷ xs) ≡ drop (k + 1) xs = ap (λ n. drop n (x ∷ xs)) (add-one (suc k)) ∙ sym (ap (λ n. drop n xs) (add-one k)) in
      record { form = y.form; has = y.has; is = y.is ∙ ap (λ l. (get_or (map (λ x. x.0) xs) k d, y.form) ∷ l) (sym later) }

  -- in entries with their forms, the one at a place has the form at that place
  pub next_form : (entries : List (List ℕ)) (xs : List Formed) (k : ℕ) (entry : List ℕ) → AreFormedBy Has entries xs → k < length entries
      → entry ≡ get_or entries k entry → Next xs k entry
  next_form entries xs k entry are less is =
      let y = next_in xs k entry are.forms (subst (λ es. k < length es) (sym are.same) less) in
      subst (Next xs k) (ap (λ es. get_or es k entry) are.same ∙ sym is) y

module _ (text done : List ℕ) (labels : List (List ℕ)) (xs : List Formed) (k : ℕ) (split : text ≡ done ++ text_of_lines (plain_lines labels (drop k xs))) where
  -- an entry more is done, and others are left
  pub entry_done : (Has : List ℕ → Form → Type 0) (entry : List ℕ) (next : Next Has xs k entry)
      → text ≡ done ++ (text_of_lines (entry_lines labels entry next.form) ++ text_of_lines (plain_lines (labels ++ digest_text entry ∷ []) (drop (k + 1) xs)))
  entry_done Has entry next =
      split ∙ ap (λ l. done ++ text_of_lines (plain_lines labels l)) next.is
      ∙ ap (λ l. done ++ l) (flat_map-append line_text (entry_lines labels entry next.form) (plain_lines (labels ++ digest_text entry ∷ []) (drop (k + 1) xs)))

-- what is written where an entry is not
pub stops_inside : (a b c : Option (List ℕ)) (failed : Bool) (text done line rest : List ℕ) → Appends a b done → text ≡ done ++ (line ++ rest) → (f : AsmFault)
    → Prints b c failed line (Err f) → (r : Result (Unit {0}) AsmFault) → IsErrAnd r (λ e. e ≡ f) → Prints a c failed text r
stops_inside a b c failed text done line rest before split f stopped (Ok u) same = absurd same
stops_inside a b c failed text done line rest before split f stopped (Err e) same = subst (λ x. Prints a c failed text (Err x)) (sym same) (go f stopped)
  where
    part : PartOut b c line → PartOut a c text
    part out = subst (PartOut a c) (sym split) (part_after a b c done (line ++ rest) before (part_then b c line rest out))

    go : (f : AsmFault) → Prints b c failed line (Err f) → Prints a c failed text (Err f)
    go fault.Memory out = part out
    go fault.Write out = (out.0, part out.1)
    go (fault.Line n rule) out = absurd out
    go (fault.UnknownLabel n) out = absurd out
