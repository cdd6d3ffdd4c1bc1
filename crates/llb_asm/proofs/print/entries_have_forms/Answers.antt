-- An entry more has a form.
use Rattle.std.proofs.Common.{◌≡◌, ◌++◌, ◌∷◌, [], ◌+◌, ℕ, List, take, sym, ap, subst, ◌∙◌}
use Rattle.std.proofs.lemmas.List.{take_more}
use Rattle.llb_ops.specs.CanonicalFields.{EntryHasFields}
use Rattle.llb_asm.specs.DisassembledText.{Formed, AreFormedBy}
use Rattle.llb_asm.specs.PrintedPrefix.{HasBy}
use Rattle.llb_asm.proofs.EntryForms.{form_by, formed_more}
use Rattle.llb_asm.proofs.print.entries_have_forms.Goals as goal

pub loop-entry-preserved : goal.loop-entry-preserved
loop-entry-preserved c =
    let (xs, are) = c.loop-entry.invariant in
    let entry : List ℕ = c.entry-item.result in
    let more : take (c.loop-entry.entry-index + 1) c.args.entries.now ≡ take c.loop-entry.entry-index c.args.entries.now ++ entry ∷ [] =
    take_more c.args.entries.now c.loop-entry.entry-index entry c.loop-entry-test.true
    ∙ ap (λ e. take c.loop-entry.entry-index c.args.entries.now ++ e ∷ []) (sym c.entry-item.is) in
    let law : EntryHasFields entry = subst EntryHasFields c.as_slice.ensures c.entry_has_fields.ensures in
    let has = HasBy c.args.wording in
    subst (λ es. (ys : List Formed) × AreFormedBy has es ys) (sym more)
    (formed_more has (take c.loop-entry.entry-index c.args.entries.now) xs entry are (form_by c.args.wording entry law))
