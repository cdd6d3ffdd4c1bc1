-- A string that is no label.
use Rattle.std.proofs.Common.{◌≡◌, ◌++◌, sym, ap, subst, ◌∙◌, None}
use Rattle.std.specs.Prelude.{OnOk}
use Rattle.std.proofs.lemmas.Str.{IsUtf8-from_is_utf8}
use Rattle.llb_asm.specs.DisassembledText.{label_for}
use Rattle.llb_asm.proofs.DigestIndexInsertion.{no_label, other_name}
use Rattle.llb_asm.proofs.print.push_text.Goals as goal
use Rattle.llb_asm.proofs.print.push_text.Goals.{then-eq+in-Ok+in_default-label_for, then-eq+in_default, else-eq}

pub returns : goal.returns
returns c = λ utf8.
    let out = c.args.out.now.items in
    let labels = c.args.labels.now in
    let name = c.args.name.now in
    let text = c.args.text.now in
    elim c.if-eq.branch [
      | then-eq+in-Ok+in_default-label_for w ↦ (
          let none : label_for labels text ≡ None = ap (label_for labels) (sym w.in-Ok.ensures.cases.0) ∙ sym w.in_default-label_for.ensures in
          subst (λ t. OnOk c.push_string.result (c.push_string.new.out.items ≡ out ++ t)) (sym (no_label labels name text none)) c.push_string.ensures)
      | then-eq+in_default w ↦ absurd (w.in_default.ensures.cases.0 (IsUtf8-from_is_utf8 text utf8))
      | else-eq w ↦ subst (λ t. OnOk c.push_string.result (c.push_string.new.out.items ≡ out ++ t)) (sym (other_name labels name text (sym w.if-eq.ensures)))
          c.push_string.ensures
    ]
