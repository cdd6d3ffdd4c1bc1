use Rattle.std.proofs.Common.{subst, sym}
use Rattle.llb_asm.specs.FieldValueTexts.{Continues, first}
use Rattle.llb_asm.proofs.StringSpelling.{no_two_digits, digits_refused, digits_lead}
use Rattle.llb_asm.proofs.values.two_digits.Goals as goal

pub returns-in_err-escape_of-in-len2-up : goal.returns-in_err-escape_of-in-len2-up
returns-in_err-escape_of-in-len2-up c =
    subst (Continues first c.args.text.now) (sym c.from_residual.ensures)
    (digits_refused c.args.text.now c.in-len2-up.len_at_least c.in_err-escape_of-in-len2-up.ensures)

pub returns-in_default : goal.returns-in_default
returns-in_default c = no_two_digits c.args.text.now c.in_default.len_below

pub returns-in_ok-escape_of-in-len2-up : goal.returns-in_ok-escape_of-in-len2-up
returns-in_ok-escape_of-in-len2-up c =
    digits_lead c.args.text.now c.in-len2-up.len_at_least c.in_ok-escape_of-in-len2-up.field-0 c.in_ok-escape_of-in-len2-up.ensures
