use Rattle.std.proofs.Common.{sym, ◌∙◌, arith}
use Rattle.std.proofs.lemmas.Bool.Decides.{nat_tests}
use Rattle.std.proofs.lemmas.Result.{IfOk-weaker}
use Rattle.llb_asm.proofs.StringSpelling.{opened, no_quote}
use Rattle.llb_asm.proofs.values.string_in.Goals as goal
use Rattle.llb_asm.proofs.values.string_in.Goals.{in_default-via-then-text-lt1, in_default-via-else-text-lt1+in_default-1}

pub returns-in-34 : goal.returns-in-34
returns-in-34 c = IfOk-weaker c.string_behind.result _ _ (λ o is. is ∙ sym (opened c.args.text.now c.in-34.len_at_least (omega arith))) c.string_behind.ensures

pub returns-in_default : goal.returns-in_default
returns-in_default c =
    no_quote c.args.text.now
    (λ long quote. elim c.in_default.branch [
      | in_default-via-then-text-lt1 w ↦ grind (arith, nat_tests)
      | in_default-via-else-text-lt1+in_default-1 w ↦ grind (arith, nat_tests)
    ])
