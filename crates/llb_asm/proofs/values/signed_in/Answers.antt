use Rattle.std.proofs.Common.{arith}
use Rattle.std.proofs.lemmas.Bool.Decides.{nat_tests}
use Rattle.llb_asm.proofs.Unsigned.{signed_plain}
use Rattle.llb_asm.proofs.values.signed_in.Goals as goal
use Rattle.llb_asm.proofs.values.signed_in.Goals.{in_default-via-then-text-lt1, in_default-via-else-text-lt1+in_default-1}

pub returns-then-number-limit-2 : goal.returns-then-number-limit-2
returns-then-number-limit-2 c =
    signed_plain c.args.limit c.in_ok-number-in_default.number c.args.text.now c.requires
    (λ long dash. elim c.in_default.branch [
      | in_default-via-then-text-lt1 w ↦ grind (arith, nat_tests)
      | in_default-via-else-text-lt1+in_default-1 w ↦ grind (arith, nat_tests)
    ])
    c.in_ok-number-in_default.ensures c.if-number-limit-2.true
