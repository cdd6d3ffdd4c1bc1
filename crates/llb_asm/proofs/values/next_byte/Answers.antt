use Rattle.std.proofs.Common.{arith}
use Rattle.std.proofs.lemmas.Bool.Decides.{nat_tests}
use Rattle.llb_asm.proofs.StringSpelling.{backslash_leads, plain_leads, no_byte}
use Rattle.llb_asm.proofs.values.next_byte.Goals as goal
use Rattle.llb_asm.proofs.values.next_byte.Goals.{in_default-via-then-text-lt1, in_default-via-in-len1-up+else-byte-ne34}

pub returns-in-92 : goal.returns-in-92
returns-in-92 c = backslash_leads c.args.text.now c.in-92.len_at_least (omega arith) c.behind_backslash.result c.behind_backslash.ensures

pub returns-in-len1-up : goal.returns-in-len1-up
returns-in-len1-up c = plain_leads c.args.text.now c.in-len1-up.len_at_least c.if-byte-ne34.true (λ slash. omega arith)

pub returns-in_default : goal.returns-in_default
returns-in_default c =
    no_byte c.args.text.now
    (λ long. elim c.in_default.branch [
      | in_default-via-then-text-lt1 w ↦ grind (arith, nat_tests)
      | in_default-via-in-len1-up+else-byte-ne34 w ↦ grind (arith, nat_tests)
    ])
