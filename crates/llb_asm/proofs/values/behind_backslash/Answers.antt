use Rattle.std.proofs.Common.{inl, inr, sym, ◌∙◌, arith}
use Rattle.std.proofs.lemmas.Bool.{eqb-true, eqb-false}
use Rattle.std.proofs.lemmas.Bool.Decides.{nat_tests}
use Rattle.llb_asm.proofs.StringSpelling.{x_leads, itself_leads, no_escape}
use Rattle.llb_asm.proofs.values.behind_backslash.Goals as goal
use Rattle.llb_asm.proofs.values.behind_backslash.Goals.{then-byte-eq34, else-byte-eq34, in_default-via-then-text-lt1, in_default-via-in-len1-up+else-byte-eq92}

pub returns-in-120 : goal.returns-in-120
returns-in-120 c = x_leads c.args.text.now c.in-120.len_at_least (omega arith) c.two_digits.result c.two_digits.ensures

pub returns-in-len1-up : goal.returns-in-len1-up
returns-in-len1-up c =
    itself_leads c.args.text.now c.in-len1-up.len_at_least
    (elim c.if-byte-eq34.branch [ then-byte-eq34 w ↦ inl (omega arith) | else-byte-eq34 w ↦ inr (eqb-true _ 92 (sym w.value-is ∙ c.if-byte-eq92.true)) ])

pub returns-in_default : goal.returns-in_default
returns-in_default c = no_escape c.args.text.now (λ long. elim c.in_default.branch [
  | in_default-via-then-text-lt1 w ↦ absurd (grind (arith, nat_tests))
  | in_default-via-in-len1-up+else-byte-eq92 w ↦ elim w.if-byte-eq34.branch [
    | then-byte-eq34 w' ↦ absurd (grind (arith, nat_tests))
    | else-byte-eq34 w' ↦ (w'.if-byte-eq34.false, eqb-false _ 92 (sym w'.value-is ∙ w.if-byte-eq92.false), λ is. omega arith)
  ]
])
