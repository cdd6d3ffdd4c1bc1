use Rattle.std.proofs.Common.{◌≡◌, true, false, inl, inr, refl, sym, ◌∙◌, ap, Some}
use Rattle.llb_findings.proofs.row_findings.counted.Goals as goal

pub returns-then-countable : goal.returns-then-countable
returns-then-countable c = inl (c.in_ok-countable.ensures.0 c.if-countable.true, ap Some c.count_of.ensures)

pub returns : goal.returns
returns c = inr (λ h. let t = c.in_ok-countable.ensures.1 h in let z : true ≡ false = sym t ∙ c.if-countable.false in cc, refl)
