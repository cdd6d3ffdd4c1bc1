use Rattle.llb_findings.specs.Findings.{plan_for, IsFaultIn}
use Rattle.llb_findings.specs.FindingSteps.{features_at}
use Rattle.llb_findings.specs.Selections.{Adds, joined_below}
use Rattle.llb_findings.proofs.row_findings.add_features.Given as goal

abbrev pub invariant-loop-k : goal.invariant-loop-k
invariant-loop-k l = Adds (IsFaultIn (plan_for l.rows)) (joined_below l.k features_at) l.fn.found.items l.found.items
