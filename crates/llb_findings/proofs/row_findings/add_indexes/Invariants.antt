use Rattle.llb_findings.specs.Findings.{plan_for, IsFaultIn}
use Rattle.llb_findings.specs.FindingSteps.{indexes_at}
use Rattle.llb_findings.specs.Selections.{Adds, joined_below}
use Rattle.llb_findings.proofs.row_findings.add_indexes.Given as goal

abbrev pub invariant-loop-k : goal.invariant-loop-k
invariant-loop-k l = Adds (IsFaultIn (plan_for l.rows)) (joined_below l.k (indexes_at l.rows)) l.fn.found.items l.found.items
