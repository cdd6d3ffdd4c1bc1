use Rattle.std.proofs.Common.{◌≡◌, ◌++◌}
use Rattle.llb_findings.specs.FindingSteps.{unknown_by}
use Rattle.llb_findings.specs.Selections.{joined_below}
use Rattle.llb_findings.proofs.row_findings.add_unknown_of.Given as goal

abbrev pub invariant-loop-i : goal.invariant-loop-i
invariant-loop-i l = l.found.items ≡ l.fn.found.items ++ joined_below l.i (unknown_by l.rows l.terminal l.reached l.k l.op)
