use Rattle.std.proofs.Common.{◌≡◌, ◌++◌, map, length}
use Rattle.llb_loader.specs.declared.fault.LoadFault.TheVariants.{Invalid}
use Rattle.llb_findings.proofs.row_findings.add_each.Given as goal

abbrev pub invariant-loop-rules : goal.invariant-loop-rules
invariant-loop-rules l = l.found.items ++ map (λ r. Invalid l.k r) l.rules.items ≡ l.fn.found.items ++ map (λ r. Invalid l.k r) l.fn.rules.items

abbrev pub decreases-loop-rules : goal.decreases-loop-rules
decreases-loop-rules l = length l.rules.items
