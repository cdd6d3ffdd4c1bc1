use Rattle.std.proofs.Common.{length}
use Rattle.llb_loader.specs.Graph.{links}
use Rattle.llb_laws.proofs.TokenPlans.{IsSpread}
use Rattle.llb_laws.proofs.token_plan.spread.Given as goal

abbrev pub invariant-loop-i : goal.invariant-loop-i
invariant-loop-i l = IsSpread (links l.graph.vertices) l.fn.marks.items l.marks.items (length l.graph.vertices) l.i
