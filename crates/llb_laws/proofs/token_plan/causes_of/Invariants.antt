use Rattle.std.proofs.Common.{◌≡◌, map, take}
use Rattle.llb_laws.specs.TokenPlans.{is_cause}
use Rattle.llb_laws.proofs.token_plan.causes_of.Given as goal

abbrev pub invariant-loop-vertex : goal.invariant-loop-vertex
invariant-loop-vertex l = l.marks.items ≡ take l.vertex-index (map (is_cause l.some) l.graph.vertices)
