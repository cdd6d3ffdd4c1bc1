use Rattle.llb_plain.proofs.VertexOutcomes.{OutcomesSoFar}
use Rattle.llb_plain.proofs.evaluation.evaluate_all.Given as goal

abbrev pub invariant-loop-vertex : goal.invariant-loop-vertex
invariant-loop-vertex l = OutcomesSoFar (record { graph = l.graph; locals = l.locals }) l.vertex-index l.outcomes
