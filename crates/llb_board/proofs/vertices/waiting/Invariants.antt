use Rattle.std.specs.Prelude.{vec_capacity}
use Rattle.llb_board.specs.declared.vertices.vertex_state.Stage.TheVariants.{Waiting}
use Rattle.llb_board.proofs.Lists.{Replicated}
use Rattle.llb_board.proofs.vertices.waiting.Given as goal

abbrev pub invariant-loop-i : goal.invariant-loop-i
invariant-loop-i l = Replicated Waiting l._i l.stages.items l.count (vec_capacity l.stages)
