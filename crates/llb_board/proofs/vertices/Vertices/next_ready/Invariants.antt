use Rattle.std.proofs.Common.{◌≡◌, ◌-◌, map, length}
use Rattle.llb_model.specs.State.{is_ready}
use Rattle.llb_model.specs.Run.{least}
use Rattle.llb_board.specs.Vertices.{status_of}
use Rattle.llb_board.proofs.vertices.Vertices.next_ready.Given as goal

abbrev pub invariant-loop-v : goal.invariant-loop-v
invariant-loop-v l =
    let b = l.self-inside.build in
    least (is_ready b (map status_of l.self-inside.stages.items)) l.v (length b.graph.vertices - l.v) ≡ least
    (is_ready b (map status_of l.self-inside.stages.items)) 0 (length b.graph.vertices)
