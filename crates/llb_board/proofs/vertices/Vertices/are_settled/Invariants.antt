use Rattle.std.proofs.Common.{◌≡◌, ◌-◌, map, length}
use Rattle.std.specs.Prelude.{◌||◌, slice_get}
use Rattle.llb_model.specs.State.{is_blocked}
use Rattle.llb_model.specs.Run.{each, is_settled}
use Rattle.llb_board.specs.Vertices.{status_of}
use Rattle.llb_board.proofs.vertices.Vertices.are_settled.Given as goal

abbrev pub invariant-loop-v : goal.invariant-loop-v
invariant-loop-v l =
    let b = l.self-inside.build in
    let S = map status_of l.self-inside.stages.items in
    each (λ v. is_settled (slice_get S v) || is_blocked b S v) l.v (length b.graph.vertices - l.v) ≡ each
    (λ v. is_settled (slice_get S v) || is_blocked b S v) 0 (length b.graph.vertices)
