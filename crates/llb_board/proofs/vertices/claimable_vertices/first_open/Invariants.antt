use Rattle.std.proofs.Common.{map}
use Rattle.llb_board.specs.Vertices.{AreOver, status_of}
use Rattle.llb_board.proofs.vertices.claimable_vertices.first_open.Given as goal

abbrev pub invariant-loop-v : goal.invariant-loop-v
invariant-loop-v l = AreOver l.build (map status_of l.stages) l.v
