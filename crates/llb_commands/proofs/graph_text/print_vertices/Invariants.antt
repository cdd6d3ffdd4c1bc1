-- The lines of the vertices so far are written.
use Rattle.std.proofs.Common.{◌≡◌, take}
use Rattle.std.specs.List.{flat_map, enumerate_from}
use Rattle.std.specs.Io.KnownBytes.{Appends}
use Rattle.llb_session.specs.GraphText.{numbered_line}
use Rattle.llb_commands.proofs.graph_text.print_vertices.Given as goal

abbrev pub invariant-loop-number : goal.invariant-loop-number
invariant-loop-number g l =
    Appends (g.W.Sink.taken l.initial.out) (g.W.Sink.taken l.out) (flat_map numbered_line (take l.number (enumerate_from 0 l.vertices)))
    × (g.W.Sink.lender l.out ≡ g.W.Sink.lender l.initial.out)
