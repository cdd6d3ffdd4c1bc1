-- The lines of the vertices so far are written.
use Rattle.std.specs.Io.KnownBytes.{Appends}
use Rattle.llb_commands.specs.ProgramOutput.{failed_lines}
use Rattle.llb_commands.proofs.run.print_failures.Given as goal

abbrev pub invariant-loop-v : goal.invariant-loop-v
invariant-loop-v g l = Appends (g.E.Write.contents l.initial.err) (g.E.Write.contents l.err) (failed_lines l.board.build l.board.state l.v)
