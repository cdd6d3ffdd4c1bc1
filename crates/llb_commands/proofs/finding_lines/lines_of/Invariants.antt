use Rattle.std.proofs.Common.{◌≡◌, take, string_bytes}
use Rattle.std.specs.List.{flat_map}
use Rattle.llb_commands.specs.FindingLines.{finding_line}
use Rattle.llb_commands.proofs.finding_lines.lines_of.Given as goal

abbrev pub invariant-loop-fault : goal.invariant-loop-fault
invariant-loop-fault l = string_bytes l.text ≡ flat_map finding_line (take l.fault-index l.found)
