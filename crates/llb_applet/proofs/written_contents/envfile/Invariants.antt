use Rattle.std.proofs.Common.{◌≡◌, take}
use Rattle.std.specs.List.{flat_map}
use Rattle.llb_applet.specs.Commands.{line}
use Rattle.llb_applet.proofs.written_contents.envfile.Given as goal

abbrev pub invariant-loop-entry : goal.invariant-loop-entry
invariant-loop-entry l = l.content.items ≡ flat_map line (take l.entry-index l.entry-items)
