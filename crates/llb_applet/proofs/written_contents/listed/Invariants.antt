use Rattle.std.proofs.Common.{◌≡◌, take}
use Rattle.llb_applet.specs.Commands.{listed}
use Rattle.llb_applet.proofs.written_contents.listed.Given as goal

abbrev pub invariant-loop-name : goal.invariant-loop-name
invariant-loop-name l = l.content.items ≡ listed l.tree l.path (take l.name-index l.names)
