use Rattle.std.proofs.Common.{◌≡◌, ◌++◌, take}
use Rattle.llb_applet.proofs.path_in_mount.extended.Given as goal

abbrev pub invariant-loop-name : goal.invariant-loop-name
invariant-loop-name l = l.longer ≡ l.path ++ take l.name-index l.names
