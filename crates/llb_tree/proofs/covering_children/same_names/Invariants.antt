use Rattle.std.proofs.Common.{◌≡◌, map, take}
use Rattle.llb_tree.specs.Nodes.{name_of}
use Rattle.llb_tree.proofs.covering_children.same_names.Given as goal

abbrev pub invariant-loop-i : goal.invariant-loop-i
invariant-loop-i l = map name_of (take l.i l.upper) ≡ map name_of (take l.i l.lower)
