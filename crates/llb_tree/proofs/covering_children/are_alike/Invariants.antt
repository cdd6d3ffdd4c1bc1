use Rattle.std.proofs.Common.{◌≡◌, map, take}
use Rattle.llb_tree.proofs.SameNames.{names_in}
use Rattle.llb_tree.proofs.covering_children.are_alike.Given as goal

abbrev pub invariant-loop-i : goal.invariant-loop-i
invariant-loop-i l = map names_in (take l.i l.upper) ≡ map names_in (take l.i l.lower)
