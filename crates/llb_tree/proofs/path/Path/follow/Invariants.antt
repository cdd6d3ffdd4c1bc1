use Rattle.std.proofs.Common.{◌≡◌, length, drop}
use Rattle.llb_tree.specs.Path.{follow, parts_of}
use Rattle.llb_tree.proofs.path.Path.follow.Given as goal

abbrev pub invariant-loop-part : goal.invariant-loop-part
invariant-loop-part l = follow l.self (drop (length l.yielded) (parts_of l.text)) ≡ follow l.fn.self (parts_of l.text)
