-- The parts so far lead to some path of so many names.
use Rattle.std.proofs.Common.{◌≡◌, ℕ, List, length, drop}
use Rattle.llb_tree.specs.Path.{follow, parts_of}
use Rattle.llb_tree.proofs.path.depth_of.Given as goal

abbrev pub invariant-loop-part : goal.invariant-loop-part
invariant-loop-part l = (from : List (List ℕ)) → length from ≡ l.start → (path : List (List ℕ)) × (length path ≡ l.names)
    × (follow path (drop (length l.yielded) (parts_of l.text)) ≡ follow from (parts_of l.text))
