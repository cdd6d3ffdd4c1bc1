use Rattle.std.proofs.Common.{◌≡◌, ℕ, List, ◌++◌, drop}
use Rattle.std.specs.FinMap as finite
use Rattle.llb_tree.proofs.node.Node.at.Given as goal

abbrev pub invariant-loop-name : goal.invariant-loop-name
invariant-loop-name l = (q : List (List ℕ)) → finite.get l.node (drop l.name-index l.names ++ q) ≡ finite.get l.self (l.names ++ q)
