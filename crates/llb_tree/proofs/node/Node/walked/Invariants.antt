use Rattle.std.proofs.Common.{◌≡◌, ℕ, List, ◌++◌, take, option_map}
use Rattle.std.specs.FinMap as finite
use Rattle.llb_tree.specs.Tree.{walk}
use Rattle.llb_tree.specs.Nodes.{look_in}
use Rattle.llb_tree.proofs.WalkByName.{walk_from}
use Rattle.llb_tree.proofs.node.Node.walked.Given as goal

abbrev pub invariant-loop-name : goal.invariant-loop-name
invariant-loop-name l = (walk_from (finite.get l.self) l.names l.name-index ≡ walk (finite.get l.self) l.names)
    × ((q : List (List ℕ)) → look_in (option_map (λ n. n.now) l.node) q ≡ finite.get l.self (take l.name-index l.names ++ q))
