use Rattle.std.proofs.Common.{◌≡◌, List, Option, drop, length}
use Rattle.llb_tree.specs.Tree.{TreeMap}
use Rattle.llb_execution.specs.WorkspaceTrees.{tree_or, last_tree}
use Rattle.llb_execution.proofs.workspace_trees.last_place.Given as goal

-- the numbers so far are looked at
abbrev pub invariant-loop-k : goal.invariant-loop-k
invariant-loop-k l = (trees : List TreeMap) (own : Option TreeMap) → length trees ≡ l.held
    → last_tree l.i (drop l.k l.numbers) (drop l.k trees) (tree_or own trees l.place) ≡ last_tree l.i l.numbers trees own
