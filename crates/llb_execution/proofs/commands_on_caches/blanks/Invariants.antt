use Rattle.std.specs.Prelude.{◌≡◌, replicate}
use Rattle.llb_tree.specs.Tree.{empty_tree}
use Rattle.llb_execution.proofs.commands_on_caches.blanks.Given as goal

abbrev pub invariant-loop-i : goal.invariant-loop-i
invariant-loop-i l = l.trees.items ≡ replicate l._i empty_tree
