use Rattle.std.proofs.Common.{◌≡◌, ◌≤◌, length}
use Rattle.llb_tree.specs.Walks.{levels_of, behind, AreBehind}
use Rattle.llb_tree.proofs.walk.climb.Given as goal

abbrev pub invariant-loop-level : goal.invariant-loop-level
invariant-loop-level l = record {
  on : AreBehind l.path (levels_of l.levels.items);
  same : behind l.path (levels_of l.levels.items) ≡ behind l.fn.path (levels_of l.fn.levels.items);
  short : length l.path ≤ 128;
}

abbrev pub decreases-loop-level : goal.decreases-loop-level
decreases-loop-level l = length l.levels.items
