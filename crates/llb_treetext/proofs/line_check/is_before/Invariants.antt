-- The bytes that are left decide the order.
use Rattle.std.proofs.Common.{◌≡◌, ◌≤◌, length, drop}
use Rattle.llb_treetext.specs.TreeAfterNextLine.{trail_cmp}
use Rattle.llb_treetext.proofs.line_check.is_before.Given as goal

abbrev pub invariant-loop-at : goal.invariant-loop-at
invariant-loop-at l = (l.at ≤ length l.second) × (trail_cmp l.first l.second ≡ trail_cmp (drop l.at l.first) (drop l.at l.second))
