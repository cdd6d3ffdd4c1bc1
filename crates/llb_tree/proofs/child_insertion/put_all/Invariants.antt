use Rattle.std.proofs.Common.{◌≡◌, map}
use Rattle.std.specs.Arc.{arc_value}
use Rattle.llb_tree.specs.Nodes.{pair_of}
use Rattle.llb_tree.specs.ChildPieces.{pairs_of, ArePieced}
use Rattle.llb_tree.specs.Laying.{puts}
use Rattle.llb_tree.proofs.child_insertion.put_all.Given as goal

abbrev pub invariant-loop-child : goal.invariant-loop-child
invariant-loop-child l = record {
  pieced : ArePieced l.pieces.items;
  same : puts (map pair_of l.child-iterator.rest.items) (pairs_of l.pieces.items)
      ≡ puts (map pair_of l.fn.ready.items) (pairs_of (arc_value l.fn.kids).items);
}
