use Rattle.std.specs.BTreeSet.{contains}
use Rattle.llb_tree.specs.Path.{path_cmp}
use Rattle.llb_loader.proofs.DistinctValues.{ApartBelow, IsSeen}
use Rattle.llb_loader.proofs.exec_paths.dests_apart.Given as goal

abbrev pub invariant-loop-dest : goal.invariant-loop-dest
invariant-loop-dest l = record {
  seen : IsSeen l.dests l.dest-index (contains path_cmp l.seen);
  apart : ApartBelow l.dests l.dest-index;
}
