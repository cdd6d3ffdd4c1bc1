use Rattle.std.proofs.Common.{ℕ, ◌<◌, ◌≢◌, [], List, Option, Some, slice_index_or}
use Rattle.llb_loader.proofs.exec_paths.has_root.Given as goal

abbrev pub invariant-loop-dest : goal.invariant-loop-dest
invariant-loop-dest l = (a : ℕ) (d : Option (List (List ℕ))) → a < l.dest-index → slice_index_or l.dests a d ≢ Some []
