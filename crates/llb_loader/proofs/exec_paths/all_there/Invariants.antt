use Rattle.std.proofs.Common.{ℕ, ◌<◌, slice_index_or, List, Option, IsSome}
use Rattle.llb_loader.proofs.exec_paths.all_there.Given as goal

abbrev pub invariant-loop-dest : goal.invariant-loop-dest
invariant-loop-dest l = (a : ℕ) (d : Option (List (List ℕ))) → a < l.dest-index → IsSome (slice_index_or l.dests a d)
