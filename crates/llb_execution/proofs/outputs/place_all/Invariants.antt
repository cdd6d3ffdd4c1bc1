use Rattle.std.proofs.Common.{vec_len, length}
use Rattle.llb_execution.specs.Outputs.{numbers_of}
use Rattle.llb_execution.proofs.OutputPlaces.{PlacedSoFar}
use Rattle.llb_execution.proofs.outputs.place_all.Given as goal

abbrev pub decreases-loop-tree : goal.decreases-loop-tree
decreases-loop-tree l = vec_len l.results

abbrev pub invariant-loop-tree : goal.invariant-loop-tree
invariant-loop-tree l = PlacedSoFar (numbers_of l.actions) l.initial.results.items (length l.initial.outputs.items) l.results.items l.outputs.items
