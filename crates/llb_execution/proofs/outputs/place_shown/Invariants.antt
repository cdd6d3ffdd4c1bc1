use Rattle.std.proofs.Common.{vec_len, length}
use Rattle.llb_loader.specs.Rules.{mount_outputs}
use Rattle.llb_execution.proofs.OutputPlaces.{PlacedSoFar, trees_of}
use Rattle.llb_execution.proofs.outputs.place_shown.Given as goal

abbrev pub decreases-loop-shown : goal.decreases-loop-shown
decreases-loop-shown l = vec_len l.mounts

abbrev pub invariant-loop-shown : goal.invariant-loop-shown
invariant-loop-shown l =
    PlacedSoFar (mount_outputs l.given) (trees_of l.initial.mounts.items) (length l.initial.outputs.items) (trees_of l.mounts.items) l.outputs.items
