use Rattle.std.proofs.Common.{◌≡◌, map, take}
use Rattle.llb_model.specs.TwoCacheModels.{store_of}
use Rattle.llb_model.specs.Caches.{tree_of}
use Rattle.llb_board.proofs.workers.comparing.has_trees.Given as goal

abbrev pub invariant-loop-i : goal.invariant-loop-i
invariant-loop-i l = take l.i l.trees ≡ map (tree_of (store_of l.caches.rows)) (take l.i l.places)
