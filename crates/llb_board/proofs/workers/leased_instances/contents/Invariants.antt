use Rattle.std.specs.Prelude.{vec_capacity}
use Rattle.llb_model.specs.TwoCacheModels.{store_of}
use Rattle.llb_model.specs.Caches.{tree_of}
use Rattle.llb_board.proofs.Lists.{Copied}
use Rattle.llb_board.proofs.workers.leased_instances.contents.Given as goal

abbrev pub invariant-loop-place : goal.invariant-loop-place
invariant-loop-place l = Copied (tree_of (store_of l.caches.rows)) l.places l.place-index l.trees.items (vec_capacity l.trees)
