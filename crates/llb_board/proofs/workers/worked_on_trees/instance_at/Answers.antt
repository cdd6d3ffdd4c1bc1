use Rattle.std.proofs.Common.{option_map, sym}
use Rattle.llb_board.proofs.HeldInstanceTrees.{instance_there}
use Rattle.llb_board.proofs.workers.worked_on_trees.instance_at.Goals as goal

pub returns : goal.returns
returns c =
    instance_there c.args.caches.now.rows c.args.places.now c.args.k c.in-Some.place.now (option_map (λ t. t.now) c.instance.result) c.requires
    (sym c.in-Some.ensures) c.instance.ensures
