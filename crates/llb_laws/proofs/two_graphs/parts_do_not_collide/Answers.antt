use Rattle.llb_laws.proofs.CollisionFreeEntries.{parts_do_not_collide}
use Rattle.llb_laws.proofs.two_graphs.parts_do_not_collide.Goals as goal

pub returns : goal.returns
returns c =
    parts_do_not_collide c.args.definition.now c.args.graph.now
