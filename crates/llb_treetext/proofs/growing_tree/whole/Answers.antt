-- The directory goes back to its place.
use Rattle.std.proofs.Common.{subst}
use Rattle.llb_treetext.specs.GrowingTree.{IsKept}
use Rattle.llb_treetext.proofs.DetachedDirectory.{goes_back}
use Rattle.llb_treetext.proofs.growing_tree.whole.Goals as goal

pub returns : goal.returns
returns c = λ t grown.
    let kept = subst (λ o. IsKept c.args.growing.tree o t) c.in-Some.is grown in
    goes_back c.in-Some.open.above c.in-Some.open.at t c.args.growing.tree c.graft.new.self kept.0 c.in-Ok.ensures.inside c.in-Ok.ensures.outside
