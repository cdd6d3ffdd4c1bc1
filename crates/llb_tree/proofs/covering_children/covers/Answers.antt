use Rattle.llb_tree.specs.Nodes.{kids_in}
use Rattle.llb_tree.proofs.SameNames.{covers_same}
use Rattle.llb_tree.proofs.covering_children.covers.Goals as goal

pub returns-then-are_alike : goal.returns-then-are_alike
returns-then-are_alike c is = covers_same (kids_in c.args.upper.now) (kids_in c.args.lower.now) (c.are_alike.ensures is)
