-- The directory is empty, and nothing is at its path.
use Rattle.llb_treetext.proofs.DetachedDirectory.{opens_there}
use Rattle.llb_treetext.proofs.growing_tree.opened.Goals as goal

pub returns : goal.returns
returns c = λ tree free text. (opens_there c.args.above c.args.at c.args.meta c.in_ok-tree.tree tree free c.in_ok-tree.ensures, text)
