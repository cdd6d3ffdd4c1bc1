use Rattle.llb_tree.proofs.ChildLookup.{file_alone}
use Rattle.llb_tree.proofs.node.Node.file.Goals as goal

pub returns : goal.returns
returns c = file_alone c.args.meta c.args.content _ c.in_ok-content.ensures.ok
