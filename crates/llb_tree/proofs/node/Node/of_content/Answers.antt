use Rattle.llb_tree.proofs.ChildLookup.{file_alone}
use Rattle.llb_tree.proofs.node.Node.of_content.Goals as goal

pub returns : goal.returns
returns c = file_alone c.args.meta c.args.content _ c.into_shared.ensures
