-- This law follows from the definitions, and from what the type of a tree guarantees.
use Rattle.llb_treetext.proofs.UniqueReading.{reads_back}
use Rattle.llb_treetext.proofs.laws.reads_back.Goals as goal

pub returns : goal.returns
returns c = reads_back c.args.tree.now c.is_tree.ensures
