-- Both are laws of the definition, of what a tree is by its type.
use Rattle.llb_merge.proofs.LayingProperties.{get-lay, IsTree-lay}
use Rattle.llb_merge.proofs.laws.at_each_path.Goals as goal

pub returns : goal.returns
returns c = record {
  paths = λ q. get-lay c.args.lower.now c.args.upper.now q;
  tree = IsTree-lay c.args.lower.now c.args.upper.now c.is_tree.ensures c.is_tree-2.ensures;
}
