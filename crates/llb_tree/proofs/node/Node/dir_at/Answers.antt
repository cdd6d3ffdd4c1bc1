use Rattle.std.proofs.Common.{ap, ◌∙◌, ◌++◌, ◌∷◌}
use Rattle.std.specs.FinMap as finite
use Rattle.llb_tree.proofs.ChildLookup.{dir_alone}
use Rattle.llb_tree.proofs.NodeReplacement.{if_ok}
use Rattle.llb_tree.proofs.node.Node.dir_at.Goals as goal

pub returns-in-None : goal.returns-in-None
returns-in-None c = if_ok c.empty_dir.result (λ made is q. ap (λ t. finite.get t q) is
    ∙ dir_alone c.args.meta (λ r. finite.get c.args.self.now (c.args.names.now ++ r)) (λ n r. c.in-None.ensures (n ∷ r)) q) c.empty_dir.ensures
