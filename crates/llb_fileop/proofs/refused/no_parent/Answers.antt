use Rattle.std.proofs.Common.{subst, ◌∙◌}
use Rattle.std.specs.Prelude.{◌≡◌, IfOk}
use Rattle.llb_fileop.specs.Making.{parents_from}
use Rattle.llb_fileop.specs.Refusals.{no_dirs}
use Rattle.llb_fileop.proofs.Parents.{parents_are}
use Rattle.llb_fileop.proofs.refused.no_parent.Goals as goal

pub returns : goal.returns
returns c =
    subst (λ ps. IfOk c.no_parent_from.result (λ r. r ≡ no_dirs c.args.made c.args.tree.now ps))
    ((λ i. parents_from (c.root.ensures i) (c.names.ensures.all i)) ∙ parents_are c.args.path.now) c.no_parent_from.ensures
