use Rattle.std.proofs.Common.{[], ap, ◌∙◌}
use Rattle.std.proofs.lemmas.List.{append-nil}
use Rattle.std.specs.FinMap as finite
use Rattle.llb_tree.proofs.node.Node.get.Goals as goal

pub returns-in-None : goal.returns-in-None
returns-in-None c = c.in-None.ensures [] ∙ ap (finite.get c.args.self.now) (append-nil c.args.names.now)
