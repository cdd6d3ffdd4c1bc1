use Rattle.std.proofs.Common.{[], ◌∷◌, ap, sym, ◌∙◌}
use Rattle.std.proofs.lemmas.List.{append-nil}
use Rattle.std.specs.FinMap as finite
use Rattle.llb_tree.specs.Tree.{all_dirs}
use Rattle.llb_tree.proofs.tree.dir_at.Goals as goal

pub returns-in-None-clause-there : goal.returns-in-None-clause-there
returns-in-None-clause-there c = ap (λ o. all_dirs (o ∷ [])) (sym (c.in-None.ensures [] ∙ ap (finite.get c.args.root.now) (append-nil c.args.names.now)))
