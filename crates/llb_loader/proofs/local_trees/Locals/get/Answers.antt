use Rattle.std.proofs.Common.{◌∙◌, ap, List}
use Rattle.llb_loader.specs.LocalSources.{Local, tree_of_local}
use Rattle.llb_loader.proofs.LocalTreeMaps.{locals_found}
use Rattle.llb_loader.proofs.local_trees.Locals.get.Goals as goal

pub returns : goal.returns
returns c =
    c.get.ensures.value ∙ locals_found c.args.name.now c.self.inside.trees.entries ∙ ap (λ (ls : List Local). tree_of_local ls c.args.name.now) c.self.view_is
