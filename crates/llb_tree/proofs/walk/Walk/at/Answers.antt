use Rattle.std.proofs.Common.{sym, ap, ◌∙◌}
use Rattle.std.specs.List.{slice_get}
use Rattle.llb_tree.specs.Walks.{levels_of, left}
use Rattle.llb_tree.proofs.Entries.{entries-root}
use Rattle.llb_tree.proofs.WalkSteps.{first_left}
use Rattle.llb_tree.proofs.walk.Walk.at.Goals as goal

pub returns : goal.returns
returns c =
    let root = entries-root c.in_ok-node.node.now _ (sym c.entry.ensures) in
    let first = first_left c.self.inside.path (levels_of c.self.inside.levels.items) c.in_ok-node.node.now _ root.0 root.1 in
    sym (ap (λ es. slice_get es 0) (sym c.self.view_is ∙ ap (λ n. left n c.self.inside.path c.self.inside.levels.items) c.in_ok-node.was ∙ first))
