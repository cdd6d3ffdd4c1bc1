use Rattle.std.proofs.Common.{◌++◌, ap, sym, ◌∙◌, Ok}
use Rattle.std.specs.FinMap as finite
use Rattle.llb_tree.proofs.SelectedPaths.{under, hits, under_root}
use Rattle.llb_tree.proofs.tree.Tree.passing.Goals as goal

pub returns : goal.returns
returns g c =
    ap Ok (sym (c.in_ok-find.ensures.found
    ∙ (λ i. c.new-found.ensures.items i ++ under (c.root-path.ensures i) (hits g.T.NameTest.passes c.args.tests.now (finite.keys (c.self.view_is i))))
    ∙ under_root (hits g.T.NameTest.passes c.args.tests.now (finite.keys c.args.self.now))))
