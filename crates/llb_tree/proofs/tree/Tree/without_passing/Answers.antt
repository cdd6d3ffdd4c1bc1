use Rattle.std.proofs.Common.{sym, ◌∙◌}
use Rattle.llb_tree.specs.PathTests.{rid_of}
use Rattle.llb_tree.proofs.FilteredNodes.{split_first}
use Rattle.llb_tree.proofs.FilteredTrees.{thinned_tree, unthinned_tree}
use Rattle.llb_tree.proofs.tree.Tree.without_passing.Goals as goal

pub invariant_of-result : goal.invariant_of-result
invariant_of-result g c =
    let split = split_first c.args.tests.now c.test-item.result c.in-len1-up.len_at_least c.test-item.is in
    (thinned_tree g.T.NameTest.passes c.test-item.result _ c.self.inside.root c.in-Some.root c.self.inside.depth c.args.tests.now split c.self.invariant
    _ c.in-Some.is c.in_ok-thinned.ensures).0

pub returns-in-None-clause-gives : goal.returns-in-None-clause-gives
returns-in-None-clause-gives g c =
    let split = split_first c.args.tests.now c.test-item.result c.in-len1-up.len_at_least c.test-item.is in
    (λ i. rid_of g.T.NameTest.passes c.args.tests.now (sym c.self.view_is i))
    ∙ unthinned_tree g.T.NameTest.passes c.test-item.result _ c.self.inside.root c.args.tests.now split _ c.in-None.is c.in_ok-thinned.ensures

pub returns-in-Some-clause-gives : goal.returns-in-Some-clause-gives
returns-in-Some-clause-gives g c =
    let split = split_first c.args.tests.now c.test-item.result c.in-len1-up.len_at_least c.test-item.is in
    (λ i. rid_of g.T.NameTest.passes c.args.tests.now (sym c.self.view_is i))
    ∙ (thinned_tree g.T.NameTest.passes c.test-item.result _ c.self.inside.root c.in-Some.root c.self.inside.depth c.args.tests.now split c.self.invariant
    _ c.in-Some.is c.in_ok-thinned.ensures).1
