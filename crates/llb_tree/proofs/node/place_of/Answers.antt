use Rattle.std.proofs.Common.{rules, arith, sym, ap, ◌∙◌}
use Rattle.std.proofs.lemmas.Fn.{always_returns_same}
use Rattle.llb_tree.specs.Nodes.{name_of}
use Rattle.llb_tree.specs.Path.{name_cmp}
use Rattle.llb_tree.proofs.GuessedPlaces.{place_past}
use Rattle.llb_tree.proofs.ChildBinarySearch.{place_searched}
use Rattle.llb_tree.specs.declared.node.Child.{Child}
use Rattle.llb_tree.proofs.node.place_of.Goals as goal

pub returns-clause-place : goal.returns-clause-place
returns-clause-place c =
    let facts = c.binary_search_by.ensures in
    let by_name = facts.position (λ (row : Child). name_cmp (name_of row) c.args.name.now) (always_returns_same _ _ _ (λ a r f called. search rules)) in
    place_searched c.args.name.now c.args.kids.now c.binary_search_by.result c.requires facts.bound by_name

pub returns-in-Less-clause-place : goal.returns-in-Less-clause-place
returns-in-Less-clause-place c =
    place_past c.args.name.now c.args.kids.now _ c.index-kids-count.result c.requires (omega (arith, c.if-count-gt0.true)) (omega arith) c.index-kids-count.is
    (ap (λ m. name_cmp m c.args.name.now) (ap name_of c.index-kids-count.is ∙ sym c.deref.ensures) ∙ sym c.cmp.ensures ∙ c.in-Less.is)
