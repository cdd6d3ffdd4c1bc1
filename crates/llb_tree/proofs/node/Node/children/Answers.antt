use Rattle.std.proofs.Common.{ap, sym, subst, ◌∙◌}
use Rattle.llb_tree.specs.Nodes.{kids_of, kids_in, AreSorted}
use Rattle.llb_tree.proofs.Entries.{node_entries}
use Rattle.llb_tree.proofs.PiecesAroundName.{sorted_kids}
use Rattle.llb_tree.proofs.node.Node.children.Goals as goal

pub returns-in-File-clause-entries : goal.returns-in-File-clause-entries
returns-in-File-clause-entries c =
    node_entries c.self.inside.kind c.args.self.now _ c.self.view_is (sorted_kids _ c.self.invariant) (ap kids_of c.in-File.is ∙ sym c.none.ensures)

pub returns-in-Dir-clause-entries : goal.returns-in-Dir-clause-entries
returns-in-Dir-clause-entries c =
    node_entries c.self.inside.kind c.args.self.now _ c.self.view_is (sorted_kids _ c.self.invariant) (ap kids_of c.in-Dir.is
    ∙ sym (c.of.ensures ∙ ap kids_in (c.as_slice.ensures.value ∙ ap (λ v. v.items) c.deref.ensures)))

pub returns-in-Dir-clause-order : goal.returns-in-Dir-clause-order
returns-in-Dir-clause-order c = subst AreSorted
    (ap kids_of c.in-Dir.is ∙ sym (c.of.ensures ∙ ap kids_in (c.as_slice.ensures.value ∙ ap (λ v. v.items) c.deref.ensures))) (sorted_kids _ c.self.invariant)
