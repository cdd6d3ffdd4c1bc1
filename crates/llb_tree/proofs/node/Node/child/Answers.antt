use Rattle.std.proofs.Common.{◌≡◌, Some, None, sym, ap, ◌∙◌}
use Rattle.llb_tree.specs.Nodes.{kids_of, kids_in}
use Rattle.llb_tree.proofs.ChildLookup.{read_file, read_found}
use Rattle.llb_tree.proofs.PiecesAroundName.{sorted_kids}
use Rattle.llb_tree.proofs.node.Node.child.Goals as goal

pub returns-in-File : goal.returns-in-File
returns-in-File c q = read_file c.self.inside.kind _ c.args.name.now q c.self.view_is (ap kids_of c.in-File.is)

pub returns-in-None : goal.returns-in-None
returns-in-None c q =
    let kids : kids_of c.self.inside.kind ≡ kids_in c.as_slice.result.now = ap kids_of c.in-Dir.is
    ∙ sym (ap kids_in (c.as_slice.ensures.value ∙ ap (λ v. v.items) c.deref.ensures)) in
    read_found c.self.inside.kind _ _ c.args.name.now q c.self.view_is kids (sorted_kids _ c.self.invariant) None c.in-None.ensures

pub returns-in-Some : goal.returns-in-Some
returns-in-Some c q =
    let kids : kids_of c.self.inside.kind ≡ kids_in c.as_slice.result.now = ap kids_of c.in-Dir.is
    ∙ sym (ap kids_in (c.as_slice.ensures.value ∙ ap (λ v. v.items) c.deref.ensures)) in
    read_found c.self.inside.kind _ _ c.args.name.now q c.self.view_is kids (sorted_kids _ c.self.invariant) (Some c.in-Some.kid.now.node) c.in-Some.ensures
