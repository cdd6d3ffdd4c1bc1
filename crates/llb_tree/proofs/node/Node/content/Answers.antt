use Rattle.std.proofs.Common.{Some, sym, ap, ◌∙◌}
use Rattle.llb_tree.specs.Nodes.{own_entry}
use Rattle.llb_tree.specs.Tree.{content_of}
use Rattle.llb_tree.proofs.ChildLookup.{read_root}
use Rattle.llb_tree.proofs.node.Node.content.Goals as goal

pub returns-in-Dir : goal.returns-in-Dir
returns-in-Dir c = ap content_of (ap (λ k. Some (own_entry k)) (sym c.in-Dir.is) ∙ read_root c.self.inside.kind c.args.self.now c.self.view_is)

pub returns-in_ok-bytes-in-File : goal.returns-in_ok-bytes-in-File
returns-in_ok-bytes-in-File c = ap Some c.in_ok-bytes-in-File.ensures
    ∙ ap content_of (ap (λ k. Some (own_entry k)) (sym c.in-File.is) ∙ read_root c.self.inside.kind c.args.self.now c.self.view_is)
