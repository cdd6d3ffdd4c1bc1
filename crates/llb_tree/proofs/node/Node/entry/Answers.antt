use Rattle.std.proofs.Common.{Some, ap, sym, ◌∙◌}
use Rattle.llb_tree.specs.Nodes.{own_entry}
use Rattle.llb_tree.specs.Tree.{File}
use Rattle.llb_tree.proofs.ChildLookup.{read_root}
use Rattle.llb_tree.proofs.node.Node.entry.Goals as goal

pub returns-in-File : goal.returns-in-File
returns-in-File c = ap (λ b. Some (File c.in-File.meta b)) c.deref.ensures ∙ ap (λ k. Some (own_entry k)) (sym c.in-File.is)
    ∙ read_root c.self.inside.kind _ c.self.view_is

pub returns-in-Dir : goal.returns-in-Dir
returns-in-Dir c = ap (λ k. Some (own_entry k)) (sym c.in-Dir.is) ∙ read_root c.self.inside.kind _ c.self.view_is
