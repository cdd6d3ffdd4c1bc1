use Rattle.std.proofs.Common.{ap, sym, ◌∙◌, refl}
use Rattle.std.specs.FinMap as finite
use Rattle.llb_tree.specs.Nodes.{kids_of, kids_in}
use Rattle.llb_tree.specs.declared.node.Kind.TheVariants as kind
use Rattle.llb_tree.proofs.ChildLookup.{dir_alone, dir_kept, read_file}
use Rattle.llb_tree.proofs.NodeReplacement.{if_ok}
use Rattle.llb_tree.proofs.node.Node.with_meta.Goals as goal

pub returns-in-File : goal.returns-in-File
returns-in-File c = if_ok c.empty_dir.result (λ made is q. ap (λ t. finite.get t q) is
    ∙ dir_alone c.args.meta (finite.get c.args.self.now)
    (λ n r. read_file c.self.inside.kind _ n r c.self.view_is (ap kids_of c.in-File.is)) q) c.empty_dir.ensures

pub returns-in_ok-kids-in-Dir : goal.returns-in_ok-kids-in-Dir
returns-in_ok-kids-in-Dir c = dir_kept (kind.Dir c.args.meta c.in_ok-kids-in-Dir.kids) c.self.inside.kind _ c.args.meta refl
    (ap (λ v. kids_in v.items) c.in_ok-kids-in-Dir.ensures ∙ sym (ap kids_of c.in-Dir.is)) c.self.view_is
