use Rattle.std.proofs.Common.{◌≡◌, ◌≢◌, [], Ok, sym, ap, subst, ◌∙◌, true≢false, arith, length}
use Rattle.llb_wire.specs.Spelling.{AreBytes}
use Rattle.llb_tree.specs.Path.{IsPath}
use Rattle.llb_tree.specs.Tree.{put_file}
use Rattle.llb_tree.specs.Nodes.{IsWhole}
use Rattle.llb_tree.proofs.Edits.{file_edit}
use Rattle.llb_tree.proofs.tree.Tree.put_content.Goals as goal
use Rattle.llb_tree.proofs.tree.Tree.put_content.Goals.{After-max-self-inside}

-- the node that is set makes the tree of the rule, which is whole
edited : (c : After-max-self-inside) → IsWhole c.set.new.self c.max-self-inside.result
    × (put_file c.self.inside.root c.names-names.result.now c.args.meta c.args.content ≡ Ok c.set.new.self)
edited c =
    let named : c.names-names.result.now ≢ [] = λ e. true≢false (sym (c.is_root.ensures.1 (sym c.names-names.ensures.all ∙ e)) ∙ c.if-is_root.false) in
    file_edit c.self.inside.root c.set.new.self c.of_content-node.result c.self.inside.depth c.max-self-inside.result c.names-names.result.now
    c.args.meta c.self.invariant (subst IsPath (sym c.names-names.ensures.all) c.names-names.ensures.path) c.is_meta.ensures
    (sym c.in_ok-walked.ensures.walks) (omega (arith, c.max-self-inside.ensures)) (omega (arith, c.max-self-inside.ensures))
    (omega (
      arith,
      c.max-self-inside.ensures,
      c.self.invariant.short,
      c.names-names.ensures.short,
      ap length c.names-names.ensures.all,
    )) c.in_ok-set.ensures.ok
    c.args.content (subst AreBytes c.bytes.ensures c.is_bytes.ensures) named (sym c.in_ok-file_may_stand.ensures) c.of_content-node.ensures

pub invariant_of-self-2 : goal.invariant_of-self-2
invariant_of-self-2 c = (edited (goal.at.invariant_of-self-2 c).After-max-self-inside).0

pub returns-clause-gives : goal.returns-clause-gives
returns-clause-gives c =
    (λ i. put_file (sym c.self.view_is i) (sym c.names-names.ensures.all i) c.args.meta c.args.content)
    ∙ (edited (goal.at.returns-clause-gives c).After-max-self-inside).1
