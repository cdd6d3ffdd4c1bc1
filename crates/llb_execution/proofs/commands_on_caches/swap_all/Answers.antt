use Rattle.std.proofs.Common.{◌≡◌, refl, sym, subst, ◌∙◌, get_or}
use Rattle.llb_tree.specs.Tree.{TreeMap}
use Rattle.llb_execution.proofs.TreeExchanges.{exchanged_by}
use Rattle.llb_execution.proofs.commands_on_caches.swap_all.Goals as goal

pub loop-i-preserved : goal.loop-i-preserved
loop-i-preserved c =
    let tree : c.replace-tree.result ≡ get_or c.loop-i.trees.items c.loop-i.i c.replace-tree.result
    = subst (λ (t : TreeMap). t ≡ get_or c.loop-i.trees.items c.loop-i.i t) (sym c.replace-tree.ensures.value) c.index_mut.ensures.value in
    exchanged_by
    c.loop-i.invariant
    c.requires.apart
    c.loop-i-test.true
    (get_or c.args.numbers.now c.loop-i.i 0)
    c.replace-tree.result
    refl
    tree
    c.swap_tree-shown.new.self
    c.replace-tree.new.dest
    c.replace-spare.new.dest
    c.swap_tree-shown.ensures.new
    (c.replace-spare.ensures.after ∙ c.swap_tree-shown.ensures.old)
