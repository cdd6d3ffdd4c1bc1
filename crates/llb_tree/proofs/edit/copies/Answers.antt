use Rattle.llb_tree.proofs.CopiedChildren.{map_pushed}
use Rattle.llb_tree.proofs.edit.copies.Goals as goal

pub loop-kid-preserved : goal.loop-kid-preserved
loop-kid-preserved c = map_pushed c.args.kids.now c.loop-kid.copied.items c.push.new.self.items c.loop-kid.kid-index _ c.kid-item.result
    c.loop-kid.invariant c.in_ok-push.ensures.items c.kid-item.is c.in_ok-copy.ensures c.loop-kid-test.true
