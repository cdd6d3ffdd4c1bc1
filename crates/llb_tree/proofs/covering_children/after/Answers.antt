use Rattle.std.proofs.Common.{◌≡◌, true, is_some, sym, ap, subst, ◌∙◌}
use Rattle.llb_tree.specs.Path.{name_cmp}
use Rattle.llb_tree.specs.Nodes.{child, left_in}
use Rattle.llb_tree.proofs.CoveringChildren.{covers_rest, found_here}
use Rattle.llb_tree.proofs.ChildCursor.{fewer}
use Rattle.llb_tree.proofs.covering_children.after.Goals as goal

pub loop-kid-smaller : goal.loop-kid-smaller
loop-kid-smaller c = fewer _ _ _ c.in-Some.ensures

pub loop-kid-preserved : goal.loop-kid-preserved
loop-kid-preserved c = λ n is. c.loop-kid.invariant n
    (subst (λ ks. is_some (child n ks) ≡ true) (sym c.in-Some.ensures) (covers_rest c.in-Some.kid.now (left_in c.in-Some.more) n is))

pub returns-in-Equal : goal.returns-in-Equal
returns-in-Equal c =
    found_here c.args.name.now (left_in c.args.kids) (left_in c.loop-kid.rest) (left_in c.in-Some.more) c.in-Some.kid.now c.in-Some.ensures
    (ap (λ m. name_cmp m c.args.name.now) (sym c.deref.ensures) ∙ sym c.cmp.ensures ∙ c.in-Equal.is) c.loop-kid.invariant
