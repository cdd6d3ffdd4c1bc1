use Rattle.std.proofs.Common.{◌+◌, is_some, sym, ap, subst, ◌∙◌}
use Rattle.std.proofs.lemmas.List.{take_all}
use Rattle.llb_tree.specs.Nodes.{child, left_in}
use Rattle.llb_tree.specs.Laying.{Covers}
use Rattle.llb_tree.proofs.CoveringChildren.{covers_more}
use Rattle.llb_tree.proofs.ChildCursor.{at_start, at_next, at_end, fewer}
use Rattle.llb_tree.proofs.covering_children.has_all.Goals as goal

pub loop-kid-init : goal.loop-kid-init
loop-kid-init c = (0, at_start (left_in c.args.lower), λ n is. absurd cc, λ n is. is)

pub loop-kid-smaller : goal.loop-kid-smaller
loop-kid-smaller c = fewer _ _ _ c.in-Some.ensures

pub loop-kid-preserved : goal.loop-kid-preserved
loop-kid-preserved c =
    let upper = left_in c.args.upper in
    let lower = left_in c.args.lower in
    let before = c.loop-kid.invariant in
    let kid = c.in-Some.kid.now in
    let next = at_next lower (left_in c.loop-kid.left) (left_in c.in-Some.others) kid before.0 before.1 c.in-Some.ensures in
    let there = c.in-Some-after.ensures in (
      before.0 + 1,
      next.at,
      covers_more upper lower before.0 kid next.within next.here before.2
          (ap (λ n. is_some (child n upper)) (sym c.deref.ensures) ∙ before.3 c.deref.result.now there.here),
      λ n is. before.3 n (there.later n is),
    )

pub returns : goal.returns
returns c = λ _.
    let before = c.loop-kid.invariant in
    subst (λ ks. Covers (left_in c.args.upper) ks)
    (take_all before.0 (left_in c.args.lower) (at_end (left_in c.args.lower) (left_in c.loop-kid.left) before.0 before.1 c.in_default.ensures)) before.2
