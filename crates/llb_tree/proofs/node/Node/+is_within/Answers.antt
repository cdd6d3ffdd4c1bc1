use Rattle.std.proofs.Common.{◌≡◌, ◌+◌, ◌≤◌, [], sym, ap, ◌∙◌, true≢false, arith}
use Rattle.llb_tree.specs.Nodes.{kids_of, kids_in, left_in}
use Rattle.llb_tree.proofs.ChildLookup.{kids_below}
use Rattle.llb_tree.proofs.NodeComparison.{differ, agree}
use Rattle.llb_tree.proofs.ChildCursor.{at_start, at_next, at_end, fewer}
use Rattle.llb_tree.proofs.NodeDepths.{above_none, within_kids, kid_within, all_more, next_below}
use Rattle.llb_tree.proofs.node.Node.+is_within.Goals as goal

pub returns-then-levels-eq0 : goal.returns-then-levels-eq0
returns-then-levels-eq0 t c = differ (above_none c.self.inside.kind _ c.self.view_is c.args.levels c.if-levels-eq0.true)

pub loop-kid-init : goal.loop-kid-init
loop-kid-init t c =
    let all = left_in c.of-left.result in (
      0,
      at_start all,
      λ j d lt. absurd (omega arith),
    )

pub loop-kid-smaller : goal.loop-kid-smaller
loop-kid-smaller t c = fewer _ _ _ c.in-Some.ensures

pub loop-kid-preserved : goal.loop-kid-preserved
loop-kid-preserved t c =
    let all = left_in c.of-left.result in
    let so_far = c.loop-kid.invariant in
    let next = at_next all (left_in c.loop-kid.left) (left_in c.in-Some.rest) c.in-Some.kid.now so_far.0 so_far.1 c.in-Some.ensures in (
      so_far.0 + 1,
      next.at,
      all_more all so_far.0 _ _ next.here next.within (c.is_within.ensures.0 c.if-not-is_within.false) so_far.2,
    )

pub returns-then-not-is_within : goal.returns-then-not-is_within
returns-then-not-is_within t c =
    let all = left_in c.of-left.result in
    let so_far = c.loop-kid.invariant in
    let next = at_next all (left_in c.loop-kid.left) (left_in c.in-Some.rest) c.in-Some.kid.now so_far.0 so_far.1 c.in-Some.ensures in
    let kids : kids_of c.self.inside.kind ≡ all =
    ap kids_of c.in-Dir.is ∙ sym (c.of-left.ensures ∙ ap kids_in (c.as_slice.ensures.value ∙ ap (λ v. v.items) c.deref.ensures)) in
    differ (λ le.
    let within = kid_within c.self.inside.kind _ c.self.view_is _ all so_far.0 _ kids next.here next.within le in
    true≢false (sym (c.is_within.ensures.1 within) ∙ c.if-not-is_within.true))

pub returns-in-File : goal.returns-in-File
returns-in-File t c =
    let some : 1 ≤ c.args.levels = omega (arith, c.if-levels-eq0.false) in
    agree (within_kids c.self.inside.kind _ c.self.view_is c.args.levels [] (ap kids_of c.in-File.is) some (λ j d lt. absurd (omega arith)))

pub returns-in_default : goal.returns-in_default
returns-in_default t c =
    let all = left_in c.of-left.result in
    let so_far = c.loop-kid.invariant in
    let past = at_end all (left_in c.loop-kid.left) so_far.0 so_far.1 c.in_default.ensures in
    let some : 1 ≤ c.args.levels = omega (arith, c.if-levels-eq0.false) in
    let kids : kids_of c.self.inside.kind ≡ all =
    ap kids_of c.in-Dir.is ∙ sym (c.of-left.ensures ∙ ap kids_in (c.as_slice.ensures.value ∙ ap (λ v. v.items) c.deref.ensures)) in
    agree (within_kids c.self.inside.kind _ c.self.view_is c.args.levels all kids some
    (λ j d lt. so_far.2 j d (omega (arith, lt, past))))

pub is_within-requires : goal.is_within-requires
is_within-requires t c =
    let all = left_in c.of-left.result in
    let so_far = c.loop-kid.invariant in
    let next = at_next all (left_in c.loop-kid.left) (left_in c.in-Some.rest) c.in-Some.kid.now so_far.0 so_far.1 c.in-Some.ensures in
    let low = next_below all (left_in c.in-Some.rest) so_far.0 c.in-Some.kid.now next in
    let le = kids_below c.self.inside.kind c.in-Dir.field-0 c.in-Dir.kids c.args.self.now all c.self.view_is c.in-Dir.is
    (c.of-left.ensures ∙ ap kids_in (c.as_slice.ensures.value ∙ ap (λ v. v.items) c.deref.ensures)) in
    (omega (arith, low, le, c.decreases), tt)
