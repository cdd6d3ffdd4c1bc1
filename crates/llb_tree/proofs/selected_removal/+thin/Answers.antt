use Rattle.std.proofs.Common.{◌≡◌, ◌+◌, Option, Vec, Global, ◌||◌, [], ◌∷◌, arith, true, false, subst, sym, ap, ◌∙◌, refl, Some, None, option_map}
use Rattle.std.specs.Arc.{arc_value}
use Rattle.llb_tree.specs.Nodes.{name_of, kids_of, kids_in, left_in, own_entry, seen, AreSorted}
use Rattle.llb_tree.specs.PathTests.{Keeps, KeepsAll}
use Rattle.llb_tree.specs.declared.node.Kind.TheVariants as kind
use Rattle.llb_tree.specs.declared.node.Child.{Child}
use Rattle.llb_tree.proofs.ChildCursor.{at_start, at_next, at_end, fewer}
use Rattle.llb_tree.proofs.Entries.{nothing}
use Rattle.llb_tree.proofs.PiecesAroundName.{sorted_kids}
use Rattle.llb_tree.proofs.PieceEdits.{some_pieced}
use Rattle.llb_tree.proofs.FilteredNodes.{keeps_other, keeps_thinned, keeps_gone, thins_none, thins_some, split_first}
use Rattle.llb_tree.proofs.FilteredNodes.{KeptSoFar, kept_start, kept_next, kept_changed, kept_same}
use Rattle.llb_tree.proofs.selected_removal.+thin.Goals as goal

pub keep-returns-then-not-passes : goal.keep-returns-then-not-passes
keep-returns-then-not-passes g t c =
    let passes = g.T.NameTest.passes in
    let fails : passes c.args.test.now (name_of c.args.kid.now) ≡ false =
    ap (passes c.args.test.now) (sym c.deref.ensures) ∙ sym c.passes.ensures ∙ c.if-not-passes.true in
    keeps_other passes c.args.test.now c.args.rest.now c.args.kid.now c.in_ok-copy.field-0 c.args.kept.now.items c.push.new.self.items
    c.in_ok-push.ensures.items c.in_ok-copy.ensures fails

pub keep-returns-in_default : goal.keep-returns-in_default
keep-returns-in_default g t c =
    let passes = g.T.NameTest.passes in
    let hit : passes c.args.test.now (name_of c.args.kid.now) ≡ true =
    ap (passes c.args.test.now) (sym c.deref.ensures) ∙ sym c.passes.ensures ∙ c.if-not-passes.false in
    let none : c.args.rest.now ≡ [] = nothing c.args.rest.now (omega (arith, c.in_default.len_below)) in
    subst (λ rest. Keeps passes (c.args.test.now ∷ rest) c.args.kid.now true c.args.kept.now.items c.args.kept.now.items) (sym none)
    (keeps_gone passes c.args.test.now c.args.kid.now (seen c.entry-entry.result) c.args.kept.now.items (sym c.entry-entry.ensures) hit)

pub keep-returns-in_ok-push-in-None : goal.keep-returns-in_ok-push-in-None
keep-returns-in_ok-push-in-None g t c =
    let passes = g.T.NameTest.passes in
    let hit : passes c.args.test.now (name_of c.args.kid.now) ≡ true =
    ap (passes c.args.test.now) (sym c.deref.ensures) ∙ sym c.passes.ensures ∙ c.if-not-passes.false in
    let split = split_first c.args.rest.now c.next-item.result c.in-len1-up.len_at_least c.next-item.is in
    keeps_thinned passes c.args.test.now c.args.rest.now c.args.kid.now c.in_ok-copy-in-None.field-0 None c.args.kept.now.items c.push-in-None.new.self.items
    c.in_ok-push-in-None.ensures.items c.in_ok-copy-in-None.ensures hit _ _ split c.in-None.is c.in_ok-thinned.ensures

pub keep-returns-in_ok-push-in-Some : goal.keep-returns-in_ok-push-in-Some
keep-returns-in_ok-push-in-Some g t c =
    let passes = g.T.NameTest.passes in
    let hit : passes c.args.test.now (name_of c.args.kid.now) ≡ true =
    ap (passes c.args.test.now) (sym c.deref.ensures) ∙ sym c.passes.ensures ∙ c.if-not-passes.false in
    let split = split_first c.args.rest.now c.next-item.result c.in-len1-up.len_at_least c.next-item.is in
    keeps_thinned passes c.args.test.now c.args.rest.now c.args.kid.now _ (Some c.in-Some.node) c.args.kept.now.items c.push-in-Some.new.self.items
    c.in_ok-push-in-Some.ensures.items (λ i. (c.in_ok-name-in-Some.ensures i, c.in-Some.node)) hit _ _ split c.in-Some.is c.in_ok-thinned.ensures

pub thinned-returns-in_default : goal.thinned-returns-in_default
thinned-returns-in_default g t c =
    thins_none g.T.NameTest.passes c.args.test.now c.args.rest.now c.node.inside.kind c.args.node.now c.node.view_is (sorted_kids _ c.node.invariant) []
    (ap kids_of c.in_default.is) refl

pub thinned-returns-in-None : goal.thinned-returns-in-None
thinned-returns-in-None g t c =
    let passes = g.T.NameTest.passes in
    let kids : kids_of c.node.inside.kind ≡ left_in c.of.result =
    ap kids_of c.in-Dir.is ∙ sym (c.of.ensures ∙ ap kids_in (c.as_slice.ensures.value ∙ ap (λ v. v.items) c.deref.ensures)) in
    let keeps : KeepsAll passes (c.args.test.now ∷ c.args.rest.now) (left_in c.of.result) None =
    subst (λ (o : Option (Vec Child Global)). KeepsAll passes (c.args.test.now ∷ c.args.rest.now) (left_in c.of.result) (option_map (λ v. v.items) o))
    c.in-None.is c.in_ok-thinned_children.ensures in
    thins_none passes c.args.test.now c.args.rest.now c.node.inside.kind c.args.node.now c.node.view_is (sorted_kids _ c.node.invariant)
    (left_in c.of.result) kids (sym keeps.any)

pub thinned-returns-in_ok-kids-in-Some : goal.thinned-returns-in_ok-kids-in-Some
thinned-returns-in_ok-kids-in-Some g t c =
    let passes = g.T.NameTest.passes in
    let kids : kids_of c.node.inside.kind ≡ left_in c.of.result =
    ap kids_of c.in-Dir.is ∙ sym (c.of.ensures ∙ ap kids_in (c.as_slice.ensures.value ∙ ap (λ v. v.items) c.deref.ensures)) in
    let keeps : KeepsAll passes (c.args.test.now ∷ c.args.rest.now) (left_in c.of.result) (Some c.in-Some.kept.items) =
    subst (λ (o : Option (Vec Child Global)). KeepsAll passes (c.args.test.now ∷ c.args.rest.now) (left_in c.of.result) (option_map (λ v. v.items) o))
    c.in-Some.is c.in_ok-thinned_children.ensures in
    thins_some passes c.args.test.now c.args.rest.now c.node.inside.kind c.args.node.now c.node.view_is (sorted_kids _ c.node.invariant)
    (left_in c.of.result) (kind.Dir c.in-Dir.meta c.in_ok-kids-in-Some.kids) c.in-Some.kept.items kids (ap own_entry (sym c.in-Dir.is))
    c.in_ok-kids-in-Some.ensures.same keeps

pub thinned_children-loop-kid-init : goal.thinned_children-loop-kid-init
thinned_children-loop-kid-init g t c = (
  0,
  at_start (left_in c.args.kids),
  kept_start g.T.NameTest.passes (c.args.test.now ∷ c.args.rest.now) (left_in c.args.kids) c.new-kept.result.items c.new-kept.ensures.items,
)

pub thinned_children-loop-kid-smaller : goal.thinned_children-loop-kid-smaller
thinned_children-loop-kid-smaller g t c = fewer _ _ _ c.in-Some.ensures

pub thinned-invariant_of-result : goal.thinned-invariant_of-result
thinned-invariant_of-result g t c =
    let passes = g.T.NameTest.passes in
    let kids : kids_of c.node.inside.kind ≡ left_in c.of.result =
    ap kids_of c.in-Dir.is ∙ sym (c.of.ensures ∙ ap kids_in (c.as_slice.ensures.value ∙ ap (λ v. v.items) c.deref.ensures)) in
    let keeps : KeepsAll passes (c.args.test.now ∷ c.args.rest.now) (left_in c.of.result) (Some c.in-Some.kept.items) =
    subst (λ (o : Option (Vec Child Global)). KeepsAll passes (c.args.test.now ∷ c.args.rest.now) (left_in c.of.result) (option_map (λ v. v.items) o))
    c.in-Some.is c.in_ok-thinned_children.ensures in
    some_pieced (arc_value c.in_ok-kids-in-Some.kids).items
    (subst AreSorted (sym c.in_ok-kids-in-Some.ensures.same) (keeps.order (subst AreSorted kids (sorted_kids _ c.node.invariant))))
    c.in_ok-kids-in-Some.ensures.full

pub thinned_children-loop-kid-preserved-then-changed : goal.thinned_children-loop-kid-preserved-then-changed
thinned_children-loop-kid-preserved-then-changed g t c =
    let passes = g.T.NameTest.passes in
    let all = left_in c.args.kids in
    let so_far = c.loop-kid.invariant in
    let kid = c.in-Some.kid.now in
    let next = at_next all (left_in c.loop-kid.left) (left_in c.in-Some.others) kid so_far.0 so_far.1 c.in-Some.ensures in (
      so_far.0 + 1,
      next.at,
      subst (λ changed. KeptSoFar passes (c.args.test.now ∷ c.args.rest.now) all (so_far.0 + 1) changed c.keep.new.kept.items)
          (ap (λ b. b || c.in_ok-goes.goes) c.if-changed.true ∙ sym c.if-changed.true)
          (kept_next passes (c.args.test.now ∷ c.args.rest.now) all so_far.0 kid c.loop-kid.changed c.in_ok-goes.goes
          c.loop-kid.kept.items c.keep.new.kept.items next.within next.here so_far.2 c.in_ok-goes.ensures),
    )

pub thinned_children-loop-kid-preserved : goal.thinned_children-loop-kid-preserved
thinned_children-loop-kid-preserved g t c =
    let passes = g.T.NameTest.passes in
    let all = left_in c.args.kids in
    let so_far = c.loop-kid.invariant in
    let kid = c.in-Some.kid.now in
    let next = at_next all (left_in c.loop-kid.left) (left_in c.in-Some.others) kid so_far.0 so_far.1 c.in-Some.ensures in (
      so_far.0 + 1,
      next.at,
      subst (λ changed. KeptSoFar passes (c.args.test.now ∷ c.args.rest.now) all (so_far.0 + 1) changed c.keep.new.kept.items)
          (ap (λ b. b || c.in_ok-goes.goes) c.if-changed.false)
          (kept_next passes (c.args.test.now ∷ c.args.rest.now) all so_far.0 kid c.loop-kid.changed c.in_ok-goes.goes
          c.loop-kid.kept.items c.keep.new.kept.items next.within next.here so_far.2 c.in_ok-goes.ensures),
    )

pub thinned_children-returns-then-not-changed : goal.thinned_children-returns-then-not-changed
thinned_children-returns-then-not-changed g t c =
    let passes = g.T.NameTest.passes in
    let all = left_in c.args.kids in
    let so_far = c.loop-kid.invariant in
    kept_same passes (c.args.test.now ∷ c.args.rest.now) all c.loop-kid.kept.items so_far.0
    (at_end all (left_in c.loop-kid.left) so_far.0 so_far.1 c.in_default.ensures)
    (subst (λ changed. KeptSoFar passes (c.args.test.now ∷ c.args.rest.now) all so_far.0 changed c.loop-kid.kept.items) c.if-not-changed.true so_far.2)

pub thinned_children-returns : goal.thinned_children-returns
thinned_children-returns g t c =
    let passes = g.T.NameTest.passes in
    let all = left_in c.args.kids in
    let so_far = c.loop-kid.invariant in
    kept_changed passes (c.args.test.now ∷ c.args.rest.now) all c.loop-kid.kept.items so_far.0
    (at_end all (left_in c.loop-kid.left) so_far.0 so_far.1 c.in_default.ensures)
    (subst (λ changed. KeptSoFar passes (c.args.test.now ∷ c.args.rest.now) all so_far.0 changed c.loop-kid.kept.items) c.if-not-changed.false so_far.2)
