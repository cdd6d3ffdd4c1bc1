use Rattle.std.proofs.Common.{◌≡◌, ◌∙◌, ◌<◌, ◌≤◌, ◌+◌, ◌++◌, length, map, drop, ap, sym, subst, arith}
use Rattle.std.specs.Prelude.{Some, IfOk}
use Rattle.std.specs.FinMap as finite
use Rattle.llb_tree.specs.PathEntries.{seen}
use Rattle.llb_tree.specs.Tree.{moved}
use Rattle.llb_fileop.specs.Refusals.{first_of, no_meeting, no_landings}
use Rattle.llb_fileop.proofs.PathOrderTraversal.{walk_end}
use Rattle.llb_fileop.proofs.RefusedCopies.{landing_deep, landing_next}
use Rattle.llb_fileop.proofs.refused_copy.no_landing_below.Goals as goal

pub returns-then-names-gt128 : goal.returns-then-names-gt128
returns-then-names-gt128 c =
    let deep : 128 < length c.args.goal.now + length c.in-Some.path.now
    = omega (arith, c.if-names-gt128.true, ap length c.names.ensures.all, ap length c.names-in-Some.ensures.all) in
    subst (λ x. IfOk c.at-then-names-gt128.result (λ r. r ≡ x))
    (sym (landing_deep c.args.source.now c.args.tree.now c.args.goal.now c.loop-path.walk c.in-Some.path.now (seen c.in-Some.entry)
    (sym c.in-Some.ensures) deep) ∙ c.loop-path.invariant) c.at-then-names-gt128.ensures

pub returns-in-Some-2 : goal.returns-in-Some-2
returns-in-Some-2 c =
    let t = c.args.tree.now in
    let short : length c.args.goal.now + length c.in-Some.path.now ≤ 128
    = omega (arith, c.if-names-gt128.false, ap length c.names.ensures.all, ap length c.names-in-Some.ensures.all) in
    let place_is : c.in_ok-place.place ≡ c.args.goal.now ++ c.in-Some.path.now
    = c.in_ok-place.ensures ∙ ap (λ q. c.args.goal.now ++ q) c.names-in-Some-2.ensures.all in
    let refused : Some c.in-Some-2.refusal
    ≡ no_meeting (c.args.goal.now ++ c.in-Some.path.now) (finite.get t (c.args.goal.now ++ c.in-Some.path.now)) (seen c.in-Some.entry)
    = sym c.in-Some-2.is ∙ c.in_ok-refusal.ensures ∙ ap (λ p. no_meeting p (finite.get t p) (seen c.in-Some.entry)) place_is in
    ap (λ m. first_of m (no_landings c.args.source.now t (map (moved 0 c.args.goal.now) (drop 1 c.loop-path.walk)))) refused
    ∙ sym (landing_next c.args.source.now t c.args.goal.now c.loop-path.walk c.in-Some.path.now (seen c.in-Some.entry) (sym c.in-Some.ensures) short)
    ∙ c.loop-path.invariant

pub returns : goal.returns
returns c =
    sym (ap (λ es. no_landings c.args.source.now c.args.tree.now (map (moved 0 c.args.goal.now) es))
    (walk_end c.loop-path.walk (sym c.in_default.ensures))) ∙ c.loop-path.invariant
