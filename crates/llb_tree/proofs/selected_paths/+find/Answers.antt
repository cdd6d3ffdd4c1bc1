use Rattle.std.proofs.Common.{◌≡◌, ◌+◌, ◌-◌, ◌<◌, ◌≤◌, [], ◌∷◌, ◌++◌, length, take, drop, arith, true, false, subst, sym, ap, ◌∙◌, refl, append-nil, rules}
use Rattle.std.specs.FinMap as finite
use Rattle.std.specs.Prelude.{is_some}
use Rattle.llb_tree.specs.TreeHeights.{le_height}
use Rattle.llb_tree.specs.Tree.{height}
use Rattle.llb_tree.specs.Nodes.{name_of, kids_of, kids_in, left_in, below}
use Rattle.llb_tree.proofs.ChildCursor.{at_start, at_next, at_end, fewer}
use Rattle.llb_tree.proofs.Entries.{nothing}
use Rattle.llb_tree.proofs.NodeDepths.{kid_within}
use Rattle.llb_tree.proofs.PiecesAroundName.{sorted_kids}
use Rattle.llb_tree.proofs.NodeReplacement.{same_Ok}
use Rattle.llb_tree.proofs.FilteredNodes.{split_first, keys_of}
use Rattle.llb_tree.proofs.SelectedPaths.{under, hits, below_is, none_in, all_in, found_next, found_here, found_all, found_none}
use Rattle.llb_tree.proofs.selected_paths.+find.Goals as goal

pub find-returns-in_default-clause-found : goal.find-returns-in_default-clause-found
find-returns-in_default-clause-found g t c =
    let passes = g.T.NameTest.passes in
    let none : c.args.tests.now ≡ [] = nothing c.args.tests.now (omega (arith, c.in_default.len_below)) in
    subst (λ ts. c.push.new.self.items ≡ c.args.found.now.items ++ under c.args.path.now (hits passes ts (finite.keys c.args.node.now))) (sym none)
    (found_here passes c.node.inside.kind c.args.node.now c.node.view_is (sorted_kids _ c.node.invariant) c.args.path.now c.args.found.now.items
    c.push.new.self.items (c.in_ok-push.ensures.items ∙ ap (λ q. c.args.found.now.items ++ q ∷ []) (sym (same_Ok _ _ c.in_ok-copy.ensures))))

pub find-returns-in_default-kind-clause-found : goal.find-returns-in_default-kind-clause-found
find-returns-in_default-kind-clause-found g t c =
    let passes = g.T.NameTest.passes in
    let split = split_first c.args.tests.now c.test-item.result c.in-len1-up.len_at_least c.test-item.is in
    subst (λ ts. c.args.found.now.items ≡ c.args.found.now.items ++ under c.args.path.now (hits passes ts (finite.keys c.args.node.now))) (sym split)
    (found_none passes c.node.inside.kind c.args.node.now c.node.view_is (sorted_kids _ c.node.invariant) c.test-item.result _ c.args.path.now
    c.args.found.now.items (ap kids_of c.in_default-kind.is))

pub find-loop-kid-init : goal.find-loop-kid-init
find-loop-kid-init g t c =
    let all = left_in c.of-left.result in (
      0,
      at_start all,
      refl,
      sym (append-nil c.args.found.now.items),
    )

pub find-loop-kid-smaller : goal.find-loop-kid-smaller
find-loop-kid-smaller g t c = fewer _ _ _ c.in-Some.ensures

pub find-find_in-requires : goal.find-find_in-requires
find-find_in-requires g t c =
    let all = left_in c.of-left.result in
    let so_far = c.loop-kid.invariant in
    let kid = c.in-Some.kid.now in
    let next = at_next all (left_in c.loop-kid.left) (left_in c.in-Some.others) kid so_far.0 so_far.1 c.in-Some.ensures in
    let some : 1 ≤ height c.args.node.now = le_height c.args.node.now [] (ap is_some (sym c.entry-entry.ensures)) in
    let kids : kids_of c.node.inside.kind ≡ all =
    ap kids_of c.in-Dir.is ∙ sym (c.of-left.ensures ∙ ap kids_in (c.as_slice.ensures.value ∙ ap (λ v. v.items) c.deref.ensures)) in
    let low : height kid.node ≤ (129 - length c.args.path.now) - 1 =
    kid_within c.node.inside.kind c.args.node.now c.node.view_is (129 - length c.args.path.now) all so_far.0
    kid kids next.here next.within (omega (arith, c.requires)) in
    let room : length c.loop-kid.path + height kid.node ≤ 128 = omega (arith, low, some, c.requires, ap length so_far.2) in
    search rules

pub find-loop-kid-preserved : goal.find-loop-kid-preserved
find-loop-kid-preserved g t c =
    let passes = g.T.NameTest.passes in
    let tests = c.test-item.result ∷ take (length c.args.tests.now - 1) (drop 1 c.args.tests.now) in
    let all = left_in c.of-left.result in
    let so_far = c.loop-kid.invariant in
    let kid = c.in-Some.kid.now in
    let next = at_next all (left_in c.loop-kid.left) (left_in c.in-Some.others) kid so_far.0 so_far.1 c.in-Some.ensures in (
      so_far.0 + 1,
      next.at,
      c.in_ok-find_in.ensures.path ∙ so_far.2,
      found_next passes tests all so_far.0 kid c.args.path.now c.args.found.now.items
          c.loop-kid.found.items c.find_in.new.found.items next.within next.here so_far.3
          (c.in_ok-find_in.ensures.found
          ∙ ap (λ p. c.loop-kid.found.items ++ under p (hits passes tests (keys_of (below kid)))) so_far.2),
    )

pub find-returns-clause-path : goal.find-returns-clause-path
find-returns-clause-path g t c = c.loop-kid.invariant.2

pub find-returns-clause-found : goal.find-returns-clause-found
find-returns-clause-found g t c =
    let passes = g.T.NameTest.passes in
    let all = left_in c.of-left.result in
    let so_far = c.loop-kid.invariant in
    let kids : kids_of c.node.inside.kind ≡ all =
    ap kids_of c.in-Dir.is ∙ sym (c.of-left.ensures ∙ ap kids_in (c.as_slice.ensures.value ∙ ap (λ v. v.items) c.deref.ensures)) in
    let past = at_end all (left_in c.loop-kid.left) so_far.0 so_far.1 c.in_default-split_first.ensures in
    let split = split_first c.args.tests.now c.test-item.result c.in-len1-up.len_at_least c.test-item.is in
    subst (λ ts. c.loop-kid.found.items ≡ c.args.found.now.items ++ under c.args.path.now (hits passes ts (finite.keys c.args.node.now))) (sym split)
    (found_all passes c.node.inside.kind c.args.node.now c.node.view_is (sorted_kids _ c.node.invariant) c.test-item.result _ all
    so_far.0 c.args.path.now c.args.found.now.items c.loop-kid.found.items kids past so_far.3)

pub find_in-returns-then-not-passes-clause-found : goal.find_in-returns-then-not-passes-clause-found
find_in-returns-then-not-passes-clause-found g t c =
    let passes = g.T.NameTest.passes in
    let fails : passes c.args.test.now (name_of c.args.kid.now) ≡ false =
    ap (passes c.args.test.now) (sym c.deref.ensures) ∙ sym c.passes.ensures ∙ c.if-not-passes.true in
    none_in passes c.args.test.now c.args.rest.now c.args.kid.now c.args.path.now c.args.found.now.items fails

pub find_in-returns-in_err-push-clause-err : goal.find_in-returns-in_err-push-clause-err
find_in-returns-in_err-push-clause-err g t c =
    let some : 1 ≤ height c.args.kid.now.node = le_height c.args.kid.now.node [] (ap is_some (sym c.entry-entry.ensures)) in
    let short : length c.args.path.now < 128 = omega (arith, some, c.requires) in
    search rules

pub find_in-returns-clause-found : goal.find_in-returns-clause-found
find_in-returns-clause-found g t c =
    let passes = g.T.NameTest.passes in
    let hit : passes c.args.test.now (name_of c.args.kid.now) ≡ true =
    ap (passes c.args.test.now) (sym c.deref.ensures) ∙ sym c.passes.ensures ∙ c.if-not-passes.false in
    let some : 1 ≤ height c.args.kid.now.node = le_height c.args.kid.now.node [] (ap is_some (sym c.entry-entry.ensures)) in
    let short : length c.args.path.now < 128 = omega (arith, some, c.requires) in
    let named : c.in_ok-copy.field-0 ≡ name_of c.args.kid.now = cc (c.in_ok-copy.ensures, c.deref-2.ensures) in
    let pushed = below_is c.args.path.now c.push.new.self c.in_ok-copy.field-0 short c.in_ok-push.ensures.gives in
    all_in passes c.args.test.now c.args.rest.now c.args.kid.now c.args.path.now c.in_ok-copy.field-0 c.args.found.now.items c.find.new.found.items hit named
    (c.in_ok-find.ensures.found
    ∙ ap (λ p. c.args.found.now.items ++ under p (hits passes c.args.rest.now (finite.keys c.args.kid.now.node))) pushed)
