use Rattle.std.proofs.Common.{◌≡◌, ℕ, List, Option, Some, None, Result, Ok, sym, ◌∙◌, ap, arith}
use Rattle.std.proofs.lemmas.List.{get_or_read}
use Rattle.std.specs.BTreeSet.{contains}
use Rattle.llb_tree.specs.declared.fault.TreeFault.{TreeFault}
use Rattle.llb_tree.specs.Path.{path_cmp}
use Rattle.llb_tree.specs.PathOrder.{path_cmp-IsTotalOrder, path_cmp-IsAntisymmetric}
use Rattle.llb_loader.specs.Mounts.{value_at}
use Rattle.llb_loader.proofs.OutputNumbers.{true_when, false_when}
use Rattle.llb_loader.proofs.DistinctValues.{when_not_false, when_not_true, seen_skip, seen_more, not_seen, already_seen, apart_skip, apart_more, apart_end}
use Rattle.llb_loader.proofs.exec_paths.dests_apart.Goals as goal

-- a path that is copied is at its place
copied_at : (values : List (Option (List (List ℕ)))) (i : ℕ) (item : Option (List (List ℕ))) (path copy : List (List ℕ))
    → item ≡ value_at values i → item ≡ Some path
    → ◌≡◌ {A = Result (List (List ℕ)) TreeFault} (Ok path) (Ok copy) → value_at values i ≡ Some copy
copied_at values i item path copy read some same = let e : path ≡ copy = cc in sym read ∙ some ∙ ap (λ (p : List (List ℕ)). Some p) e

pub loop-dest-preserved-in_default : goal.loop-dest-preserved-in_default
loop-dest-preserved-in_default c =
    let none : value_at c.args.dests.now c.loop-dest.dest-index ≡ None =
    sym (get_or_read c.args.dests.now c.loop-dest.dest-index c.dest-item.result c.loop-dest-test.true c.dest-item.is None) ∙ c.in_default.is in
    record {
      seen = seen_skip c.args.dests.now c.loop-dest.dest-index (contains path_cmp c.loop-dest.seen) none c.loop-dest.invariant.seen;
      apart = apart_skip c.args.dests.now c.loop-dest.dest-index none c.loop-dest.invariant.apart;
    }

pub returns-then-not-branch : goal.returns-then-not-branch
returns-then-not-branch c =
    let read = get_or_read c.args.dests.now c.loop-dest.dest-index c.dest-item.result c.loop-dest-test.true c.dest-item.is None in
    let here = copied_at c.args.dests.now c.loop-dest.dest-index c.dest-item.result c.in-Some.path c.in-Ok.copy read c.in-Some.is c.in-Ok.ensures in
    let held = when_not_false (contains path_cmp c.loop-dest.seen c.in-Ok.copy) (sym c.in_ok-insert.ensures.added ∙ c.if-not-branch.true) in
    false_when (already_seen c.args.dests.now c.loop-dest.dest-index c.in-Ok.copy (contains path_cmp c.loop-dest.seen) here held c.loop-dest.invariant.seen)

pub loop-dest-preserved : goal.loop-dest-preserved
loop-dest-preserved c =
    let read = get_or_read c.args.dests.now c.loop-dest.dest-index c.dest-item.result c.loop-dest-test.true c.dest-item.is None in
    let here = copied_at c.args.dests.now c.loop-dest.dest-index c.dest-item.result c.in-Some.path c.in-Ok.copy read c.in-Some.is c.in-Ok.ensures in
    let fresh = when_not_true (contains path_cmp c.loop-dest.seen c.in-Ok.copy) (sym c.in_ok-insert.ensures.added ∙ c.if-not-branch.false) in
    record {
      seen = seen_more path_cmp path_cmp-IsTotalOrder path_cmp-IsAntisymmetric c.args.dests.now c.loop-dest.dest-index c.in-Ok.copy
          (contains path_cmp c.loop-dest.seen) (contains path_cmp c.insert.new.self) here c.in_ok-insert.ensures.updates.0 c.loop-dest.invariant.seen;
      apart = apart_more c.args.dests.now c.loop-dest.dest-index
          (not_seen c.args.dests.now c.loop-dest.dest-index c.in-Ok.copy (contains path_cmp c.loop-dest.seen) here fresh
          c.loop-dest.invariant.seen) c.loop-dest.invariant.apart;
    }

pub returns : goal.returns
returns c = true_when (apart_end c.args.dests.now c.loop-dest.dest-index (let h = c.loop-dest-test.false in omega (arith, h)) c.loop-dest.invariant.apart)
