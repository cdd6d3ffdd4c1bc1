use Rattle.std.proofs.Common.{rules, ◌≡◌, ℕ, ◌<◌, Bool, true, ◌∷◌, ◌++◌, set, length, get_or, false, List, [], arith, ap, sym, ◌∙◌, subst, refl}
use Rattle.std.proofs.lemmas.List.{get_or_read, nil_from_length, length-set, length_push}
use Rattle.std.proofs.lemmas.List.Elements.{All-from_get_or}
use Rattle.std.specs.Global.{Vec}
use Rattle.llb_loader.specs.WaitingRows.{IsMarked}
use Rattle.llb_loader.specs.ReachedRows.{lists}
use Rattle.llb_loader.proofs.RowReadsAndMarks.{inputs_at}
use Rattle.llb_loader.proofs.ReachabilitySearch.{IsSearching, NoRow, searching_start, at_row_mark, at_row_skip, at_row_below, searching_pop}
use Rattle.llb_loader.proofs.ReachabilitySearch.{searching_leave, searching_whole, popped_marked, popped_below}
use Rattle.llb_loader.proofs.reached_rows.reached.Goals as goal
use Rattle.llb_loader.proofs.reached_rows.reached.Goals.{then-not-index+in_ok-push-2, else-not-index}

pub bounds-rows-row : goal.bounds-rows-row
bounds-rows-row c = popped_below _ _ _ _ _ _ _ c.in-Some.ensures.items c.loop-row.invariant.holds c.loop-row.invariant.len

pub offset_bounds-rows-row : goal.offset_bounds-rows-row
offset_bounds-rows-row c =
    let k : c.in-Some.row < length c.args.rows.now = popped_below _ _ _ _ _ _ _ c.in-Some.ensures.items c.loop-row.invariant.holds c.loop-row.invariant.len in
    search rules

pub loop-input-init : goal.loop-input-init
loop-input-init c =
    let k : c.in-Some.row < length c.args.rows.now = popped_below _ _ _ _ _ _ _ c.in-Some.ensures.items c.loop-row.invariant.holds c.loop-row.invariant.len in
    record {
      len = c.loop-row.invariant.len;
      holds = searching_pop _ _ _ _ _ _ c.in-Some.ensures.items c.loop-row.invariant.holds;
      at_row = c.loop-row.invariant.holds.sound c.in-Some.row (popped_marked _ _ _ _ _ _ c.in-Some.ensures.items c.loop-row.invariant.holds);
      names = c.as_slice-named.ensures.value ∙ sym (inputs_at c.args.rows.now c.in-Some.row c.index-rows-row.result k c.index-rows-row.is);
      passed = λ i l. absurd (omega arith);
      left = refl;
    }

pub loop-row-preserved : goal.loop-row-preserved
loop-row-preserved c =
    record {
      len = c.loop-input.invariant.len;
      holds = searching_leave _ _ _ _ _
          (rw (← c.loop-input.invariant.names) (All-from_get_or (IsMarked c.loop-input.seen.items) _ 0 (λ i h. c.loop-input.invariant.passed i (omega arith))))
          c.loop-input.invariant.holds;
    }

pub loop-input-preserved : goal.loop-input-preserved
loop-input-preserved c = elim c.if-not-index.branch [
  | then-not-index+in_ok-push-2 w ↦ (
      let pushed = ap (λ (v : Vec ℕ). v.items) w.open-is ∙ w.in_ok-push-2.ensures.items in
      let fresh = sym (get_or_read c.loop-input.seen.items (get_or c.as_slice-named.result.now c.loop-input.input-index 0)
      c.index.result.now (at_row_below _ _ _ _ _ _ _ _ _ c.requires.rows c.loop-input-test.true c.loop-input.invariant) c.index.ensures
      false) ∙ w.if-not-index.true in
      rw (w.seen-is, pushed) (at_row_mark _ _ _ _ _ _ _ _ _ c.requires.rows c.loop-input-test.true fresh c.loop-input.invariant))
  | else-not-index w ↦ (
      let m = sym (get_or_read c.loop-input.seen.items (get_or c.as_slice-named.result.now c.loop-input.input-index 0) c.index.result.now
      (at_row_below _ _ _ _ _ _ _ _ _ c.requires.rows c.loop-input-test.true c.loop-input.invariant) c.index.ensures false) ∙ w.if-not-index.false in
      rw (w.seen-is, w.open-is) (at_row_skip _ _ _ _ _ _ _ _ _ m c.loop-input.invariant))
]

pub returns-clause-exact : goal.returns-clause-exact
returns-clause-exact c k =
    let e : c.loop-row.open.items ≡ [] = nil_from_length _ (omega (arith, c.in_default.ensures.cases.0)) in
    let s = subst (λ (xs : List ℕ). IsSearching (lists c.args.rows.now) c.args.start c.loop-row.seen.items xs NoRow) e c.loop-row.invariant.holds in
    (c.loop-row.invariant.holds.sound k, searching_whole _ _ _ k s)

pub loop-row-init : goal.loop-row-init
loop-row-init c =
    let all = c.in_ok-seen.ensures.items_if_clones_equal (λ y e. e) in
    let pushed : c.push.new.self.items ≡ c.args.start ∷ [] = c.in_ok-push.ensures.items
    ∙ ap (λ (xs : List ℕ). xs ++ c.args.start ∷ []) c.new-open.ensures.items in
    let marked = length-set c.in_ok-seen.seen.items c.args.start true in
    record {
      len = omega (arith, marked, c.in_ok-seen.ensures.len);
      holds = subst (λ (xs : List ℕ). IsSearching (lists c.args.rows.now) c.args.start (set c.in_ok-seen.seen.items c.args.start true) xs NoRow) (sym pushed)
          (subst (λ (marks : List Bool). IsSearching (lists c.args.rows.now) c.args.start (set marks c.args.start true) (c.args.start ∷ []) NoRow) (sym all)
          (searching_start (lists c.args.rows.now) c.args.start (length c.args.rows.now) c.requires.start));
    }

pub index-requires : goal.index-requires
index-requires c = let l = at_row_below _ _ _ _ _ _ _ _ _ c.requires.rows c.loop-input-test.true c.loop-input.invariant in omega (arith, l)

pub index_mut-requires-then-not-index : goal.index_mut-requires-then-not-index
index_mut-requires-then-not-index c = let l = at_row_below _ _ _ _ _ _ _ _ _ c.requires.rows c.loop-input-test.true c.loop-input.invariant in omega (arith, l)

pub loop-row-smaller : goal.loop-row-smaller
loop-row-smaller c =
    let left = c.loop-input.invariant.left in
    let popped = ap (λ (xs : List ℕ). length xs) c.in-Some.ensures.items in
    let one = length_push c.pop.new.self.items c.in-Some.row in
    omega (arith, left, popped, one)
