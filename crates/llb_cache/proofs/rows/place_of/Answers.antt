use Rattle.std.proofs.Common.{◌≡◌, ◌<◌, ◌+◌, ◌-◌, ◌/◌, ℕ, length, sym, ap, ◌∙◌, arith}
use Rattle.std.proofs.lemmas.List.{get_or_default}
use Rattle.llb_cache.specs.RowOrder.{is_before, row_at}
use Rattle.llb_cache.proofs.RowSearchStep.{all_before, none_behind}
use Rattle.llb_cache.proofs.rows.place_of.Goals as goal
use Rattle.llb_cache.proofs.rows.place_of.Goals.{After-comes_before}

-- the place that is looked at
abbrev middle : After-comes_before → ℕ
middle c = c.loop-low.low + (c.loop-low.high - c.loop-low.low) / 2

within : (c : After-comes_before) → middle c < length c.args.rows.now.order.items
within c = omega (arith, c.loop-low-test.true, c.loop-low.invariant.high)

looked : (c : After-comes_before)
    → is_before c.args.rows.now.entries.items (row_at c.args.rows.now.order.items (middle c)) c.args.key.now ≡ c.comes_before.result
looked c =
    ap (λ n. is_before c.args.rows.now.entries.items n c.args.key.now)
    (sym (c.index.ensures ∙ get_or_default c.args.rows.now.order.items (middle c) c.index.result.now 0 (within c))) ∙ sym c.comes_before.ensures

pub loop-low-preserved-then-comes_before : goal.loop-low-preserved-then-comes_before
loop-low-preserved-then-comes_before c =
    let s = (goal.at.loop-low-preserved-then-comes_before c).After-comes_before in
    record {
      low = omega (arith, c.loop-low-test.true);
      high = c.loop-low.invariant.high;
      before = all_before c.args.rows.now.entries.items c.args.rows.now.order.items c.args.key.now (middle s) c.requires (within s)
          (looked s ∙ c.if-comes_before.true);
      behind = c.loop-low.invariant.behind;
    }

pub loop-low-preserved : goal.loop-low-preserved
loop-low-preserved c =
    let s = (goal.at.loop-low-preserved c).After-comes_before in
    record {
      low = omega (arith, c.loop-low.invariant.low);
      high = omega (arith, c.loop-low.invariant.low, c.loop-low.invariant.high);
      before = c.loop-low.invariant.before;
      behind = none_behind c.args.rows.now.entries.items c.args.rows.now.order.items c.args.key.now (middle s) c.requires
          (looked s ∙ c.if-comes_before.false);
    }
