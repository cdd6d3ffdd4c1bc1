use Rattle.std.proofs.Common.{◌≡◌, ◌<◌, length, arith, sym, ◌∙◌, inr}
use Rattle.llb_loader.specs.ReachedRows.{lists, inputs}
use Rattle.llb_loader.proofs.RowReadsAndMarks.{inputs_at}
use Rattle.llb_loader.proofs.ReachabilitySearch.{named_below}
use Rattle.llb_loader.proofs.NextWaitingRow.{goes_to_waiting}
use Rattle.llb_loader.proofs.numbering.place.Goals as goal

pub returns-clause-placed : goal.returns-clause-placed
returns-clause-placed c =
    let names : c.as_slice-named.result.now ≡ inputs (lists c.args.rows.now) c.args.waiter.row = c.as_slice-named.ensures.value
    ∙ sym (inputs_at c.args.rows.now c.args.waiter.row c.index-rows-waiter.result c.requires.row c.index-rows-waiter.is) in
    let h : c.first_open-checked.result < length c.as_slice-named.result.now = omega arith in
    let d = c.first_open-checked.ensures in
    let below = named_below _ _ _ _ _ c.requires.rows names h in
    inr (
      _,
      _,
      goes_to_waiting _ _ _ _ _ _ _ c.index_mut.result.now c.push.new.self names c.requires.checked h d.passed (d.stops h)
          (omega (arith, below, c.requires.waiting)) c.index_mut.ensures.value c.in_ok-push.ensures.items,
    )
