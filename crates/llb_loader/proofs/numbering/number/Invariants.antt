use Rattle.std.proofs.Common.{◌≡◌, ◌+◌, ◌≤◌, length, vec_len}
use Rattle.std.specs.List.{Contains}
use Rattle.std.specs.Ordering.{nat_cmp}
use Rattle.std.specs.BTreeSet.{contains}
use Rattle.llb_loader.specs.declared.numbering.Waiter.{Waiter}
use Rattle.llb_loader.specs.ReachedRows.{lists}
use Rattle.llb_loader.proofs.RowReadsAndMarks.{unmarked}
use Rattle.llb_loader.proofs.ReachabilitySearch.{NoRow}
use Rattle.llb_loader.proofs.NumberingSteps.{IsPlaced, IsPending, IsOrder, WokenFrom}
use Rattle.llb_loader.proofs.numbering.number.Given as goal

abbrev pub invariant-placing : goal.invariant-placing
invariant-placing l = record {
  len_waiting : vec_len l.waiting ≡ length l.rows;
  placed : IsPlaced (lists l.rows) l.start l.done.items (contains nat_cmp l.ready) (lists l.waiting.items) (λ k. l.row ≤ k);
}

abbrev pub invariant-turns : goal.invariant-turns
invariant-turns l = record {
  len_done : length l.done.items ≡ length l.rows;
  len_waiting : vec_len l.waiting ≡ length l.rows;
  placed : IsPlaced (lists l.rows) l.start l.done.items (contains nat_cmp l.ready) (lists l.waiting.items) NoRow;
  order : IsOrder (lists l.rows) l.start l.done.items l.order.items;
  counted : length l.order.items + unmarked l.done.items ≡ length l.rows;
}

abbrev pub invariant-woken : goal.invariant-woken
invariant-woken l = record {
  len_waiting : vec_len l.waiting ≡ length l.rows;
  pending : (w : Waiter) → Contains l.waiter-items w → IsPending (lists l.rows) l.start l.done.items w;
  placed : IsPlaced (lists l.rows) l.start l.done.items (contains nat_cmp l.ready) (lists l.waiting.items) (WokenFrom l.waiter-items l.waiter-index);
}

abbrev pub decreases-turns : goal.decreases-turns
decreases-turns l = unmarked l.done.items
