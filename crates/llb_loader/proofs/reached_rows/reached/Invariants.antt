use Rattle.std.proofs.Common.{◌≡◌, ◌+◌, length}
use Rattle.llb_loader.specs.ReachedRows.{lists}
use Rattle.llb_loader.proofs.RowReadsAndMarks.{unmarked}
use Rattle.llb_loader.proofs.ReachabilitySearch.{IsSearching, IsAtRow, NoRow}
use Rattle.llb_loader.proofs.reached_rows.reached.Given as goal

abbrev pub invariant-loop-input : goal.invariant-loop-input
invariant-loop-input l =
    IsAtRow (lists l.rows) l.start (length l.rows) l.row l.named l.seen.items l.open.items l.input-index
    (unmarked l.initial.seen.items + length l.initial.open.items)

abbrev pub invariant-loop-row : goal.invariant-loop-row
invariant-loop-row l = record {
  len : length l.seen.items ≡ length l.rows;
  holds : IsSearching (lists l.rows) l.start l.seen.items l.open.items NoRow;
}

abbrev pub decreases-loop-row : goal.decreases-loop-row
decreases-loop-row l = unmarked l.seen.items + length l.open.items
