use Rattle.std.proofs.Common.{◌≡◌, take}
use Rattle.std.specs.List.{filter_map}
use Rattle.llb_loader.specs.RowLookup.{row_named}
use Rattle.llb_loader.proofs.row_lookup.rows_named_by.Given as goal

abbrev pub invariant-loop-input : goal.invariant-loop-input
invariant-loop-input l = l.named.items ≡ filter_map (λ i. row_named l.rows l.terminal i.digest) (take l.input-index l.input-items)
