use Rattle.std.proofs.Common.{◌≡◌, take}
use Rattle.llb_loader.specs.RowsWithoutBytes.{titles_from}
use Rattle.llb_loader.proofs.loading.titles_of.Given as goal

abbrev pub invariant-loop-bytes : goal.invariant-loop-bytes
invariant-loop-bytes l = l.rows.items ≡ titles_from (take l.bytes-index l.entries)
