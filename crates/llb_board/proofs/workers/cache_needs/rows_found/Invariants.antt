use Rattle.std.proofs.Common.{◌≡◌, map, take}
use Rattle.llb_board.specs.CacheNeeds.{row_found}
use Rattle.llb_board.proofs.workers.cache_needs.rows_found.Given as goal

abbrev pub invariant-loop-want : goal.invariant-loop-want
invariant-loop-want l = l.rows.items ≡ map row_found (take l.want-index l.wanted)
