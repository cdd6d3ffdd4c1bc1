use Rattle.std.proofs.Common.{◌≡◌, ◌≤◌, count_by, is_some, take}
use Rattle.llb_cache.proofs.instance_search.count.Given as goal

abbrev pub invariant-loop-lease : goal.invariant-loop-lease
invariant-loop-lease l = record { counted : l.count ≡ count_by is_some (take l.lease-index l.out); small : l.count ≤ l.lease-index }
