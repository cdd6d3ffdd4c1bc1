use Rattle.std.proofs.Common.{◌≡◌, ℕ, ◌<◌, true, None, get_or, is_some}
use Rattle.llb_cache.proofs.instance_search.free_lease.Given as goal

abbrev pub invariant-loop-i : goal.invariant-loop-i
invariant-loop-i l = (k : ℕ) → k < l.i → is_some (get_or l.out k None) ≡ true
