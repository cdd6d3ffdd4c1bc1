use Rattle.std.proofs.Common.{◌≢◌, take, AllPairs}
use Rattle.llb_cache.proofs.instance_search.keys_differ.Given as goal

abbrev pub invariant-loop-i : goal.invariant-loop-i
invariant-loop-i l = AllPairs (λ n m. n.key ≢ m.key) (take l.i l.needs)
