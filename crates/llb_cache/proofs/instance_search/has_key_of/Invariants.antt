use Rattle.std.proofs.Common.{◌≡◌, false, take}
use Rattle.std.specs.List.{list_any}
use Rattle.llb_cache.specs.Key.{same_key}
use Rattle.llb_cache.proofs.instance_search.has_key_of.Given as goal

abbrev pub invariant-loop-other : goal.invariant-loop-other
invariant-loop-other l = list_any (λ n. same_key l.need.key n.key) (take l.other-index l.needs) ≡ false
