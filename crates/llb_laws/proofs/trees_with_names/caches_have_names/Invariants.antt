use Rattle.std.proofs.Common.{take}
use Rattle.std.specs.List.{All}
use Rattle.llb_cache.specs.declared.key.Key.{Key}
use Rattle.std.specs.Map.{keys_of}
use Rattle.llb_cache.specs.Caches.{trees_of}
use Rattle.llb_laws.specs.ContentLaws.{HasNames}
use Rattle.llb_laws.proofs.trees_with_names.caches_have_names.Given as goal

abbrev pub invariant-loop-k : goal.invariant-loop-k
invariant-loop-k l = All (λ (key : Key). All HasNames (trees_of l.caches.rows key)) (take l.k (keys_of l.caches.rows))
