use Rattle.std.proofs.Common.{take}
use Rattle.std.specs.List.{All}
use Rattle.llb_cache.specs.Caches.{trees_of}
use Rattle.llb_laws.specs.ContentLaws.{HasNames}
use Rattle.llb_laws.proofs.trees_with_names.key_has_names.Given as goal

abbrev pub invariant-loop-number : goal.invariant-loop-number
invariant-loop-number l = All HasNames (take l.number (trees_of l.caches.rows l.key))
