use Rattle.llb_plain.proofs.NoCaches.{AsCache}
use Rattle.llb_plain.proofs.first_cache_vertex.first_with_cache.Given as goal

abbrev pub invariant-loop-k : goal.invariant-loop-k
invariant-loop-k l = AsCache l.graph.vertices l.k
