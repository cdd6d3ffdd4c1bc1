use Rattle.std.proofs.Common.{◌≢◌, AllPairs, subst}
use Rattle.std.proofs.lemmas.Map.Made.{AllPairs-from_IsDistinct}
use Rattle.std.specs.Map.{keys_of}
use Rattle.llb_cache.specs.Caches.{CachesValue}
use Rattle.llb_cache.specs.KeyEquality.{key_test}
use Rattle.llb_cache.proofs.caches.Caches.keys_differ.Goals as goal

pub returns : goal.returns
returns c = subst (λ (v : CachesValue). AllPairs (λ k l. k ≢ l) (keys_of v.rows)) c.self.view_is
    (AllPairs-from_IsDistinct key_test (keys_of c.self.inside.rows.entries.items) c.self.invariant.1.distinct)
