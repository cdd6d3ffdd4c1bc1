use Rattle.std.proofs.Common.{◌≡◌, length, arith}
use Rattle.std.specs.List.{All}
use Rattle.std.specs.Map.{keys_of}
use Rattle.std.proofs.lemmas.List.{length-map}
use Rattle.llb_cache.specs.declared.key.Key.{Key}
use Rattle.llb_cache.specs.Caches.{Row, trees_of}
use Rattle.llb_laws.specs.ContentLaws.{HasNames}
use Rattle.llb_laws.proofs.CacheRowWalks.{all_next, all_walked, each_instance}
use Rattle.llb_laws.proofs.trees_with_names.caches_have_names.Goals as goal

pub loop-k-preserved : goal.loop-k-preserved
loop-k-preserved c =
    let rows = c.args.caches.now.rows in
    all_next (λ (key : Key). All HasNames (trees_of rows key)) (keys_of rows) c.loop-k.k c.loop-k.invariant c.row_has_names.ensures

pub returns : goal.returns
returns c =
    let rows = c.args.caches.now.rows in
    let keys : length (keys_of rows) ≡ length rows = length-map rows (λ (r : Row). r.0) in
    each_instance HasNames rows
    (all_walked (λ (key : Key). All HasNames (trees_of rows key)) (keys_of rows) c.loop-k.k (omega (arith, keys, c.loop-k-test.false, c.keys-k-end.ensures))
    c.loop-k.invariant)
