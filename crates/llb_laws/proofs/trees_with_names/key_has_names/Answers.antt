use Rattle.std.proofs.Common.{arith}
use Rattle.llb_cache.specs.Caches.{trees_of}
use Rattle.llb_laws.specs.ContentLaws.{HasNames}
use Rattle.llb_laws.proofs.CacheRowWalks.{all_next, all_walked}
use Rattle.llb_laws.proofs.trees_with_names.key_has_names.Goals as goal

pub loop-number-preserved : goal.loop-number-preserved
loop-number-preserved c =
    all_next HasNames (trees_of c.args.caches.now.rows c.args.key.now) c.loop-number.number c.loop-number.invariant c.instance_has_names.ensures

pub returns : goal.returns
returns c =
    all_walked HasNames (trees_of c.args.caches.now.rows c.args.key.now) c.loop-number.number
    (omega (arith, c.loop-number-test.false, c.instances-number-end.ensures)) c.loop-number.invariant
