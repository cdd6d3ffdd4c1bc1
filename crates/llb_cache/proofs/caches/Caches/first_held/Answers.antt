use Rattle.std.proofs.Common.{sym, ◌∙◌}
use Rattle.llb_cache.specs.Caches.{is_locked_and_held}
use Rattle.llb_cache.proofs.FirstMatch.{found_here}
use Rattle.llb_cache.proofs.caches.Caches.first_held.Goals as goal

pub returns-then-holds_locked-clause-found : goal.returns-then-holds_locked-clause-found
returns-then-holds_locked-clause-found c =
    sym c.loop-i.invariant
    ∙ found_here (is_locked_and_held c.args.self.now.out) c.args.needs.now c.loop-i.i c.index-needs-i.result c.loop-i-test.true c.index-needs-i.is
    (rw c.by_ref.ensures at (sym c.holds_locked.ensures ∙ c.if-holds_locked.true))
