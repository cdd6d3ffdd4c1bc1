use Rattle.std.proofs.Common.{map, subst}
use Rattle.llb_model.specs.TwoCacheModels.{HoldsAs}
use Rattle.llb_model.proofs.TwoModelsLeases.{leased_holds_as}
use Rattle.llb_board.specs.WorkerModelValues.{at_of, leased_by}
use Rattle.llb_board.specs.Workers.{WorkersValue}
use Rattle.llb_board.proofs.workers.Workers.caches.Goals as goal

pub returns-clause-leased : goal.returns-clause-leased
returns-clause-leased c =
    let s = c.self.inside in
    subst (λ (v : WorkersValue). HoldsAs s.caches.out v.workers) c.self.view_is
    (leased_holds_as s.caches.out (map at_of s.seats.items) (map leased_by s.seats.items) c.self.invariant.leased)
