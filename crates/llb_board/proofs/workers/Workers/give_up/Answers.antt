use Rattle.std.proofs.Common.{◌≡◌, ◌∙◌, ◌<◌, List, length, map, sym, ap, subst, rules}
use Rattle.std.specs.Prelude.{Some, slice_get, slice_set}
use Rattle.std.proofs.lemmas.Option.{slice_get-get_or}
use Rattle.llb_cache.specs.Caches.{CachesValue}
use Rattle.llb_model.specs.State.{Idle}
use Rattle.llb_board.specs.RunningWorkerSupplies.{ready_made, needed}
use Rattle.llb_board.specs.WorkerRules.{given_up_at}
use Rattle.llb_board.specs.WorkerModelValues.{IsRunning, at_of}
use Rattle.llb_board.specs.Workers.{WorkersValue, Fits}
use Rattle.llb_board.specs.declared.workers.running_workers.Seat.{Seat}
use Rattle.llb_board.specs.declared.workers.running_workers.Seat.TheVariants as seat
use Rattle.llb_board.proofs.RunningWorkersAndLeases.{Crew, crew_idle, crew_out}
use Rattle.llb_board.proofs.SuppliesAtStartAndEnd.{supplies_settled}
use Rattle.llb_board.proofs.Lists.{get_map, map_set}
use Rattle.llb_board.proofs.workers.Workers.give_up.Goals as goal

pub vacate-lease-requires-clause-runs : goal.vacate-lease-requires-clause-runs
vacate-lease-requires-clause-runs c =
    let ds = c.self.inside.seats.items in
    let low : c.args.w < length ds = search rules in
    subst IsRunning (sym (slice_get-get_or ds c.args.w c.index.result.now low ∙ ap (λ d. Some d) (sym c.index.ensures ∙ c.in-Runs.is))) tt

pub give_back-requires : goal.give_back-requires
give_back-requires c =
    let s = c.self.inside in
    crew_out s.seats.items c.args.w c.vacate-lease.result.0 c.vacate-lease.result.1 s.caches.out c.self.invariant c.vacate-lease.ensures.ran

pub invariant_of-self : goal.invariant_of-self
invariant_of-self c =
    let s = c.self.inside in
    let ds = s.seats.items in
    subst (λ (l : List Seat). Crew l c.give_back.new.caches.out) (sym c.vacate-lease.ensures.idle)
    (subst (λ (v : CachesValue). Crew (slice_set ds c.args.w seat.Idle) v.out) (sym c.give_back.ensures)
    (crew_idle ds c.args.w c.vacate-lease.result.0 c.vacate-lease.result.1 s.caches c.self.invariant c.vacate-lease.ensures.ran))

pub returns-in-Idle-clause-gives : goal.returns-in-Idle-clause-gives
returns-in-Idle-clause-gives c =
    let ds = c.self.inside.seats.items in
    let low : c.args.w < length ds = search rules in
    let at : slice_get ds c.args.w ≡ Some seat.Idle
    = slice_get-get_or ds c.args.w c.index.result.now low ∙ ap (λ d. Some d) (sym c.index.ensures ∙ c.in-Idle.is) in
    λ known. ap (λ (v : WorkersValue). given_up_at (slice_get v.workers c.args.w)) (sym c.self.view_is)
    ∙ ap given_up_at (get_map at_of ds c.args.w seat.Idle at)

pub returns-clause-gives : goal.returns-clause-gives
returns-clause-gives c =
    let ds = c.self.inside.seats.items in
    ap (λ (v : WorkersValue). given_up_at (slice_get v.workers c.args.w)) (sym c.self.view_is)
    ∙ ap given_up_at (get_map at_of ds c.args.w (seat.Runs c.vacate-lease.result.0 c.vacate-lease.result.1) c.vacate-lease.ensures.ran)

pub returns-clause-idle : goal.returns-clause-idle
returns-clause-idle c =
    ap (map at_of) c.vacate-lease.ensures.idle ∙ map_set at_of c.self.inside.seats.items c.args.w seat.Idle
    ∙ ap (λ (v : WorkersValue). slice_set v.workers c.args.w Idle) c.self.view_is

pub returns-clause-fits : goal.returns-clause-fits
returns-clause-fits c =
    λ b fits. subst (λ (l : List Seat). map ready_made l ≡ map (needed b) (map at_of l)) (sym c.vacate-lease.ensures.idle)
    (supplies_settled b c.self.inside.seats.items c.args.w (subst (Fits b) (sym c.self.view_is) fits))
