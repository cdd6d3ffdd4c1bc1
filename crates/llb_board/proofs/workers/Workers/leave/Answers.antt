use Rattle.std.proofs.Common.{◌≡◌, ◌∙◌, ◌<◌, List, length, map, sym, ap, subst, rules}
use Rattle.std.specs.Prelude.{Some, true, is_some, nat_le, ◌||◌, option_map, replicate, slice_get, slice_set}
use Rattle.std.proofs.lemmas.Option.{slice_get-get_or}
use Rattle.llb_cache.specs.Caches.{CachesValue}
use Rattle.llb_tree.specs.Tree.{empty_tree}
use Rattle.llb_model.specs.Program.{program_at}
use Rattle.llb_model.specs.State.{Idle, program_in, is_finished}
use Rattle.llb_board.specs.RunningWorkerSupplies.{ready_made, needed}
use Rattle.llb_board.specs.WorkerRules.{left_at}
use Rattle.llb_board.specs.Vertices.{status_of, IsWhole}
use Rattle.llb_board.specs.WorkerModelValues.{IsRunning, at_of, execution_of}
use Rattle.llb_board.specs.Workers.{WorkersValue, Fits}
use Rattle.llb_board.specs.declared.workers.running_workers.Seat.{Seat}
use Rattle.llb_board.specs.declared.workers.running_workers.Seat.TheVariants as seat
use Rattle.llb_board.proofs.RunningWorkersAndLeases.{Crew, crew_idle, crew_out, whole_end}
use Rattle.llb_board.proofs.SuppliesAtStartAndEnd.{all_empty, leaves, supplies_settled}
use Rattle.llb_board.proofs.Lists.{map_set}
use Rattle.llb_board.proofs.workers.Workers.leave.Goals as goal

pub vacate-lease-requires-clause-runs : goal.vacate-lease-requires-clause-runs
vacate-lease-requires-clause-runs c =
    let ds = c.self.inside.seats.items in
    let low : c.args.w < length ds = search rules in
    subst IsRunning (sym (slice_get-get_or ds c.args.w c.index.result.now low ∙ ap (λ d. Some d) (sym c.index.ensures ∙ c.in-Runs.is))) tt

pub give_back-requires : goal.give_back-requires
give_back-requires c =
    let s = c.self.inside in
    crew_out s.seats.items c.args.w c.vacate-lease.result.0 c.vacate-lease.result.1 s.caches.out c.self.invariant c.vacate-lease.ensures.ran

pub end-requires : goal.end-requires
end-requires c =
    let b = c.args.vertices.now.build in
    all_empty b c.self.inside.seats.items c.args.w c.vacate-lease.result.0 c.vacate-lease.result.1 (subst (Fits b) (sym c.self.view_is) c.requires)
    c.vacate-lease.ensures.ran
    ∙ ap (λ o. replicate (program_at o).outputs empty_tree) (sym c.vertex.ensures.there)

pub invariant_of-self : goal.invariant_of-self
invariant_of-self c =
    let s = c.self.inside in
    let ds = s.seats.items in
    subst (λ (l : List Seat). Crew l c.give_back.new.caches.out) (sym c.vacate-lease.ensures.idle)
    (subst (λ (v : CachesValue). Crew (slice_set ds c.args.w seat.Idle) v.out) (sym c.give_back.ensures)
    (crew_idle ds c.args.w c.vacate-lease.result.0 c.vacate-lease.result.1 s.caches c.self.invariant c.vacate-lease.ensures.ran))

pub returns-clause-gives : goal.returns-clause-gives
returns-clause-gives c =
    let ds = c.self.inside.seats.items in
    let low : c.args.w < length ds = search rules in
    let b = c.args.vertices.now.build in
    let x = c.in-Runs.execution in
    let looked : slice_get ds c.args.w ≡ Some (seat.Runs c.in-Runs.field-0 x)
    = slice_get-get_or ds c.args.w c.index.result.now low ∙ ap (λ d. Some d) (sym c.index.ensures ∙ c.in-Runs.is) in
    let finished : is_finished (program_in b (execution_of x)).steps (execution_of x) ≡ true
    = ap (λ n. is_some x.fault || nat_le n x.done) (sym c.steps.ensures.all) ∙ sym c.is_finished.ensures ∙ c.if-not-is_finished.false in
    ap (λ (v : WorkersValue). left_at b (slice_get v.workers c.args.w)) (sym c.self.view_is)
    ∙ leaves b ds c.args.w c.in-Runs.field-0 c.vacate-lease.result.0 x c.vacate-lease.result.1 (option_map (λ v. v.now) c.vertex.result)
    (status_of c.end.result) looked c.vacate-lease.ensures.ran finished c.vertex.ensures.there c.end.ensures

pub returns-clause-whole : goal.returns-clause-whole
returns-clause-whole c =
    let x = c.vacate-lease.result.1 in
    subst (λ o. IsWhole o (status_of c.end.result)) c.vertex.ensures.there
    (whole_end (option_map (λ v. v.now) c.vertex.result) x.view x.fault (status_of c.end.result) c.end.ensures)

pub returns-clause-idle : goal.returns-clause-idle
returns-clause-idle c =
    ap (map at_of) c.vacate-lease.ensures.idle ∙ map_set at_of c.self.inside.seats.items c.args.w seat.Idle
    ∙ ap (λ (v : WorkersValue). slice_set v.workers c.args.w Idle) c.self.view_is

pub returns-clause-fits : goal.returns-clause-fits
returns-clause-fits c =
    let b = c.args.vertices.now.build in
    subst (λ (l : List Seat). map ready_made l ≡ map (needed b) (map at_of l)) (sym c.vacate-lease.ensures.idle)
    (supplies_settled b c.self.inside.seats.items c.args.w (subst (Fits b) (sym c.self.view_is) c.requires))
