use Rattle.std.proofs.Common.{◌≡◌, ◌∙◌, ◌<◌, Option, length, ap, sym, subst, rules}
use Rattle.std.specs.Prelude.{Some, OnOk, slice_get, slice_set}
use Rattle.std.proofs.lemmas.Option.{slice_get-get_or}
use Rattle.llb_wire.specs.CallResults.{MemoryLast}
use Rattle.llb_model.specs.Table.{HasStepped}
use Rattle.llb_model.specs.State.{WorkerStatus}
use Rattle.llb_model.specs.Table.{stepped}
use Rattle.llb_model.specs.TwoCacheModels.{rows_after}
use Rattle.llb_events.specs.Faults.{step_memory, GivesStep}
use Rattle.llb_board.specs.WorkerModelValues.{at_of}
use Rattle.llb_board.specs.Workers.{WorkersValue, Fits, state_in, step_in}
use Rattle.llb_board.specs.declared.workers.running_workers.Seat.TheVariants as seat
use Rattle.llb_board.proofs.SuppliesAtStartAndEnd.{made_enough}
use Rattle.llb_board.proofs.Lists.{get_map}
use Rattle.llb_board.proofs.MicroStepsOnLeases.{holding}
use Rattle.llb_board.proofs.TableStepOfWorker.{seen_of, step_gives, step_last, step_rows, step_crew, step_fits}
use Rattle.llb_board.proofs.workers.Workers.step.Goals as goal

pub micro_step-requires-clause-supplies : goal.micro_step-requires-clause-supplies
micro_step-requires-clause-supplies c =
    let ds = c.self.inside.seats.items in
    let low : c.args.w < length ds = search rules in
    let at : slice_get ds c.args.w ≡ Some (seat.Runs c.in-Runs.lease c.in-Runs.execution)
    = slice_get-get_or ds c.args.w c.index_mut.result.now low ∙ ap (λ d. Some d) (sym c.index_mut.ensures.value ∙ c.in-Runs.is) in
    made_enough c.args.vertices.now.build ds c.args.w c.in-Runs.lease c.in-Runs.execution
    (subst (Fits c.args.vertices.now.build) (sym c.self.view_is) c.requires) at

pub micro_step-requires-clause-leased : goal.micro_step-requires-clause-leased
micro_step-requires-clause-leased c =
    let s = c.self.inside in
    let ds = s.seats.items in
    let low : c.args.w < length ds = search rules in
    let at : slice_get ds c.args.w ≡ Some (seat.Runs c.in-Runs.lease c.in-Runs.execution)
    = slice_get-get_or ds c.args.w c.index_mut.result.now low ∙ ap (λ d. Some d) (sym c.index_mut.ensures.value ∙ c.in-Runs.is) in
    (holding s.caches.rows s.caches.out ds c.args.w c.in-Runs.lease c.in-Runs.execution c.is_exclusive.ensures.apart c.is_exclusive.ensures.there
    c.self.invariant.leased at).has

pub invariant_of-self-in-Runs : goal.invariant_of-self-in-Runs
invariant_of-self-in-Runs c =
    let s = c.self.inside in
    let ds = s.seats.items in
    let low : c.args.w < length ds = search rules in
    let at : slice_get ds c.args.w ≡ Some (seat.Runs c.in-Runs.lease c.in-Runs.execution)
    = slice_get-get_or ds c.args.w c.index_mut.result.now low ∙ ap (λ d. Some d) (sym c.index_mut.ensures.value ∙ c.in-Runs.is) in
    step_crew c.args.vertices.now ds s.caches.rows s.caches.out c.args.w c.in-Runs.lease c.in-Runs.execution c.self.invariant
    c.is_exclusive.ensures.apart c.is_exclusive.ensures.there at c.micro_step.new.execution c.micro_step.new.caches.out c.micro_step.ensures.out
    c.micro_step.ensures.places

pub returns-in-Idle-clause-gives : goal.returns-in-Idle-clause-gives
returns-in-Idle-clause-gives c =
    let s = c.self.inside in
    let ds = s.seats.items in
    let vs = c.args.vertices.now in
    let low : c.args.w < length ds = search rules in
    let at : slice_get ds c.args.w ≡ Some seat.Idle
    = slice_get-get_or ds c.args.w c.index_mut.result.now low ∙ ap (λ d. Some d) (sym c.index_mut.ensures.value ∙ c.in-Idle.is) in
    λ known. ap (λ (v : WorkersValue). step_in vs v c.args.w) (sym c.self.view_is)
    ∙ ap (λ (o : Option WorkerStatus). (stepped vs.build (state_in vs (seen_of ds s.caches.rows)) c.args.w o))
    (get_map at_of ds c.args.w seat.Idle at)

pub returns-in-Runs-clause-gives : goal.returns-in-Runs-clause-gives
returns-in-Runs-clause-gives c =
    let s = c.self.inside in
    let ds = s.seats.items in
    let vs = c.args.vertices.now in
    let l = c.in-Runs.lease in
    let y = c.micro_step.new.execution in
    let after = c.micro_step.new.caches.rows in
    let low : c.args.w < length ds = search rules in
    let at : slice_get ds c.args.w ≡ Some (seat.Runs l c.in-Runs.execution)
    = slice_get-get_or ds c.args.w c.index_mut.result.now low ∙ ap (λ d. Some d) (sym c.index_mut.ensures.value ∙ c.in-Runs.is) in
    subst (λ (v : WorkersValue). GivesStep (λ r. (state_in vs (seen_of (slice_set ds c.args.w (seat.Runs l y)) after), HasStepped r)) c.micro_step.result
    (step_in vs v c.args.w)) c.self.view_is
    (step_gives vs ds s.caches.rows s.caches.out c.args.w l c.in-Runs.execution c.self.invariant c.is_exclusive.ensures.apart
    c.is_exclusive.ensures.there at c.micro_step.result y after c.micro_step.ensures.gives)

pub returns-in-Runs-clause-last : goal.returns-in-Runs-clause-last
returns-in-Runs-clause-last c =
    let s = c.self.inside in
    let ds = s.seats.items in
    let vs = c.args.vertices.now in
    let low : c.args.w < length ds = search rules in
    let at : slice_get ds c.args.w ≡ Some (seat.Runs c.in-Runs.lease c.in-Runs.execution)
    = slice_get-get_or ds c.args.w c.index_mut.result.now low ∙ ap (λ d. Some d) (sym c.index_mut.ensures.value ∙ c.in-Runs.is) in
    subst (λ (v : WorkersValue). MemoryLast step_memory c.micro_step.result (step_in vs v c.args.w)) c.self.view_is
    (step_last vs ds s.caches.rows s.caches.out c.args.w c.in-Runs.lease c.in-Runs.execution c.self.invariant c.is_exclusive.ensures.apart
    c.is_exclusive.ensures.there at c.micro_step.result c.micro_step.ensures.last)

pub returns-in-Runs-clause-rows : goal.returns-in-Runs-clause-rows
returns-in-Runs-clause-rows c =
    let s = c.self.inside in
    let ds = s.seats.items in
    let vs = c.args.vertices.now in
    let l = c.in-Runs.lease in
    let y = c.micro_step.new.execution in
    let after = c.micro_step.new.caches.rows in
    let low : c.args.w < length ds = search rules in
    let at : slice_get ds c.args.w ≡ Some (seat.Runs l c.in-Runs.execution)
    = slice_get-get_or ds c.args.w c.index_mut.result.now low ∙ ap (λ d. Some d) (sym c.index_mut.ensures.value ∙ c.in-Runs.is) in
    let seen = seen_of (slice_set ds c.args.w (seat.Runs l y)) after in
    subst (λ (v : WorkersValue). OnOk c.micro_step.result (after ≡ rows_after v.rows (state_in vs seen) c.args.w)) c.self.view_is
    (step_rows vs ds s.caches.rows s.caches.out c.args.w l c.in-Runs.execution c.self.invariant c.is_exclusive.ensures.apart
    c.is_exclusive.ensures.there at c.micro_step.result y after c.micro_step.ensures.gives)

pub returns-in-Runs-clause-fits : goal.returns-in-Runs-clause-fits
returns-in-Runs-clause-fits c =
    let s = c.self.inside in
    let ds = s.seats.items in
    let vs = c.args.vertices.now in
    let low : c.args.w < length ds = search rules in
    let at : slice_get ds c.args.w ≡ Some (seat.Runs c.in-Runs.lease c.in-Runs.execution)
    = slice_get-get_or ds c.args.w c.index_mut.result.now low ∙ ap (λ d. Some d) (sym c.index_mut.ensures.value ∙ c.in-Runs.is) in
    step_fits vs ds s.caches.rows s.caches.out c.args.w c.in-Runs.lease c.in-Runs.execution c.self.invariant c.is_exclusive.ensures.apart
    c.is_exclusive.ensures.there at c.micro_step.result c.micro_step.new.execution c.micro_step.new.caches.rows c.micro_step.ensures.supplies
    c.micro_step.ensures.gives (subst (Fits vs.build) (sym c.self.view_is) c.requires)
