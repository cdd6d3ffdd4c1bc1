use Rattle.std.proofs.Common.{◌≡◌, ◌∙◌, List, map, sym, ap, subst}
use Rattle.std.specs.Prelude.{Some, slice_get}
use Rattle.std.specs.Bool.{OnTrue, OnFalse}
use Rattle.llb_model.specs.State.{Runs}
use Rattle.llb_board.specs.WorkerModelValues.{at_of, leased_by, execution_of}
use Rattle.llb_board.specs.Workers.{WorkersValue, Fits, RunsJob}
use Rattle.llb_board.specs.declared.workers.running_workers.Seat.{Seat}
use Rattle.llb_board.specs.declared.workers.running_workers.Seat.TheVariants as seat
use Rattle.llb_board.proofs.SuppliesAtStartAndEnd.{made_enough}
use Rattle.llb_board.proofs.LandedWorkers.{run_yes, run_no}
use Rattle.llb_board.proofs.MicroStepsOnLeases.{held_within}
use Rattle.llb_board.proofs.TableStepOfWorker.{seen_of}
use Rattle.llb_board.proofs.workers.Workers.is_run_of.Goals as goal

pub is_left-requires-clause-vertex : goal.is_left-requires-clause-vertex
is_left-requires-clause-vertex c =
    let s = c.self.inside in
    let x = execution_of c.in-Some-Runs.execution in
    let runs : slice_get (map at_of s.seats.items) c.args.w ≡ Some (Runs x)
    = ap (λ (ds : List Seat). slice_get (map at_of ds) c.args.w) (sym c.deref.ensures.value) ∙ sym c.in-Some-Runs.ensures.does
    ∙ ap (λ d. Some (at_of d)) c.in-Some-Runs.field-0-is in
    c.requires.there x (ap (λ (v : WorkersValue). slice_get v.workers c.args.w) (sym c.self.view_is) ∙ runs)

pub is_left-requires-clause-supplies : goal.is_left-requires-clause-supplies
is_left-requires-clause-supplies c =
    let ds = c.self.inside.seats.items in
    let at : slice_get ds c.args.w ≡ Some (seat.Runs c.in-Some-Runs.field-0-0 c.in-Some-Runs.execution)
    = ap (λ (ds : List Seat). slice_get ds c.args.w) (sym c.deref.ensures.value) ∙ sym c.in-Some-Runs.ensures.seat
    ∙ ap (λ d. Some d) c.in-Some-Runs.field-0-is in
    made_enough c.args.vertices.now.build ds c.args.w c.in-Some-Runs.field-0-0 c.in-Some-Runs.execution
    (subst (Fits c.args.vertices.now.build) (sym c.self.view_is) c.requires.fits) at

pub is_left-requires-clause-within : goal.is_left-requires-clause-within
is_left-requires-clause-within c =
    let s = c.self.inside in
    let x = execution_of c.in-Some-Runs.execution in
    let runs : slice_get (map at_of s.seats.items) c.args.w ≡ Some (Runs x)
    = ap (λ (ds : List Seat). slice_get (map at_of ds) c.args.w) (sym c.deref.ensures.value) ∙ sym c.in-Some-Runs.ensures.does
    ∙ ap (λ d. Some (at_of d)) c.in-Some-Runs.field-0-is in
    held_within s.caches.rows s.caches.out (slice_get (map leased_by s.seats.items) c.args.w) x.places c.is_exclusive.ensures.there
    (c.self.invariant.leased.has c.args.w x runs)

pub returns-in-Some-Runs-clause-yes : goal.returns-in-Some-Runs-clause-yes
returns-in-Some-Runs-clause-yes c =
    let s = c.self.inside in
    let x = execution_of c.in-Some-Runs.execution in
    let runs : slice_get (map at_of s.seats.items) c.args.w ≡ Some (Runs x)
    = ap (λ (ds : List Seat). slice_get (map at_of ds) c.args.w) (sym c.deref.ensures.value) ∙ sym c.in-Some-Runs.ensures.does
    ∙ ap (λ d. Some (at_of d)) c.in-Some-Runs.field-0-is in
    subst (λ (v : WorkersValue). OnTrue c.is_left.result (RunsJob c.args.vertices.now v c.args.w c.args.job.now)) c.self.view_is
    (run_yes c.args.vertices.now (seen_of s.seats.items s.caches.rows) c.args.w x c.args.job.now runs c.is_left.result c.is_left.ensures)

pub returns-in-Some-Runs-clause-no : goal.returns-in-Some-Runs-clause-no
returns-in-Some-Runs-clause-no c =
    let s = c.self.inside in
    let x = execution_of c.in-Some-Runs.execution in
    let runs : slice_get (map at_of s.seats.items) c.args.w ≡ Some (Runs x)
    = ap (λ (ds : List Seat). slice_get (map at_of ds) c.args.w) (sym c.deref.ensures.value) ∙ sym c.in-Some-Runs.ensures.does
    ∙ ap (λ d. Some (at_of d)) c.in-Some-Runs.field-0-is in
    subst (λ (v : WorkersValue). OnFalse c.is_left.result (RunsJob c.args.vertices.now v c.args.w c.args.job.now → ⊥)) c.self.view_is
    (run_no c.args.vertices.now (seen_of s.seats.items s.caches.rows) c.args.w x c.args.job.now runs c.is_left.result c.is_left.ensures)
