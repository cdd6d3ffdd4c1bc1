use Rattle.std.proofs.Common.{◌≡◌, ◌∙◌, List, Option, map, sym, ap}
use Rattle.std.specs.Prelude.{Some, slice_get}
use Rattle.llb_model.specs.TwoCacheModels.{store_of}
use Rattle.llb_model.specs.State.{WorkerStatus, Runs, runs}
use Rattle.llb_board.specs.WorkedOnAndCachedTrees.{worked_by}
use Rattle.llb_board.specs.WorkerModelValues.{at_of, leased_by, execution_of}
use Rattle.llb_board.specs.Workers.{WorkersValue}
use Rattle.llb_board.specs.declared.workers.running_workers.Seat.{Seat}
use Rattle.llb_board.proofs.MicroStepsOnLeases.{held_within}
use Rattle.llb_board.proofs.workers.Workers.worked_on.Goals as goal

pub tree_in-requires : goal.tree_in-requires
tree_in-requires c =
    let s = c.self.inside in
    let x = execution_of c.in-Some-Runs.execution in
    let at : slice_get (map at_of s.seats.items) c.args.w ≡ Some (Runs x)
    = ap (λ (ds : List Seat). slice_get (map at_of ds) c.args.w) (sym c.deref.ensures.value) ∙ sym c.in-Some-Runs.ensures.does
    ∙ ap (λ d. Some (at_of d)) c.in-Some-Runs.field-0-is in
    held_within s.caches.rows s.caches.out (slice_get (map leased_by s.seats.items) c.args.w) x.places c.is_exclusive.ensures.there
    (c.self.invariant.leased.has c.args.w x at)

pub returns-in-Some-Runs : goal.returns-in-Some-Runs
returns-in-Some-Runs c =
    let s = c.self.inside in
    let x = execution_of c.in-Some-Runs.execution in
    let at : slice_get (map at_of s.seats.items) c.args.w ≡ Some (Runs x)
    = ap (λ (ds : List Seat). slice_get (map at_of ds) c.args.w) (sym c.deref.ensures.value) ∙ sym c.in-Some-Runs.ensures.does
    ∙ ap (λ d. Some (at_of d)) c.in-Some-Runs.field-0-is in
    c.tree_in.ensures
    ∙ ap (λ (o : Option WorkerStatus). slice_get (worked_by (store_of s.caches.rows) (runs o)) c.args.i) (sym at)
    ∙ ap (λ (v : WorkersValue). slice_get (worked_by (store_of v.rows) (runs (slice_get v.workers c.args.w))) c.args.i) c.self.view_is
