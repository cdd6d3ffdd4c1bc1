use Rattle.std.proofs.Common.{◌∙◌, map, sym, ap, subst}
use Rattle.llb_board.specs.RunningWorkerSupplies.{ready_made}
use Rattle.llb_board.specs.WorkersKeptForUndo.{Back, CanPutBack, workers_before, supplies_before, rows_before, change_in}
use Rattle.llb_board.specs.WorkerModelValues.{at_of}
use Rattle.llb_board.specs.Workers.{WorkersValue}
use Rattle.llb_board.proofs.TableStepOfWorker.{seen_of}
use Rattle.llb_board.proofs.workers.Workers.put_back.Goals as goal

pub displace-requires-clause-can : goal.displace-requires-clause-can
displace-requires-clause-can c =
    let s = c.self.inside in
    subst (λ (k : Back). CanPutBack (record { back = k }) (seen_of s.seats.items s.caches.rows)) (sym c.into_back.ensures)
    (subst (CanPutBack c.args.undo) (sym c.self.view_is) c.requires)

pub returns-clause-workers : goal.returns-clause-workers
returns-clause-workers c =
    c.displace.ensures.workers ∙ ap (λ (k : Back). workers_before k (map at_of c.self.inside.seats.items)) c.into_back.ensures
    ∙ ap (λ (v : WorkersValue). workers_before c.args.undo.back v.workers) c.self.view_is

pub returns-clause-rows : goal.returns-clause-rows
returns-clause-rows c =
    c.displace.ensures.rows ∙ ap (λ (k : Back). rows_before k (map at_of c.self.inside.seats.items) c.self.inside.caches.rows) c.into_back.ensures
    ∙ ap (λ (v : WorkersValue). rows_before c.args.undo.back v.workers v.rows) c.self.view_is

pub returns-clause-supplies : goal.returns-clause-supplies
returns-clause-supplies c =
    c.displace.ensures.made ∙ ap (λ (k : Back). supplies_before k (map ready_made c.self.inside.seats.items)) c.into_back.ensures
    ∙ ap (λ (v : WorkersValue). supplies_before c.args.undo.back v.supplies) c.self.view_is

pub returns-clause-change : goal.returns-clause-change
returns-clause-change c = c.displace.ensures.change ∙ ap change_in c.into_back.ensures
