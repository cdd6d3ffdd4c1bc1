use Rattle.std.proofs.Common.{◌≡◌, ◌∙◌, Some, List, sym, ap, subst, rules}
use Rattle.std.specs.Prelude.{slice_get}
use Rattle.llb_model.specs.Caches.{Instance, trees_at}
use Rattle.llb_model.specs.TwoCacheModels.{store_of}
use Rattle.llb_board.specs.WorkersKeptForUndo.{Unstep, MarksStep}
use Rattle.llb_board.specs.Workers.{WorkersValue, Fits}
use Rattle.llb_board.specs.declared.workers.running_workers.Seat.TheVariants as seat
use Rattle.llb_board.proofs.WorkersBeforeEvents.{marks_step}
use Rattle.llb_board.proofs.workers.Workers.before_step.Goals as goal

pub returns-in_ok-trees-in-Some-Runs-clause-marks : goal.returns-in_ok-trees-in-Some-Runs-clause-marks
returns-in_ok-trees-in-Some-Runs-clause-marks c =
    let b = c.self.inside in
    let vs = c.args.vertices.now in
    let l = c.in-Some-Runs.field-0-0 in
    let x = c.in-Some-Runs.execution in
    let saved = c.in_ok-saved-in-Some-Runs.saved in
    let trees = c.in_ok-trees-in-Some-Runs.trees.items in
    let there : slice_get b.seats.items c.args.w ≡ Some (seat.Runs l x) = search rules in
    subst (λ (s : WorkersValue). MarksStep vs s c.args.w (record { back = Unstep c.args.w saved trees })) c.self.view_is
    (marks_step vs b.seats.items b.caches.rows c.args.w l x (subst (Fits vs.build) (sym c.self.view_is) c.requires) there saved trees
    c.in_ok-saved-in-Some-Runs.ensures.is
    (c.in_ok-trees-in-Some-Runs.ensures ∙ ap (λ (ps : List Instance). trees_at (store_of b.caches.rows) ps) c.deref-in-Some-Runs.ensures.value))
