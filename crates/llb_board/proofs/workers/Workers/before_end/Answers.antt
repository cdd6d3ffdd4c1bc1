use Rattle.std.proofs.Common.{◌≡◌, ◌+◌, ◌∙◌, Some, length, sym, subst, rules, vec_len}
use Rattle.std.specs.Prelude.{slice_get}
use Rattle.llb_board.specs.OptionalLeases.{lent_of}
use Rattle.llb_board.specs.WorkersKeptForUndo.{Resume, MarksEnd}
use Rattle.llb_board.specs.WorkerUndo.{left_in}
use Rattle.llb_board.specs.Workers.{WorkersValue, Fits}
use Rattle.llb_board.specs.declared.workers.running_workers.Seat.TheVariants as seat
use Rattle.llb_board.proofs.WorkersBeforeEvents.{marks_end}
use Rattle.llb_board.proofs.workers.Workers.before_end.Goals as goal

pub returns-in_ok-lent-in-Some-Runs-clause-marks : goal.returns-in_ok-lent-in-Some-Runs-clause-marks
returns-in_ok-lent-in-Some-Runs-clause-marks c =
    let b = c.self.inside in
    let vs = c.args.vertices.now in
    let l = c.in-Some-Runs.field-0-0 in
    let x = c.in-Some-Runs.execution in
    let left = c.in_ok-left-in-Some-Runs.left in
    let lent = c.in_ok-lent-in-Some-Runs.lent in
    let there : slice_get b.seats.items c.args.w ≡ Some (seat.Runs l x) = search rules in
    let len : vec_len b.seats ≡ length b.seats.items = search rules in
    subst (λ (s : WorkersValue). MarksEnd vs s c.args.end c.args.w (record { back = Resume c.args.end c.args.w (left_in left) lent })) c.self.view_is
    (marks_end vs b.seats.items b.caches.rows c.args.w l x (subst (Fits vs.build) (sym c.self.view_is) c.requires) there c.args.end left lent
    c.in_ok-left-in-Some-Runs.ensures
    (c.in_ok-lent-in-Some-Runs.ensures ∙ (λ i. lent_of (c.deref-in-Some-Runs.ensures.value i) ((c.len.ensures ∙ len) i + 1))))
