use Rattle.std.proofs.Common.{◌≡◌, Err, sym, ap, ◌∙◌}
use Rattle.llb_board.specs.UndoableEvents.{walk_of}
use Rattle.llb_laws.specs.TwoRuns.{board_by}
use Rattle.llb_laws.proofs.two_runs.go.Goals as goal

pub returns-in-Ok : goal.returns-in-Ok
returns-in-Ok c = sym (ap (board_by c.args.board.now) c.in-Ok.ensures.gives)

pub returns : goal.returns
returns c =
    let refused : walk_of c.args.board.now c.args.event.now ≡ Err c.in-Err.fault = c.in-Err.ensures.gives c.in_ok-unless_memory-in-Err.ensures in
    c.in-Err.ensures.err ∙ sym (ap (board_by c.args.board.now) refused)
