use Rattle.llb_board.proofs.RecordedRunStates.{consistent}
use Rattle.llb_progress.proofs.BoundedRuns.{end_as_one}
use Rattle.llb_progress.proofs.laws.complete_boards_agree.Goals as goal

pub returns : goal.returns
returns c =
    let b = c.args.board.now in
    let d = c.args.other.now in
    end_as_one b.build d.build b.state d.state (consistent b c.replays.ensures.run) (consistent d c.replays-2.ensures.run) c.complete_is_plain.ensures
    c.complete_is_plain-2.ensures
