use Rattle.llb_laws.proofs.AlikeRuns.{board_stands, needs_no_caches}
use Rattle.llb_laws.proofs.contents.boards_stand_for_contents.Goals as goal

pub returns : goal.returns
returns c =
    let b = c.args.board.now in
    record { contents = board_stands b c.is_graph.ensures c.replays.ensures.run; fresh = needs_no_caches b.build.graph }
