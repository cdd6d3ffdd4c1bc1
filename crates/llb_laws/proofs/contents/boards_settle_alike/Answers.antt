use Rattle.llb_board.proofs.RecordedRunStates.{plain}
use Rattle.llb_laws.proofs.AlikeSettledVertices.{settle_alike, settle_exchanged}
use Rattle.llb_laws.proofs.contents.boards_settle_alike.Goals as goal

pub returns : goal.returns
returns c =
    let b = c.args.board.now in
    let d = c.args.other.now in
    let first = plain b c.is_graph.ensures c.replays.ensures.run in
    let second = plain d c.is_graph-2.ensures c.replays-2.ensures.run in
    record { relations = settle_alike b d c.is_graph.ensures first second; contents = settle_exchanged b d c.is_graph.ensures first second }
