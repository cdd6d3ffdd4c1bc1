use Rattle.llb_board.proofs.RecordedRunStates.{plain}
use Rattle.llb_board.proofs.PlainJobsAtStart.{begun_are_plain, claims_are_plain, known_land}
use Rattle.llb_board.proofs.laws.begun_are_plain.Goals as goal

pub returns-clause-begun : goal.returns-clause-begun
returns-clause-begun c = begun_are_plain c.args.board.now (plain c.args.board.now c.is_graph.ensures c.replays.ensures.run)

pub returns-clause-claims : goal.returns-clause-claims
returns-clause-claims c =
    let b = c.args.board.now in
    claims_are_plain b c.is_graph.ensures (plain b c.is_graph.ensures c.replays.ensures.run)

pub returns-clause-land : goal.returns-clause-land
returns-clause-land c = known_land c.args.board.now (plain c.args.board.now c.is_graph.ensures c.replays.ensures.run)
