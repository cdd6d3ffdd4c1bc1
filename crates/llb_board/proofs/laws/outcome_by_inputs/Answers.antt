use Rattle.llb_model.proofs.Outcomes.{outcome_is}
use Rattle.llb_board.proofs.laws.outcome_by_inputs.Goals as goal

pub returns : goal.returns
returns c =
    λ v x there. outcome_is c.args.board.now.build c.is_graph.ensures v x there
