use Rattle.llb_model.proofs.RunCompletion.{complete_plain}
use Rattle.llb_model.proofs.Outcomes.{all_plain}
use Rattle.llb_board.proofs.RecordedRunStates.{consistent, plain}
use Rattle.llb_board.proofs.laws.complete_is_plain.Goals as goal

pub returns : goal.returns
returns c =
    let b = c.args.board.now in
    λ bare complete v low. complete_plain b.build c.is_graph.ensures b.state (consistent b c.replays.ensures.run)
    (plain b c.is_graph.ensures c.replays.ensures.run) complete v low (all_plain b.build c.is_graph.ensures bare v low)
