use Rattle.std.proofs.Common.{ap}
use Rattle.std.specs.Prelude.{is_some}
use Rattle.llb_model.proofs.ChosenEventRuns.{chosen_granted}
use Rattle.llb_model.proofs.Lists.{get_within}
use Rattle.llb_board.proofs.laws.chosen_is_granted.Goals as goal

pub returns : goal.returns
returns c =
    let b = c.args.board.now in
    let first = get_within b.state.workers 0 c.has_workers.ensures.some in
    λ e is. ap is_some (chosen_granted b.build b.state e first.0 first.1 is).given
