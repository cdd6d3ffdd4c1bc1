use Rattle.llb_model.proofs.UntouchedExclusiveInstances.{locked_once, others_keep, others_ignore}
use Rattle.llb_model.proofs.ExclusiveHolders.{held_once}
use Rattle.llb_board.proofs.RecordedRunStates.{plain}
use Rattle.llb_board.proofs.laws.headline.Goals as goal

pub returns : goal.returns
returns c =
    let b = c.args.board.now in
    let m = b.build in
    let s = b.state in
    let here = c.replays.ensures.reached in
    record {
      replays = c.replays.ensures.run;
      locked_once = λ w u p q has other same locked. locked_once m s here w u has.execution other.execution p q has.runs other.runs has.has
          other.has same locked;
      held_once = λ w u p has other alone. held_once m s here w u has.execution other.execution p has.runs other.runs has.has other.has alone;
      others_leave = λ w p has alone e t r apart given. others_keep m s t e r here given w has.execution p has.runs has.has alone apart;
      others_ignore = λ w p has alone e tree apart. others_ignore m s e tree here w has.execution p has.runs has.has alone apart;
      plain = (plain b c.is_graph.ensures c.replays.ensures.run).settled;
    }
