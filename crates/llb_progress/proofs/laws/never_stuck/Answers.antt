use Rattle.llb_board.proofs.RecordedRunStates.{consistent}
use Rattle.llb_progress.proofs.GrantedProgress.{running_go_on, some_is_ready, idle_claim_ready, complete_is_the_end}
use Rattle.llb_progress.proofs.laws.never_stuck.Goals as goal

pub returns : goal.returns
returns c =
    let b = c.args.board.now in
    let here = consistent b c.replays.ensures.run in
    record {
      running = running_go_on b.build b.state;
      ready = some_is_ready b.build c.is_graph.ensures b.state here;
      claims = idle_claim_ready b.build b.state;
      end = complete_is_the_end b.build c.is_graph.ensures b.state here c.has_workers.ensures.some;
    }
