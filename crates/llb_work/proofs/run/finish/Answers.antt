use Rattle.llb_work.proofs.BoardContinuations.{goes_further}
use Rattle.llb_work.proofs.DriverEvents.{all_granted}
use Rattle.llb_work.proofs.IdleWorkers.{idle_complete}
use Rattle.llb_work.proofs.run.finish.Goals as goal

pub returns-then-not-go_to_end-clause-goes : goal.returns-then-not-go_to_end-clause-goes
returns-then-not-go_to_end-clause-goes c =
    let b = c.args.board.now in
    let n = c.go_to_end.new.board in
    let cancelled = c.cancel_all-then-not-go_to_end in
    goes_further b n cancelled.new.board (all_granted b n c.go_to_end.ensures.goes) cancelled.ensures.goes

pub returns-clause-goes : goal.returns-clause-goes
returns-clause-goes c = all_granted c.args.board.now c.go_to_end.new.board c.go_to_end.ensures.goes

pub returns-clause-idle : goal.returns-clause-idle
returns-clause-idle c =
    let b = c.go_to_end.new.board in
    idle_complete b.build b.state c.is_graph.ensures c.is_consistent.ensures (c.chosen_until_complete.ensures.0 c.if-not-go_to_end.ensures.ends)
