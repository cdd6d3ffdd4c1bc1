use Rattle.llb_commands.proofs.FailureLines.{none_failed, one_more}
use Rattle.llb_commands.proofs.run.print_failures.Goals as goal

pub loop-v-init : goal.loop-v-init
loop-v-init g c = none_failed c.args.board.now.build c.args.board.now.state (g.E.Write.contents c.args.err.now)

pub loop-v-preserved : goal.loop-v-preserved
loop-v-preserved g c =
    one_more c.args.board.now.build c.args.board.now.state c.loop-v.v c.status.result _ (g.E.Write.contents c.loop-v.err) _ c.status.ensures c.loop-v.invariant
    c.in_ok-print_failure.ensures
