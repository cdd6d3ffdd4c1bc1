use Rattle.std.proofs.Common.{◌<◌, ◌^◌, length, arith}
use Rattle.llb_board.proofs.RemainingEventCounts.{counted_at}
use Rattle.llb_board.proofs.board.room.Goals as goal

pub loop-v-preserved : goal.loop-v-preserved
loop-v-preserved c =
    let low : c.loop-v.v < length c.args.vertices.now.build.graph.vertices = rw (c.vertices.ensures.all, c.graph.ensures) at c.loop-v-test.true in
    let few : c.steps.result < 2 ^ 32 = omega (arith, c.steps.ensures.few) in
    counted_at c.args.vertices.now.build.graph.vertices c.loop-v.v c.loop-v.all c.steps.result low c.loop-v.invariant c.steps.ensures.all few
