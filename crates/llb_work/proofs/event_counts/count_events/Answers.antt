use Rattle.std.proofs.Common.{arith}
use Rattle.llb_events.specs.declared.event.Event.TheVariants as event
use Rattle.llb_work.proofs.WorkerEventCounts.{counted_more}
use Rattle.llb_work.proofs.event_counts.count_events.Goals as goal

pub loop-event-preserved : goal.loop-event-preserved
loop-event-preserved c =
    counted_more c.args.made.now c.loop-event.made c.args.events.now c.loop-event.event-index c.worker_of.result (event.Claim 0 0) (omega arith)
    c.requires.workers c.worker_of.ensures c.loop-event.invariant
