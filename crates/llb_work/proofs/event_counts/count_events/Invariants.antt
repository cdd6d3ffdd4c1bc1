-- The counts of the events so far.
use Rattle.llb_work.proofs.WorkerEventCounts.{Counted}
use Rattle.llb_work.proofs.event_counts.count_events.Given as goal

abbrev pub invariant-loop-event : goal.invariant-loop-event
invariant-loop-event l = Counted l.initial.made l.made l.events l.event-index
