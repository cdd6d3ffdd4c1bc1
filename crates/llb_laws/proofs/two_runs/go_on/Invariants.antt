use Rattle.std.proofs.Common.{◌≡◌, drop}
use Rattle.llb_laws.specs.TwoRuns.{after_each}
use Rattle.llb_laws.proofs.two_runs.go_on.Given as goal

abbrev pub invariant-loop-event : goal.invariant-loop-event
invariant-loop-event l = after_each l.board (drop l.event-index l.events) ≡ after_each l.fn.board l.events
