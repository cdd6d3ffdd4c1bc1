use Rattle.std.proofs.Common.{◌-◌, get_or, subst, arith}
use Rattle.std.proofs.lemmas.Option.{slice_get-get_or}
use Rattle.llb_events.specs.declared.event.Event.TheVariants as event
use Rattle.llb_stepper.specs.StepperResults.{MeetsOn}
use Rattle.llb_stepper.proofs.EventSequences.{begun, one_more, stops, ends_all, done_since, since, refused_at}
use Rattle.llb_stepper.proofs.stepper.Stepper.replay.Goals as goal

pub loop-event-init : goal.loop-event-init
loop-event-init c = (begun c.args.self.now c.args.events.now, c.depth-start.ensures)

pub returns-in-Ok-true-clause-stops : goal.returns-in-Ok-true-clause-stops
returns-in-Ok-true-clause-stops c =
    let es = c.args.events.now in
    let i = c.loop-event.event-index in
    let e = get_or es i (event.Claim 0 0) in
    let met = subst (MeetsOn c.loop-event.self e c.walk.new.self) c.in-Ok-true.field-0-test c.in-Ok-true.ensures.met in
    stops c.args.self.now c.loop-event.self c.walk.new.self es i (c.depth.result - c.depth-start.result) e
    (done_since c.args.self.now c.loop-event.self c.walk.new.self e _ i c.depth-start.result c.depth.result c.loop-event.invariant.0.depth met
    c.loop-event.invariant.1
    c.depth.ensures)
    c.loop-event.invariant.0 (slice_get-get_or es i (event.Claim 0 0) c.loop-event-test.true) met c.past_is_the_records.ensures

pub returns-in-Err-clause-refused : goal.returns-in-Err-clause-refused
returns-in-Err-clause-refused c =
    let es = c.args.events.now in
    let i = c.loop-event.event-index in
    refused_at c.args.self.now c.loop-event.self es i (get_or es i (event.Claim 0 0)) c.in-Err.fault c.loop-event.invariant.0
    (slice_get-get_or es i (event.Claim 0 0) c.loop-event-test.true) c.in-Err.ensures.gives

pub loop-event-preserved : goal.loop-event-preserved
loop-event-preserved c =
    let es = c.args.events.now in
    let i = c.loop-event.event-index in
    let e = get_or es i (event.Claim 0 0) in
    let met = subst (MeetsOn c.loop-event.self e c.walk.new.self) c.in-Ok-false.field-0-test c.in-Ok-false.ensures.met in (
      one_more c.args.self.now c.loop-event.self c.walk.new.self es i e c.loop-event.invariant.0 (slice_get-get_or es i (event.Claim 0 0)
          c.loop-event-test.true) met,
      c.loop-event.invariant.1,
    )

pub returns-clause-stops : goal.returns-clause-stops
returns-clause-stops c =
    let es = c.args.events.now in
    let i = c.loop-event.event-index in
    let so_far = c.loop-event.invariant.0 in
    ends_all c.args.self.now c.loop-event.self es i (c.depth-2.result - c.depth-start.result)
    (since c.args.self.now c.loop-event.self i c.depth-start.result c.depth-2.result so_far.depth c.loop-event.invariant.1 c.depth-2.ensures)
    (omega (arith, c.loop-event-test.false, c.loop-event.auto.event-index-end)) so_far c.past_is_the_records-2.ensures
