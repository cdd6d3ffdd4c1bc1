use Rattle.std.proofs.Common.{◌≡◌, ◌-◌, ◌∙◌, None, length, sym, ap, subst}
use Rattle.llb_model.specs.Run.{chosen}
use Rattle.llb_stepper.specs.StepperResults.{MeetsOn}
use Rattle.llb_stepper.specs.Stepping.{Stepping}
use Rattle.llb_stepper.proofs.EventSequences.{nearer, none_chosen, one_chosen, stops_chosen, ends_chosen, done_since, since, chosen_as}
use Rattle.llb_stepper.proofs.UndoableEventsByTable.{memory_alone, chosen_granted}
use Rattle.llb_stepper.proofs.stepper.Stepper.go.Goals as goal

pub loop-event-init : goal.loop-event-init
loop-event-init c = (none_chosen c.args.self.now, c.depth-before.ensures)

pub returns-in-Ok-true-clause-goes : goal.returns-in-Ok-true-clause-goes
returns-in-Ok-true-clause-goes c =
    let e = c.in-Some.event in
    let so_far = c.loop-event.invariant.0 in
    let met = subst (MeetsOn c.loop-event.self e c.walk.new.self) c.in-Ok-true.field-0-test c.in-Ok-true.ensures.met in
    stops_chosen c.args.self.now c.loop-event.self c.walk.new.self (c.depth.result - c.depth-before.result) e
    (done_since c.args.self.now c.loop-event.self c.walk.new.self e _ (length so_far.events) c.depth-before.result c.depth.result so_far.gone.depth met
    c.loop-event.invariant.1 c.depth.ensures)
    so_far (chosen_as _ c.loop-event.self e c.in-Some.ensures c.self.view_is) met c.past_is_the_records.ensures

pub returns-in-Err-clause-refused : goal.returns-in-Err-clause-refused
returns-in-Err-clause-refused c =
    memory_alone c.loop-event.self c.in-Some.event c.in-Err.fault
    (chosen_granted c.self.inside.board c.loop-event.self c.in-Some.event (ap (λ (x : Stepping). x.board) c.self.view_is) c.chosen_is_granted.ensures
    (sym c.in-Some.ensures))
    c.in-Err.ensures.gives

pub loop-event-preserved : goal.loop-event-preserved
loop-event-preserved c =
    let e = c.in-Some.event in
    let met = subst (MeetsOn c.loop-event.self e c.walk.new.self) c.in-Ok-false.field-0-test c.in-Ok-false.ensures.met in (
      one_chosen c.args.self.now c.loop-event.self c.walk.new.self e c.loop-event.invariant.0 (chosen_as _ c.loop-event.self e c.in-Some.ensures
          c.self.view_is) met,
      c.loop-event.invariant.1,
    )

pub loop-event-smaller : goal.loop-event-smaller
loop-event-smaller c =
    let e = c.in-Some.event in
    let met = subst (MeetsOn c.loop-event.self e c.walk.new.self) c.in-Ok-false.field-0-test c.in-Ok-false.ensures.met in
    nearer c.loop-event.self c.walk.new.self e _ met (chosen_as _ c.loop-event.self e c.in-Some.ensures c.self.view_is)

pub returns-clause-goes : goal.returns-clause-goes
returns-clause-goes c =
    let so_far = c.loop-event.invariant.0 in
    let none : chosen c.loop-event.self.board.build c.loop-event.self.board.state ≡ None =
    ap (λ (x : Stepping). chosen x.board.build x.board.state) (sym c.self.view_is) ∙ sym c.chosen.ensures ∙ c.in_default.is in
    ends_chosen c.args.self.now c.loop-event.self (c.depth-2.result - c.depth-before.result)
    (since c.args.self.now c.loop-event.self (length so_far.events) c.depth-before.result c.depth-2.result so_far.gone.depth c.loop-event.invariant.1
    c.depth-2.ensures) so_far none c.past_is_the_records-2.ensures
