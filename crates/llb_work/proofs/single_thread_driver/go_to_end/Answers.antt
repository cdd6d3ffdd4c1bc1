use Rattle.std.proofs.Common.{refl, sym, subst, ◌∙◌}
use Rattle.llb_model.proofs.ChosenEventRuns.{Ascends}
use Rattle.llb_model.specs.Run.{chosen}
use Rattle.llb_board.specs.BoardValue.{BoardValue}
use Rattle.llb_work.specs.SingleThreadDriver.{TakesMemory}
use Rattle.llb_work.proofs.CancelFreeEvents.{takes_no_cancel, chosen_no_cancel, leaves_cancels}
use Rattle.llb_work.proofs.DriverEvents.{chosen_nowhere, chosen_further, ascends_on, nearer, left_over}
use Rattle.llb_work.proofs.single_thread_driver.go_to_end.Goals as goal

pub loop-event-init : goal.loop-event-init
loop-event-init c =
    let b = c.args.board.now in
    record {
      goes = chosen_nowhere b;
      claims = λ none. subst (Ascends b.build b.state) (sym none) (record { ascending = tt; past = tt });
      uncancelled = refl;
    }

pub loop-event-preserved : goal.loop-event-preserved
loop-event-preserved c =
    let b = c.loop-event.board in
    let n = c.do_event.new.board in
    let e = c.in-Some.event in
    let before = c.loop-event.invariant in
    let taken = c.if-not-do_event.ensures.taken in
    record {
      goes = chosen_further c.args.board.now b n e before.goes (sym c.in-Some.ensures) taken;
      claims = λ none. ascends_on b n e c.is_graph.ensures c.is_consistent.ensures (sym c.in-Some.ensures) taken (before.claims none);
      uncancelled = takes_no_cancel b n e (chosen_no_cancel b.build b.state e (sym c.in-Some.ensures)) taken ∙ before.uncancelled;
    }

pub loop-event-smaller : goal.loop-event-smaller
loop-event-smaller c =
    nearer c.loop-event.board c.do_event.new.board c.in-Some.event c.if-not-do_event.ensures.taken (sym c.in-Some.ensures)

pub returns-then-not-do_event-clause-stops : goal.returns-then-not-do_event-clause-stops
returns-then-not-do_event-clause-stops c =
    let b = c.loop-event.board in
    subst (λ (x : BoardValue). TakesMemory (chosen x.build x.state)) (sym c.if-not-do_event.ensures.kept)
    (left_over b c.in-Some.event c.chosen_is_granted.ensures (sym c.in-Some.ensures) c.if-not-do_event.ensures.left)

pub returns-then-not-do_event-clause-uncancelled : goal.returns-then-not-do_event-clause-uncancelled
returns-then-not-do_event-clause-uncancelled c =
    leaves_cancels c.loop-event.board c.do_event.new.board c.if-not-do_event.ensures.kept ∙ c.loop-event.invariant.uncancelled
