use Rattle.std.proofs.Common.{◌≡◌, ◌-◌, ◌≤◌, length, get_or, option_map, ap, sym, ◌∙◌, arith}
use Rattle.std.specs.Prelude.{slice_get}
use Rattle.llb_events.specs.declared.event.Event.TheVariants as event
use Rattle.llb_stepper.specs.Stepping.{Stepping}
use Rattle.llb_stepper.specs.UndoableEventReplies.{told_pair}
use Rattle.llb_stepper.proofs.DoneEvents.{not_done_here, positive, told_as}
use Rattle.std.proofs.lemmas.Option.{slice_get-get_or}
use Rattle.llb_stepper.proofs.UndoableEventsByTable.{depth_of}
use Rattle.llb_stepper.proofs.stepper.Stepper.recorded.Goals as goal

pub returns-then-after-len : goal.returns-then-after-len
returns-then-after-len c =
    let b = c.self.inside.board in
    let ws = c.self.inside.walked.items in
    let slice = c.as_slice-events.result.now in
    let count : length slice ≡ length b.events = ap length (c.as_slice-events.ensures ∙ c.events.ensures.all) in
    let past = ap (λ (x : Stepping). length x.past) c.self.view_is in
    let board = ap (λ (x : Stepping). length x.board.events) c.self.view_is in
    sym (ap (option_map told_pair) (not_done_here c.args.self.now c.args.i (omega (
      arith,
      c.if-after-len.true,
      c.len.ensures,
      depth_of ws b,
      past,
      count,
      board,
    ))))

pub returns : goal.returns
returns c =
    let b = c.self.inside.board in
    let ws = c.self.inside.walked.items in
    let slice = c.as_slice-events.result.now in
    let i = c.args.i in
    let events = c.as_slice-events.ensures ∙ c.events.ensures.all in
    let count : length slice ≡ length b.events = ap length events in
    let low : 1 ≤ i = positive i c.if-number-eq0.false in
    told_as b ws _ c.args.self.now i (get_or slice (i - 1) (event.Claim 0 0)) c.index-walked.result.now _ c.index-walked.ensures
    (omega (arith, c.len-2.ensures, count)) c.self.invariant (ap (λ (x : Stepping). x.board) c.self.view_is) (ap (λ (x : Stepping). x.past) c.self.view_is) low
    (omega (arith, c.if-number-events.false, count)) (omega (arith, c.if-after-len.false, c.len.ensures, count))
    (ap (λ l. slice_get l (i - 1)) (sym events) ∙ slice_get-get_or slice (i - 1) (event.Claim 0 0) (omega (arith, low, c.if-number-events.false)))
