use Rattle.std.proofs.Common.{◌||◌, ap, ◌∙◌}
use Rattle.std.specs.List.{list_any}
use Rattle.llb_stepper.specs.UndoableEventReplies.{meets_told}
use Rattle.llb_stepper.specs.BreakpointSets.{is_met_by_reply}
use Rattle.llb_stepper.proofs.BreakpointSets.{meets}
use Rattle.llb_stepper.proofs.breakpoints.Breakpoints.is_met_by.Goals as goal

pub returns-then-is_met_by_event : goal.returns-then-is_met_by_event
returns-then-is_met_by_event c =
    let k = c.self.inside.kinds in
    let e = c.args.event in
    let r = c.args.reply in
    c.if-is_met_by_event.true ∙ ap (λ x. x || is_met_by_reply k r) c.if-is_met_by_event.ensures ∙ meets k c.self.inside.list.items e r c.self.invariant
    ∙ ap (list_any (meets_told e r)) c.self.view_is

pub returns-else-is_met_by_event : goal.returns-else-is_met_by_event
returns-else-is_met_by_event c =
    let k = c.self.inside.kinds in
    let e = c.args.event in
    let r = c.args.reply in
    c.is_met_by_reply.ensures ∙ ap (λ x. x || is_met_by_reply k r) c.if-is_met_by_event.ensures ∙ meets k c.self.inside.list.items e r c.self.invariant
    ∙ ap (list_any (meets_told e r)) c.self.view_is
