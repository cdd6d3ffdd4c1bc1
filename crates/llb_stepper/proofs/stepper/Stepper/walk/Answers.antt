use Rattle.std.proofs.Common.{[], ◌∷◌, ◌++◌, reverse, ap, sym, subst, ◌∙◌}
use Rattle.llb_stepper.specs.StepperInvariant.{AreWalked}
use Rattle.llb_stepper.proofs.UndoableEventsByTable.{walked_more, meets_more}
use Rattle.llb_stepper.proofs.stepper.Stepper.walk.Goals as goal

pub invariant_of-self : goal.invariant_of-self
invariant_of-self c =
    let w = c.in-Ok.walked in
    let more = c.push_reserved.ensures.items ∙ ap (λ l. l ++ w ∷ []) c.reserve.ensures.items in
    subst (λ l. AreWalked c.walk.new.self (reverse l)) (sym more)
    (walked_more c.self.inside.board c.walk.new.self c.args.event c.self.inside.walked.items w c.in-Ok.ensures.undo c.in-Ok.ensures.gives
    c.in-Ok.ensures.can
    c.self.invariant)

pub returns-in-Ok-reserve-clause-met : goal.returns-in-Ok-reserve-clause-met
returns-in-Ok-reserve-clause-met c =
    let w = c.in-Ok.walked in
    let more = c.push_reserved.ensures.items ∙ ap (λ l. l ++ w ∷ []) c.reserve.ensures.items in
    meets_more c.self.inside.board c.walk.new.self c.args.event c.self.inside.walked.items w c.in-Ok.ensures.undo c.in-Ok.ensures.gives
    c.args.self.now c.self.inside.breaks c.push_reserved.new.self.items c.is_met_by-met.result more c.self.view_is c.is_met_by-met.ensures
