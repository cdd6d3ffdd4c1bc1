use Rattle.std.proofs.Common.{sym, subst, ◌∙◌}
use Rattle.llb_model.specs.Table.{Claimed}
use Rattle.llb_events.specs.declared.event.Event as event
use Rattle.llb_work.specs.SingleThreadDriver.{Takes, IsLeft}
use Rattle.llb_work.proofs.DriverEvents.{on_true, on_false, claim_takes, step_takes, settle_takes, settle_left, cancel_takes, cancel_left}
use Rattle.llb_work.proofs.single_thread_driver.do_event.Goals as goal

pub returns-in-Claim-clause-taken : goal.returns-in-Claim-clause-taken
returns-in-Claim-clause-taken c =
    on_true c.is_ok.result _
    (λ t. subst (λ (e : event.Event). Takes c.args.board.now e c.claim.new.self) (sym c.in-Claim.is)
    (claim_takes Claimed c.args.board.now c.claim.new.self c.in-Claim.w c.in-Claim.v c.claim.result c.claim.ensures.gives (sym c.is_ok.ensures.value ∙ t)))

pub returns-in-Step-clause-taken : goal.returns-in-Step-clause-taken
returns-in-Step-clause-taken c =
    on_true c.is_ok-in-Step.result _
    (λ t. subst (λ (e : event.Event). Takes c.args.board.now e c.step.new.self) (sym c.in-Step.is)
    (step_takes c.args.board.now c.step.new.self c.in-Step.w c.step.result c.step.ensures.gives (sym c.is_ok-in-Step.ensures.value ∙ t)))

pub returns-in-Settle-clause-taken : goal.returns-in-Settle-clause-taken
returns-in-Settle-clause-taken c =
    on_true c.is_ok-in-Settle.result _
    (λ t. subst (λ (e : event.Event). Takes c.args.board.now e c.settle.new.self) (sym c.in-Settle.is)
    (settle_takes c.args.board.now c.settle.new.self c.in-Settle.w c.settle.result c.settle.ensures.gives (sym c.is_ok-in-Settle.ensures.value ∙ t)))

pub returns-in-Settle-clause-left : goal.returns-in-Settle-clause-left
returns-in-Settle-clause-left c =
    on_false c.is_ok-in-Settle.result _
    (λ f. subst (λ (e : event.Event). IsLeft c.args.board.now e) (sym c.in-Settle.is)
    (settle_left c.args.board.now c.settle.new.self c.in-Settle.w c.settle.result c.settle.ensures.gives (sym c.is_ok-in-Settle.ensures.value ∙ f)))

pub returns-in-Cancel-clause-taken : goal.returns-in-Cancel-clause-taken
returns-in-Cancel-clause-taken c =
    on_true c.is_ok-in-Cancel.result _
    (λ t. subst (λ (e : event.Event). Takes c.args.board.now e c.cancel.new.self) (sym c.in-Cancel.is)
    (cancel_takes c.args.board.now c.cancel.new.self c.in-Cancel.w c.cancel.result c.cancel.ensures.gives (sym c.is_ok-in-Cancel.ensures.value ∙ t)))

pub returns-in-Cancel-clause-left : goal.returns-in-Cancel-clause-left
returns-in-Cancel-clause-left c =
    on_false c.is_ok-in-Cancel.result _
    (λ f. subst (λ (e : event.Event). IsLeft c.args.board.now e) (sym c.in-Cancel.is)
    (cancel_left c.args.board.now c.cancel.new.self c.in-Cancel.w c.cancel.result c.cancel.ensures.gives (sym c.is_ok-in-Cancel.ensures.value ∙ f)))
