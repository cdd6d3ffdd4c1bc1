use Rattle.llb_commands.specs.PlanText.{Plans}
use Rattle.llb_embed.proofs.HandleAfterCalls.{ends_cleared}
use Rattle.llb_embed.proofs.handle_calls.plan.Goals as goal

pub returns : goal.returns
returns c =
    let new = c.plan_over.new in
    ends_cleared Plans c.args.definition.now new.input.now c.args.held.now c.clear.new.held new.out new.err c.plan_over.result
    c.clear.ensures.rest c.clear.ensures.output c.clear.ensures.messages c.plan_over.ensures
