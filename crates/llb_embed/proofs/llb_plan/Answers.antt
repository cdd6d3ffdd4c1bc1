use Rattle.llb_embed.specs.Handle.{held_in}
use Rattle.llb_embed.specs.HandleCalls.{Planned}
use Rattle.llb_embed.proofs.HandleAfterCalls.{calls}
use Rattle.llb_embed.proofs.llb_plan.Goals as goal

pub returns-clause-planned : goal.returns-clause-planned
returns-clause-planned c =
    calls (Planned c.args.definition.now) (held_in c.args.it.now) (held_in c.put.new.it) c.in-Some.held.value c.as_mut.result.now
    c.plan-status.new.held c.plan-status.result c.in-Some.ensures.starts c.as_mut.ensures.value c.plan-status.ensures c.put.ensures.holds
