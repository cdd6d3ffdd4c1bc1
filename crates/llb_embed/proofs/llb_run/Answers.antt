use Rattle.llb_embed.specs.Handle.{held_in}
use Rattle.llb_embed.specs.HandleCalls.{Ran}
use Rattle.llb_embed.proofs.HandleAfterCalls.{calls}
use Rattle.llb_embed.proofs.llb_run.Goals as goal

pub returns-clause-ran : goal.returns-clause-ran
returns-clause-ran c =
    calls (Ran c.args.definition.now) (held_in c.args.it.now) (held_in c.put.new.it) c.in-Some.held.value c.as_mut.result.now
    c.run-status.new.held c.run-status.result c.in-Some.ensures.starts c.as_mut.ensures.value c.run-status.ensures c.put.ensures.holds
