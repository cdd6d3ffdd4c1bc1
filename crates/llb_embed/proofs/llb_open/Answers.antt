use Rattle.llb_embed.specs.Handle.{held_in}
use Rattle.llb_embed.specs.HandleCalls.{Opened}
use Rattle.llb_embed.proofs.HandleAfterCalls.{calls}
use Rattle.llb_embed.proofs.llb_open.Goals as goal

pub returns-clause-opened : goal.returns-clause-opened
returns-clause-opened c =
    calls (Opened c.args.definition.now c.args.workers) (held_in c.args.it.now) (held_in c.put.new.it) c.in-Some.held.value c.as_mut.result.now
    c.open-status.new.held c.open-status.result c.in-Some.ensures.starts c.as_mut.ensures.value c.open-status.ensures c.put.ensures.holds
