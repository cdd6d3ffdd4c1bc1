use Rattle.llb_embed.specs.Handle.{held_in}
use Rattle.llb_embed.specs.HandleCalls.{Added}
use Rattle.llb_embed.proofs.HandleAfterCalls.{calls}
use Rattle.llb_embed.proofs.llb_local.Goals as goal

pub returns-clause-added : goal.returns-clause-added
returns-clause-added c =
    calls (Added c.args.name.now c.args.text.now) (held_in c.args.it.now) (held_in c.put.new.it) c.in-Some.held.value c.as_mut.result.now
    c.local-status.new.held c.local-status.result c.in-Some.ensures.starts c.as_mut.ensures.value c.local-status.ensures c.put.ensures.holds
