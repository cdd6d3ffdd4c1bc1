use Rattle.llb_embed.specs.Handle.{held_in}
use Rattle.llb_embed.specs.HandleCalls.{Shown}
use Rattle.llb_embed.proofs.HandleAfterCalls.{calls}
use Rattle.llb_embed.proofs.llb_show.Goals as goal

pub returns-clause-shown : goal.returns-clause-shown
returns-clause-shown c =
    calls (Shown c.args.definition.now) (held_in c.args.it.now) (held_in c.put.new.it) c.in-Some.held.value c.as_mut.result.now
    c.show-status.new.held c.show-status.result c.in-Some.ensures.starts c.as_mut.ensures.value c.show-status.ensures c.put.ensures.holds
