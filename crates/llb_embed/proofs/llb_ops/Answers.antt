use Rattle.llb_embed.specs.Handle.{held_in}
use Rattle.llb_embed.specs.HandleCalls.{Described}
use Rattle.llb_embed.proofs.HandleAfterCalls.{calls}
use Rattle.llb_embed.proofs.llb_ops.Goals as goal

pub returns-clause-described : goal.returns-clause-described
returns-clause-described c =
    calls (Described c.args.definition.now) (held_in c.args.it.now) (held_in c.put.new.it) c.in-Some.held.value c.as_mut.result.now
    c.describe-status.new.held c.describe-status.result c.in-Some.ensures.starts c.as_mut.ensures.value c.describe-status.ensures c.put.ensures.holds
