use Rattle.llb_embed.specs.Handle.{held_in}
use Rattle.llb_embed.specs.HandleCalls.{Replied}
use Rattle.llb_embed.proofs.HandleAfterCalls.{calls}
use Rattle.llb_embed.proofs.llb_line.Goals as goal

pub returns-clause-replied : goal.returns-clause-replied
returns-clause-replied c =
    calls (Replied c.args.line.now) (held_in c.args.it.now) (held_in c.put.new.it) c.in-Some.held.value c.as_mut.result.now
    c.reply-status.new.held c.reply-status.result c.in-Some.ensures.starts c.as_mut.ensures.value c.reply-status.ensures c.put.ensures.holds
