use Rattle.llb_embed.specs.Handle.{held_in}
use Rattle.llb_embed.specs.HandleCalls.{Judged}
use Rattle.llb_embed.proofs.HandleAfterCalls.{calls}
use Rattle.llb_embed.proofs.llb_script.Goals as goal

pub returns-clause-judged : goal.returns-clause-judged
returns-clause-judged c =
    calls (Judged c.args.text.now) (held_in c.args.it.now) (held_in c.put.new.it) c.in-Some.held.value c.as_mut.result.now
    c.script-status.new.held c.script-status.result c.in-Some.ensures.starts c.as_mut.ensures.value c.script-status.ensures c.put.ensures.holds
