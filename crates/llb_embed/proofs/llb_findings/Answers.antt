use Rattle.llb_embed.specs.Handle.{held_in}
use Rattle.llb_embed.specs.HandleCalls.{Listed}
use Rattle.llb_embed.proofs.HandleAfterCalls.{calls}
use Rattle.llb_embed.proofs.llb_findings.Goals as goal

pub returns-clause-listed : goal.returns-clause-listed
returns-clause-listed c =
    calls (Listed c.args.definition.now) (held_in c.args.it.now) (held_in c.put.new.it) c.in-Some.held.value c.as_mut.result.now
    c.list-status.new.held c.list-status.result c.in-Some.ensures.starts c.as_mut.ensures.value c.list-status.ensures c.put.ensures.holds
