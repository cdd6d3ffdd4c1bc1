use Rattle.llb_embed.specs.Handle.{held_in}
use Rattle.llb_embed.specs.HandleCalls.{Disassembled}
use Rattle.llb_embed.proofs.HandleAfterCalls.{calls}
use Rattle.llb_embed.proofs.llb_dis.Goals as goal

pub returns-clause-disassembled : goal.returns-clause-disassembled
returns-clause-disassembled c =
    calls (Disassembled c.args.definition.now) (held_in c.args.it.now) (held_in c.put.new.it) c.in-Some.held.value c.as_mut.result.now
    c.disassemble-status.new.held c.disassemble-status.result c.in-Some.ensures.starts c.as_mut.ensures.value c.disassemble-status.ensures c.put.ensures.holds
