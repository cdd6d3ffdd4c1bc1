use Rattle.llb_embed.specs.Handle.{held_in}
use Rattle.llb_embed.specs.HandleCalls.{Matched}
use Rattle.llb_embed.proofs.HandleAfterCalls.{calls}
use Rattle.llb_embed.proofs.llb_matches.Goals as goal

pub returns-clause-matched : goal.returns-clause-matched
returns-clause-matched c =
    calls (Matched c.args.old.now c.args.definition.now) (held_in c.args.it.now) (held_in c.put.new.it) c.in-Some.held.value c.as_mut.result.now
    c.match_old-status.new.held c.match_old-status.result c.in-Some.ensures.starts c.as_mut.ensures.value c.match_old-status.ensures c.put.ensures.holds
