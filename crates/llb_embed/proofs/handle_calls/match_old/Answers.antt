use Rattle.llb_commands.specs.MatchText.{Matches}
use Rattle.llb_embed.proofs.HandleAfterCalls.{ends_cleared}
use Rattle.llb_embed.proofs.handle_calls.match_old.Goals as goal

pub returns : goal.returns
returns c =
    let new = c.matches_over.new in
    ends_cleared (Matches c.args.old.now) c.args.definition.now new.input.now c.args.held.now c.clear.new.held new.out new.err c.matches_over.result
    c.clear.ensures.rest c.clear.ensures.output c.clear.ensures.messages c.matches_over.ensures
