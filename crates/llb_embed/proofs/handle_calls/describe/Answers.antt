use Rattle.llb_commands.specs.Assembly.{Describes}
use Rattle.llb_embed.proofs.HandleAfterCalls.{ends_cleared}
use Rattle.llb_embed.proofs.handle_calls.describe.Goals as goal

pub returns : goal.returns
returns c =
    let new = c.ops_over.new in
    ends_cleared Describes c.args.definition.now new.input.now c.args.held.now c.clear.new.held new.out new.err c.ops_over.result
    c.clear.ensures.rest c.clear.ensures.output c.clear.ensures.messages c.ops_over.ensures
