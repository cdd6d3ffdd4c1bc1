use Rattle.llb_ops.proofs.DefinitionRoundTrip.{definition_returns}
use Rattle.llb_ops.proofs.definition.definition_is_read_again.Goals as goal

pub returns : goal.returns
returns c = definition_returns c.args.entries.now
