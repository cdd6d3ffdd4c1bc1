use Rattle.llb_model.proofs.NoMemoryRefusals.{claim_refused_by_rule, step_refused_by_rule}
use Rattle.llb_model.proofs.laws.rules_want_no_memory.Goals as goal

pub returns-clause-claim : goal.returns-clause-claim
returns-clause-claim c = claim_refused_by_rule

pub returns-clause-step : goal.returns-clause-step
returns-clause-step c = step_refused_by_rule
