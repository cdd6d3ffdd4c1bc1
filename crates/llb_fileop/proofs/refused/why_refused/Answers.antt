use Rattle.std.proofs.Common.{ap, ◌∙◌}
use Rattle.std.specs.Prelude.{option_map}
use Rattle.llb_fileop.specs.Refusals.{fault_of}
use Rattle.llb_fileop.proofs.ExactRefusals.{exact}
use Rattle.llb_fileop.proofs.refused.why_refused.Goals as goal

pub returns-clause-exact : goal.returns-clause-exact
returns-clause-exact c = ap (option_map fault_of) c.in_ok-refusal.ensures ∙ exact c.args.action.now.kind c.args.base.now _
