use Rattle.llb_work.proofs.ThreadedRunEnds.{leads_nowhere}
use Rattle.llb_work.proofs.run.refused.Goals as goal

pub returns-clause-leads : goal.returns-clause-leads
returns-clause-leads c = leads_nowhere c.args.board
