use Rattle.llb_loader.proofs.ResultUniqueness as single
use Rattle.llb_loader.proofs.laws.one_answer.Goals as goal

pub returns : goal.returns
returns c = single.one_answer c.args.rows.now
