use Rattle.llb_loader.proofs.ResultUniqueness as single
use Rattle.llb_loader.proofs.laws.one_answer_in.Goals as goal

pub returns : goal.returns
returns c = single.one_answer_in c.args.bytes.now
