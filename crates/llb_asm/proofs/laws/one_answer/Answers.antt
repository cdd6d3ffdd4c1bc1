use Rattle.llb_asm.proofs.UniqueReading as law
use Rattle.llb_asm.proofs.laws.one_answer.Goals as goal

pub returns : goal.returns
returns c = law.one_answer c.args.text.now
