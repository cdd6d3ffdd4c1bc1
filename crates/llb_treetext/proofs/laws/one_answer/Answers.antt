-- This law follows from the definitions alone.
use Rattle.llb_treetext.proofs.UniqueReading.{one_answer}
use Rattle.llb_treetext.proofs.laws.one_answer.Goals as goal

pub returns : goal.returns
returns c = one_answer c.args.bytes.now
