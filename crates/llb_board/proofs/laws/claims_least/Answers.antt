use Rattle.llb_model.proofs.GaplessInstances.{claims_least}
use Rattle.llb_board.proofs.laws.claims_least.Goals as goal

pub returns : goal.returns
returns c = claims_least c.args.board.now.build
