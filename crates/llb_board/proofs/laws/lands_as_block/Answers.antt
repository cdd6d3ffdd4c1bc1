use Rattle.llb_model.proofs.Landing.{lands_as_block}
use Rattle.llb_board.proofs.laws.lands_as_block.Goals as goal

pub returns : goal.returns
returns c = lands_as_block c.args.board.now.build
