use Rattle.llb_laws.proofs.OtherContents.{board_serves}
use Rattle.llb_laws.proofs.contents.board_serves_each_table.Goals as goal

pub returns : goal.returns
returns c = board_serves c.args.board.now c.is_graph.ensures c.replays.ensures.run
