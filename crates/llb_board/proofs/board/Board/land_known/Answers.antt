use Rattle.llb_board.proofs.LandedBoards.{is_settled, lands}
use Rattle.llb_board.proofs.board.Board.land_known.Goals as goal

pub go_through-requires : goal.go_through-requires
go_through-requires c = c.begun_are_plain.ensures.land c.args.w c.args.outcome.job c.requires.known

pub unwrap-requires : goal.unwrap-requires
unwrap-requires c =
    is_settled c.args.self.now c.go_through.new.self c.settle.new.self c.args.w c.args.outcome.count c.settle.result c.go_through.ensures c.settle.ensures.gives

pub returns : goal.returns
returns c =
    let can = c.begun_are_plain.ensures.land c.args.w c.args.outcome.job c.requires.known in
    record {
      gives = lands c.args.self.now c.go_through.new.self c.settle.new.self c.args.w c.args.outcome c.settle.result c.unwrap.result c.unwrap.ensures can
          c.go_through.ensures c.settle.ensures.gives;
    }
