use Rattle.std.proofs.Common.{subst}
use Rattle.llb_model.specs.Table.{Job}
use Rattle.llb_board.specs.Landing.{CanLand}
use Rattle.llb_board.proofs.LandedBoards.{is_settled, lands}
use Rattle.llb_board.proofs.board.Board.land.Goals as goal

pub unwrap-requires : goal.unwrap-requires
unwrap-requires c =
    is_settled c.args.self.now c.go_through.new.self c.settle.new.self c.args.w c.args.outcome.count c.settle.result c.go_through.ensures c.settle.ensures.gives

pub returns-clause-gives : goal.returns-clause-gives
returns-clause-gives c =
    let can = subst (λ (j : Job). CanLand c.args.self.now c.args.w j) c.job.ensures c.in_default.ensures.ok in
    lands c.args.self.now c.go_through.new.self c.settle.new.self c.args.w c.args.outcome c.settle.result c.unwrap.result c.unwrap.ensures can
    c.go_through.ensures c.settle.ensures.gives
