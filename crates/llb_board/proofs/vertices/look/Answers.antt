use Rattle.std.proofs.Common.{sym}
use Rattle.llb_board.specs.Statuses.{look}
use Rattle.llb_board.specs.Vertices.{status_of}
use Rattle.llb_board.proofs.vertices.look.Goals as goal

pub returns-then-ready : goal.returns-then-ready
returns-then-ready c = λ i. look (sym c.if-ready.true i) c.args.marked (status_of (sym c.in-Waiting.is i))

pub returns-then-marked : goal.returns-then-marked
returns-then-marked c = λ i. look (sym c.if-ready.false i) (sym c.if-marked.true i) (status_of (sym c.in-Waiting.is i))

pub returns-else-marked : goal.returns-else-marked
returns-else-marked c = λ i. look (sym c.if-ready.false i) (sym c.if-marked.false i) (status_of (sym c.in-Waiting.is i))

pub returns-in-Running : goal.returns-in-Running
returns-in-Running c = λ i. look c.args.ready c.args.marked (status_of (sym c.in-Running.is i))

pub returns-in-Done : goal.returns-in-Done
returns-in-Done c = λ i. look c.args.ready c.args.marked (status_of (sym c.in-Done.is i))

pub returns-in-Failed : goal.returns-in-Failed
returns-in-Failed c = λ i. look c.args.ready c.args.marked (status_of (sym c.in-Failed.is i))
