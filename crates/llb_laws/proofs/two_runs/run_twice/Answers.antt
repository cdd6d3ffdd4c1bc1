use Rattle.std.proofs.Common.{◌≡◌, Option, subst}
use Rattle.std.specs.Prelude.{IfSome}
use Rattle.llb_model.specs.Program.{Build}
use Rattle.llb_board.specs.BoardValue.{BoardValue}
use Rattle.llb_laws.specs.TwoRuns.{IsRunOf}
use Rattle.llb_laws.proofs.TwoRuns.{loaded_by, one_build}
use Rattle.llb_laws.proofs.two_runs.run_twice.Goals as goal
use Rattle.llb_laws.proofs.two_runs.run_twice.Goals.{After-agree_on_contents}

first : (c : goal.After-agree_on_contents) → IsRunOf c.args.definition.now c.args.locals.now c.args.workers c.args.events.now c.in-Some.board
first c =
    subst (λ (o : Option BoardValue). IfSome o (IsRunOf c.args.definition.now c.args.locals.now c.args.workers c.args.events.now)) c.in-Some.is
    c.in_ok-board.ensures.some

second : (c : goal.After-agree_on_contents) → IsRunOf c.args.definition.now c.args.locals.now c.args.workers c.args.others.now c.in-Some-2.other
second c =
    subst (λ (o : Option BoardValue). IfSome o (IsRunOf c.args.definition.now c.args.locals.now c.args.workers c.args.others.now)) c.in-Some-2.is
    c.in_ok-other.ensures.some

one : (c : goal.After-agree_on_contents) → c.in-Some.board.build ≡ c.in-Some-2.other.build
one c =
    one_build c.args.definition.now c.args.locals.now c.args.workers c.args.events.now c.args.others.now c.in-Some.board c.in-Some-2.other
    c.one_answer_in.ensures (first c) (second c)

pub returns-clause-agree : goal.returns-clause-agree
returns-clause-agree c =
    let p = (goal.at.returns-clause-agree c).After-agree_on_contents in
    p.agree.ensures (loaded_by p.args.definition.now p.args.locals.now p.args.workers p.args.events.now p.in-Some.board (first p)) (one p)

pub returns-clause-contents : goal.returns-clause-contents
returns-clause-contents c =
    let p = (goal.at.returns-clause-contents c).After-agree_on_contents in
    p.agree_on_contents.ensures (one p)
