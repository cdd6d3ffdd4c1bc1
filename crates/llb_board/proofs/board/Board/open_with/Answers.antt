use Rattle.std.proofs.Common.{◌≡◌, ◌∙◌, true, ap, sym}
use Rattle.llb_board.specs.Vertices.{VerticesValue, all_waiting}
use Rattle.llb_board.specs.Opening.{may_work}
use Rattle.llb_board.proofs.FreshBoards.{some_work, few_work, opens, open_last, open_back}
use Rattle.llb_board.proofs.board.Board.open_with.Goals as goal

pub open_on-requires-clause-waits : goal.open_on-requires-clause-waits
open_on-requires-clause-waits c = c.in-Ok.ensures.ok ∙ sym (ap (λ (v : VerticesValue). all_waiting v.build) c.in-Ok.ensures.ok)

pub open_on-requires-clause-some : goal.open_on-requires-clause-some
open_on-requires-clause-some c = some_work c.args.workers (sym c.may_work.ensures ∙ c.if-not-may_work.false)

pub open_on-requires-clause-few : goal.open_on-requires-clause-few
open_on-requires-clause-few c = few_work c.args.workers (sym c.may_work.ensures ∙ c.if-not-may_work.false)

pub returns-in-Ok-clause-gives : goal.returns-in-Ok-clause-gives
returns-in-Ok-clause-gives c =
    let may : may_work c.args.workers ≡ true = sym c.may_work.ensures ∙ c.if-not-may_work.false in
    opens (record { graph = c.args.graph; locals = c.args.locals }) c.args.caches c.args.workers c.in-Ok.vertices c.open_on.result may
    (ap (λ (v : VerticesValue). v.build) c.in-Ok.ensures.ok) c.open_on.ensures.ok c.open_on.ensures.back

pub returns-in-Ok-clause-last : goal.returns-in-Ok-clause-last
returns-in-Ok-clause-last c =
    let may : may_work c.args.workers ≡ true = sym c.may_work.ensures ∙ c.if-not-may_work.false in
    open_last (record { graph = c.args.graph; locals = c.args.locals }) c.args.caches c.args.workers c.open_on.result may

pub returns-in-Ok-clause-back : goal.returns-in-Ok-clause-back
returns-in-Ok-clause-back c =
    open_back (record { graph = c.args.graph; locals = c.args.locals }) c.args.caches c.in-Ok.vertices c.open_on.result
    (ap (λ (v : VerticesValue). v.build) c.in-Ok.ensures.ok) c.open_on.ensures.back
