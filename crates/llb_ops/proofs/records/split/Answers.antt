use Rattle.std.proofs.Common.{◌≡◌, ◌++◌, ◌∷◌, [], Ok, ◌∙◌, ap, sym}
use Rattle.std.proofs.lemmas.Result.{err_from_is_err_and}
use Rattle.std.proofs.lemmas.List.{map_push}
use Rattle.llb_ops.specs.Table.{shape_of}
use Rattle.llb_ops.specs.Records.{views, view, records_from, IsFront}
use Rattle.llb_ops.proofs.RecordSplittingLoop.{with_front, goes_on, is_done}
use Rattle.llb_ops.proofs.records.split.Goals as goal

pub returns-in_err-front : goal.returns-in_err-front
returns-in_err-front c =
    let p = err_from_is_err_and c.from_residual.result c.from_residual.ensures.1 in
    rw (p.1, p.2) (λ _. sym c.loop-records.invariant ∙ ap (with_front (views c.loop-records.records.items)) c.in_err-front.ensures)

pub loop-records-preserved : goal.loop-records-preserved
loop-records-preserved c =
    let front : IsFront (shape_of c.args.message) c.loop-records.rest.now c.in-Some.front = rw c.in-Some.is at c.in_ok-front.ensures in
    let items : views c.push.new.self.items ≡ views c.loop-records.records.items ++ view c.in-Some.front.record ∷ [] =
    rw c.in_ok-push.ensures.items (map_push _ c.loop-records.records.items c.in-Some.front.record) in
    rw items (goes_on (shape_of c.args.message) (views c.loop-records.records.items)
    (view c.in-Some.front.record) c.loop-records.rest.now c.in-Some.front.after.now _ front.reads c.loop-records.invariant)

pub returns : goal.returns
returns c =
    let none : records_from (shape_of c.args.message) 0 c.loop-records.rest.now ≡ Ok [] = rw c.in_default.is at c.in_ok-front.ensures in
    is_done (shape_of c.args.message) (views c.loop-records.records.items) c.loop-records.rest.now _ none c.loop-records.invariant
