use Rattle.std.proofs.Common.{◌≡◌, [], Ok, ◌∙◌, ap, sym}
use Rattle.std.proofs.lemmas.Result.{err_from_is_err_and}
use Rattle.llb_ops.specs.Records.{view, records_from, IsFront}
use Rattle.llb_ops.specs.Definition.{definition_shape}
use Rattle.llb_ops.proofs.EntryReadingLoop.{behind, in_err, gather_goes_on, gather_done}
use Rattle.llb_ops.proofs.definition.gathered.Goals as goal

pub returns-in_err-front : goal.returns-in_err-front
returns-in_err-front c =
    let p = err_from_is_err_and c.from_residual.result c.from_residual.ensures.1 in
    rw (p.1, p.2) (λ _. sym c.loop-entries.invariant ∙ ap (behind c.loop-entries.entries.items)
    (in_err c.loop-entries.rest.now c.in_err-front.field-0.0 c.in_err-front.ensures))

pub loop-entries-preserved : goal.loop-entries-preserved
loop-entries-preserved c =
    let front : IsFront definition_shape c.loop-entries.rest.now c.in-Some.front = rw c.in-Some.is at c.in_ok-front.ensures in
    gather_goes_on c.loop-entries.entries.items c.put_entry.new.entries.items
    (view c.in-Some.front.record) c.loop-entries.rest.now c.in-Some.front.after.now _ front.reads c.in_ok-put_entry.ensures c.loop-entries.invariant

pub returns : goal.returns
returns c =
    let none : records_from definition_shape 0 c.loop-entries.rest.now ≡ Ok [] = rw c.in_default.is at c.in_ok-front.ensures in
    gather_done c.loop-entries.entries.items c.loop-entries.rest.now _ none c.loop-entries.invariant
