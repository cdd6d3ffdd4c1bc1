use Rattle.std.proofs.Common.{◌≡◌, ℕ, Bool, [], Ok, ◌∙◌, ap, sym, arith}
use Rattle.std.proofs.lemmas.Result.{err_from_is_err_and}
use Rattle.llb_ops.specs.Records.{view, records_from, IsFront}
use Rattle.llb_ops.specs.Definition.{definition_shape, entries_in}
use Rattle.llb_ops.proofs.EntryReadingLoop.{tallied, in_err, tally_begins, tally_goes_on, tally_small, tally_done}
use Rattle.llb_ops.proofs.definition.tally.Goals as goal

pub loop-front-init : goal.loop-front-init
loop-front-init c = record { so_far = tally_begins (entries_in c.args.bytes.now); few = let h = c.requires in omega (arith, h) }

pub returns-in_err-front : goal.returns-in_err-front
returns-in_err-front c =
    let p = err_from_is_err_and c.from_residual.result c.from_residual.ensures.1 in
    rw (p.1, p.2) (sym (ap (tallied (c.loop-front.count, c.loop-front.short))
    (in_err c.loop-front.rest.now c.in_err-front.field-0.0 c.in_err-front.ensures)) ∙ c.loop-front.invariant.so_far)

pub loop-front-preserved : goal.loop-front-preserved
loop-front-preserved c =
    let front : IsFront definition_shape c.loop-front.rest.now c.in-Some.front = rw c.in-Some.is at c.in_ok-front.ensures in
    let t : ℕ × Bool = (c.loop-front.count, c.loop-front.short) in
    let r = view c.in-Some.front.record in
    let one = c.with_record-with_it.ensures in
    record {
      so_far = ap (λ (x : ℕ × Bool). tallied x (entries_in c.in-Some.front.after.now)) one
          ∙ tally_goes_on t r c.loop-front.rest.now c.in-Some.front.after.now _ front.reads c.loop-front.invariant.so_far;
      few = tally_small t c.with_record-with_it.result r c.loop-front.rest.now c.in-Some.front.after.now one front.shorter c.loop-front.invariant.few;
    }

pub returns : goal.returns
returns c =
    let none : records_from definition_shape 0 c.loop-front.rest.now ≡ Ok [] = rw c.in_default.is at c.in_ok-front.ensures in
    sym (tally_done (c.loop-front.count, c.loop-front.short) c.loop-front.rest.now _ none c.loop-front.invariant.so_far)
