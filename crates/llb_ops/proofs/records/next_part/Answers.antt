use Rattle.std.proofs.Common.{Ok, ◌∙◌, ap, sym}
use Rattle.std.proofs.lemmas.Result.{err_from_is_err_and}
use Rattle.llb_wire.specs.Reading.{IsWithin}
use Rattle.llb_ops.specs.Table.{shape_of}
use Rattle.llb_ops.proofs.RecordSplittingLoop.{parts_end, parts_err, parts_wrong, is_front}
use Rattle.llb_ops.proofs.records.next_part.Goals as goal

pub returns-in_err-field : goal.returns-in_err-field
returns-in_err-field c =
    let p = err_from_is_err_and c.from_residual.result c.from_residual.ensures.1 in
    rw (p.1, p.2) (parts_err (shape_of c.args.message) c.args.bytes.now c.in_err-field.field-0.0 c.in_err-field.ensures.exact)

pub returns-in_default : goal.returns-in_default
returns-in_default c =
    parts_end (shape_of c.args.message) c.args.bytes.now (ap (λ o. Ok o) (sym c.in_default.is) ∙ c.in_ok-field.ensures.exact)

pub returns-then-not-fits : goal.returns-then-not-fits
returns-then-not-fits c =
    parts_wrong (shape_of c.args.message) c.args.bytes.now c.in-Some.field (ap (λ o. Ok o) (sym c.in-Some.is)
    ∙ c.in_ok-field.ensures.exact) (sym c.fits.ensures ∙ c.if-not-fits.true)

pub returns : goal.returns
returns c =
    let within : IsWithin c.args.bytes.now 0 c.in-Some.field = rw c.in-Some.is at c.in_ok-field.ensures.within in
    is_front (shape_of c.args.message) c.args.bytes.now c.in-Some.field c.front_of.result
    (ap (λ o. Ok o) (sym c.in-Some.is) ∙ c.in_ok-field.ensures.exact) (sym c.fits.ensures
    ∙ c.if-not-fits.false) within c.front_of.ensures.record c.front_of.ensures.after
