use Rattle.std.proofs.Common.{ℕ, Bool, Result, Ok, sym, ap, ◌∙◌}
use Rattle.std.proofs.lemmas.Result.{err_from_is_err_and}
use Rattle.llb_ops.specs.declared.fault.OpFault.{OpFault}
use Rattle.llb_ops.specs.Definition.{admission}
use Rattle.llb_ops.proofs.EntryCounting.{too_long, unreadable, too_many, too_big, fits}
use Rattle.llb_ops.proofs.definition.admitted.Goals as goal

abbrev pair : ℕ → Bool → Result (ℕ × Bool) OpFault
pair n s = Ok (n, s)

pub returns-then-bytes-gt-DEFINITION_LIMIT : goal.returns-then-bytes-gt-DEFINITION_LIMIT
returns-then-bytes-gt-DEFINITION_LIMIT c = ap admission (sym (too_long c.args.bytes.now c.if-bytes-gt-DEFINITION_LIMIT.true))

pub returns-in_err-count : goal.returns-in_err-count
returns-in_err-count c =
    let p = err_from_is_err_and c.from_residual.result c.from_residual.ensures.1 in
    rw (p.1, p.2) (ap admission (sym (unreadable c.args.bytes.now c.in_err-count.field-0.0 c.if-bytes-gt-DEFINITION_LIMIT.false (sym c.in_err-count.ensures))))

pub returns-then-count-gt-ENTRIES_LIMIT : goal.returns-then-count-gt-ENTRIES_LIMIT
returns-then-count-gt-ENTRIES_LIMIT c =
    ap admission (sym (too_many c.args.bytes.now c.in_ok-count.count c.in_ok-count.short c.if-bytes-gt-DEFINITION_LIMIT.false
    (sym c.in_ok-count.ensures) c.if-count-gt-ENTRIES_LIMIT.true))

pub returns-then-not-short : goal.returns-then-not-short
returns-then-not-short c =
    ap admission (sym (too_big c.args.bytes.now c.in_ok-count.count c.if-bytes-gt-DEFINITION_LIMIT.false
    (sym c.in_ok-count.ensures ∙ ap (pair c.in_ok-count.count) c.if-not-short.true)))

pub returns : goal.returns
returns c =
    sym (fits c.args.bytes.now c.in_ok-count.count c.if-bytes-gt-DEFINITION_LIMIT.false
    (sym c.in_ok-count.ensures ∙ ap (pair c.in_ok-count.count) c.if-not-short.false) c.if-count-gt-ENTRIES_LIMIT.false)
