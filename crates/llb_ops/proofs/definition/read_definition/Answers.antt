use Rattle.std.proofs.Common.{◌≡◌, false, Ok, sym, ap, ◌∙◌}
use Rattle.std.proofs.lemmas.Result.{err_from_is_err_and}
use Rattle.llb_ops.specs.Faults.{is_memory}
use Rattle.llb_ops.proofs.EntryCounting.{definition_named, refused, admitted_is}
use Rattle.llb_ops.proofs.ReadOpsWithinLimits.{entries_within}
use Rattle.llb_ops.proofs.definition.read_definition.Goals as goal

pub returns-in_err-admitted-clause-last : goal.returns-in_err-admitted-clause-last
returns-in_err-admitted-clause-last c =
    let p = err_from_is_err_and c.from_residual.result c.from_residual.ensures.1 in
    let named : is_memory c.in_err-admitted.field-0.0 ≡ false = definition_named c.args.bytes.now c.in_err-admitted.field-0.0
    (refused c.args.bytes.now c.in_err-admitted.field-0.0 (sym c.in_err-admitted.ensures)) in
    rw (p.1, p.2) (λ memory. absurd cc)

pub returns-in_err-entries-clause-gives : goal.returns-in_err-entries-clause-gives
returns-in_err-entries-clause-gives c =
    let p = err_from_is_err_and c.from_residual-in_err-entries.result c.from_residual-in_err-entries.ensures.1 in
    rw (p.1, p.2) (λ n. admitted_is c.args.bytes.now (sym c.in_ok-admitted.ensures) ∙ c.in_err-entries.ensures n)

pub returns-clause-gives : goal.returns-clause-gives
returns-clause-gives c = admitted_is c.args.bytes.now (sym c.in_ok-admitted.ensures) ∙ c.in_ok-entries.ensures ∙ ap (λ es. Ok es) (sym c.new.ensures)

pub returns-clause-within : goal.returns-clause-within
returns-clause-within c = entries_within c.args.bytes.now c.new.result (admitted_is c.args.bytes.now (sym c.in_ok-admitted.ensures)
    ∙ c.in_ok-entries.ensures ∙ ap (λ es. Ok es) (sym c.new.ensures))
