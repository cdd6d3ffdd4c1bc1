use Rattle.std.proofs.Common.{◌≡◌, ◌≢◌, ℕ, true, false, Option, None, sym, ◌∙◌, ap}
use Rattle.std.specs.Option.{is_some}
use Rattle.llb_ops.specs.declared.op.Input.{Input}
use Rattle.llb_loader.specs.RowLookup.{row_named}
use Rattle.llb_loader.specs.GraphOfRows.{input_at}
use Rattle.llb_loader.proofs.FirstRowOfDigest.{below_step}
use Rattle.llb_loader.proofs.OpAndInputReads.{input_read}
use Rattle.llb_loader.proofs.reached_row_checks.first_unknown.Goals as goal

pub loop-i-preserved : goal.loop-i-preserved
loop-i-preserved c = below_step (λ i. row_named c.args.rows.now c.args.terminal (input_at c.args.op.now i).digest ≢ None) c.loop-i.i c.loop-i.invariant (λ e.
    let read = input_read c.args.op.now c.as_slice-input-items.result.now c.loop-i.i c.input-item.result c.as_slice-input-items.ensures
    c.loop-i-test.true c.input-item.is in
    let none : c.row_of.result ≡ None = c.row_of.ensures ∙ sym (ap (λ (i : Input). row_named c.args.rows.now c.args.terminal i.digest) read) ∙ e in
    let x : is_some c.row_of.result ≡ false = ap (λ (o : Option ℕ). is_some o) none in
    let y : is_some c.row_of.result ≡ true = c.if-is_none.ensures in
    let z : true ≡ false = sym y ∙ x in cc)
