use Rattle.std.proofs.Common.{Bool, cond, eqb, [], ◌∷◌, ◌++◌, sym, ◌∙◌, ap}
use Rattle.std.specs.Prelude.{not, ◌&&◌}
use Rattle.std.specs.Option.{is_some}
use Rattle.llb_ops.specs.declared.op.Input.{Input}
use Rattle.llb_loader.specs.declared.fault.LoadFault.TheVariants.{UnknownDigest}
use Rattle.llb_loader.specs.RowLookup.{row_named}
use Rattle.llb_findings.specs.FindingSteps.{asked_by, unknown_by}
use Rattle.llb_loader.proofs.OpAndInputReads.{input_read}
use Rattle.llb_findings.proofs.SelectionParts.{joined_start, joined_push}
use Rattle.llb_findings.proofs.row_findings.add_unknown_of.Goals as goal

pub loop-i-init : goal.loop-i-init
loop-i-init c = joined_start (unknown_by c.args.rows.now c.args.terminal c.args.reached c.args.k c.args.op.now) _

pub loop-i-preserved : goal.loop-i-preserved
loop-i-preserved c = joined_push c.loop-i.i (unknown_by c.args.rows.now c.args.terminal c.args.reached c.args.k c.args.op.now) _ _ _ c.loop-i.invariant
    (c.in_ok-add_if.ensures ∙ ap (λ (b : Bool). c.loop-i.found.items ++ cond b (UnknownDigest c.args.k c.loop-i.i ∷ []) [])
    (c.is_unknown-unknown.ensures ∙ ap (λ (b : Bool). b && not (is_some (row_named c.args.rows.now c.args.terminal c.index-inputs-i.result.digest)))
    c.is_asked-asked.ensures
    ∙ ap (λ (x : Input). asked_by c.args.reached (eqb c.args.k c.args.terminal) c.loop-i.i && not (is_some (row_named c.args.rows.now c.args.terminal
    x.digest)))
    (sym (input_read c.args.op.now c.as_slice-inputs.result.now c.loop-i.i c.index-inputs-i.result c.as_slice-inputs.ensures c.loop-i-test.true
    c.index-inputs-i.is))))
