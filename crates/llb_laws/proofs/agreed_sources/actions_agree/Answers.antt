use Rattle.std.proofs.Common.{◌≡◌, Some, length, refl, slice_get, arith}
use Rattle.std.proofs.lemmas.Option.{slice_get_read}
use Rattle.llb_ops.specs.declared.file_op.Action.{Action}
use Rattle.llb_loader.proofs.OutputNumbers.{true_when}
use Rattle.llb_model.proofs.Lists.{got_within}
use Rattle.llb_laws.specs.CopiedPaths.{ReadsAlike}
use Rattle.llb_laws.proofs.AgreedSources.{next_item}
use Rattle.llb_laws.proofs.agreed_sources.actions_agree.Goals as goal

pub loop-action-preserved : goal.loop-action-preserved
loop-action-preserved c =
    let xs = c.args.actions.now in
    let i = c.loop-action.action-index in
    let x = c.action-item.result in
    let there : slice_get xs i ≡ Some x = slice_get_read xs (length xs) i x refl c.loop-action-test.true c.action-item.is in
    next_item (λ k (a : Action). ReadsAlike c.args.number c.args.first.now c.args.second.now a) xs i x there
    (c.in_ok-action_agrees.ensures.0 c.if-not-branch.false) c.loop-action.invariant

pub returns : goal.returns
returns c =
    true_when (λ k a at. c.loop-action.invariant k a (omega (arith, got_within c.args.actions.now k a at, c.loop-action-test.false)) at)
