use Rattle.std.proofs.Common.{◌≡◌, ◌∙◌, Some, sym, rules}
use Rattle.std.specs.Prelude.{slice_get}
use Rattle.llb_execution.specs.ModelValues.{step_in}
use Rattle.llb_execution.proofs.RemainingMicroSteps.{stops, leaves, goes_on, none_of}
use Rattle.llb_execution.proofs.remaining_micro_steps.do_further.Goals as goal

pub returns-then-is_some-clause-all : goal.returns-then-is_some-clause-all
returns-then-is_some-clause-all c =
    let steps = c.args.steps.now in
    let at : slice_get steps c.loop-k.k ≡ Some (step_in c.in-Some.step) = search rules in
    stops steps c.args.done c.args.workspace.now c.args.trees.now.items c.loop-k.k c.loop-k.workspace c.loop-k.trees.items c.loop-k.invariant
    (step_in c.in-Some.step) at
    c.step.new.self c.step.new.trees.items c.in_ok-fault.fault c.in_ok-fault.ensures.left (sym c.is_some.ensures ∙ c.if-is_some.true)

pub returns-then-is_some-clause-left : goal.returns-then-is_some-clause-left
returns-then-is_some-clause-left c =
    let steps = c.args.steps.now in
    let at : slice_get steps c.loop-k.k ≡ Some (step_in c.in-Some.step) = search rules in
    leaves steps c.args.done c.args.workspace.now c.args.trees.now.items c.loop-k.k c.loop-k.workspace c.loop-k.trees.items c.loop-k.invariant
    (step_in c.in-Some.step) at
    c.step.new.self c.step.new.trees.items c.in_ok-fault.fault c.in_ok-fault.ensures.left

pub loop-k-preserved : goal.loop-k-preserved
loop-k-preserved c =
    let steps = c.args.steps.now in
    let at : slice_get steps c.loop-k.k ≡ Some (step_in c.in-Some.step) = search rules in
    goes_on steps c.args.done c.args.workspace.now c.args.trees.now.items c.loop-k.k c.loop-k.workspace c.loop-k.trees.items c.loop-k.invariant
    (step_in c.in-Some.step) at
    c.step.new.self c.step.new.trees.items c.in_ok-fault.fault c.in_ok-fault.ensures.left
    (none_of c.in_ok-fault.fault (sym c.is_some.ensures ∙ c.if-is_some.false))
    c.in_ok-fault.ensures.mounts c.in_ok-fault.ensures.shown c.in_ok-fault.ensures.count
