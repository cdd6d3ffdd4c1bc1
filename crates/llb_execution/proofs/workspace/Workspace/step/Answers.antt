use Rattle.std.proofs.Common.{◌≡◌, ap, sym, ◌∙◌, arith, to_z, of_z, w64}
use Rattle.std.specs.Prelude.{Some, None}
use Rattle.std.proofs.lemmas.Int.{to_z-of_z}
use Rattle.llb_fileop.specs.CallResults.{Gives}
use Rattle.llb_model.specs.Program.{all_and, act_among, trees_in, lay_on, step_on}
use Rattle.llb_execution.specs.ModelValues.{step_in, work_with, left_with}
use Rattle.llb_execution.specs.declared.micro_step.MicroStep.{MicroStep}
use Rattle.llb_execution.proofs.MicroStepResults.{acts_among, has_acted, read, laid, has_run, has_stepped}
use Rattle.llb_execution.proofs.workspace.Workspace.step.Goals as goal
use Rattle.llb_execution.proofs.workspace.Workspace.step.Goals.{in-Some, in-None+in_ok-empty-in-None}

pub returns-in-ReadLocal-clause-left : goal.returns-in-ReadLocal-clause-left
returns-in-ReadLocal-clause-left c =
    let work = work_with c.args.self.now c.args.trees.now.items in
    read c.args.k c.args.self.now c.args.trees.now.items ∙ sym (ap (λ (m : MicroStep). step_on c.args.k (Some (step_in m)) work) c.in-ReadLocal.is)

pub returns-in_ok-put_result-in-Act : goal.returns-in_ok-put_result-in-Act
returns-in_ok-put_result-in-Act c =
    let workspace = c.args.self.now in
    let a = c.in-Act.action.now in
    let trees = c.args.trees.now.items in
    let input : to_z w64 (of_z w64 a.input) ≡ a.input = grind (arith, to_z-of_z) in
    let secondary : to_z w64 (of_z w64 a.secondary_input) ≡ a.secondary_input = grind (arith, to_z-of_z) in
    let gives : Gives (λ t. t) c.match-tree.acted (act_among a (trees_in workspace)) = elim c.match-tree.branch [
      | in-Some w ↦
          acts_among a workspace c.match-tree.acted w.act-acted.result _ _ _ _ input secondary w.in-Some.ensures c.tree-second.ensures w.acted-is
          w.act-acted.ensures
      | in-None+in_ok-empty-in-None w ↦
          acts_among a workspace c.match-tree.acted w.act-acted-in-None.result _ _ _ _ input secondary (w.in_ok-empty-in-None.ensures ∙ w.in-None.ensures)
          c.tree-second.ensures w.acted-is w.act-acted-in-None.ensures
    ] in
    let left = c.in_ok-put_result-in-Act.ensures.left (act_among a (trees_in workspace)) trees gives ∙ has_acted c.args.k workspace a trees
    ∙ sym (ap (λ (m : MicroStep). step_on c.args.k (Some (step_in m)) (work_with workspace trees)) c.in-Act.is) in
    let stepped = has_stepped c.args.k (step_in c.args.step) workspace c.put_result.new.self trees trees c.in_ok-put_result-in-Act.field-0 left in
    record { left = left; mounts = stepped.mounts; shown = stepped.shown; count = stepped.count; err = tt }

pub returns-in_ok-lay-in-LayInput-clause-left : goal.returns-in_ok-lay-in-LayInput-clause-left
returns-in_ok-lay-in-LayInput-clause-left c =
    let trees = c.args.trees.now.items in
    let same : to_z w64 (of_z w64 c.in-LayInput.input) ≡ c.in-LayInput.input = grind (arith, to_z-of_z) in
    ap (λ workspace. left_with workspace trees None) c.in_ok-lay-in-LayInput.ensures.ok
    ∙ ap (λ n. left_with (lay_on n c.args.self.now) trees None) same
    ∙ laid c.args.k c.in-LayInput.input c.args.self.now trees
    ∙ sym (ap (λ (m : MicroStep). step_on c.args.k (Some (step_in m)) (work_with c.args.self.now trees)) c.in-LayInput.is)

pub returns-in_ok-run-in-Run : goal.returns-in_ok-run-in-Run
returns-in_ok-run-in-Run c =
    let workspace = c.args.self.now in
    let trees = c.args.trees.now.items in
    let run = c.in-Run in
    let left = c.in_ok-run-in-Run.ensures.left ∙ has_run c.args.k run.setting.now run.command.now (all_and run.later.now) workspace trees
    ∙ sym (ap (λ (m : MicroStep). step_on c.args.k (Some (step_in m)) (work_with workspace trees)) run.is) in
    let stepped = has_stepped c.args.k (step_in c.args.step) workspace c.run.new.self trees c.run.new.trees.items c.in_ok-run-in-Run.field-0 left in
    record { left = left; mounts = stepped.mounts; shown = stepped.shown; count = stepped.count; err = tt }
