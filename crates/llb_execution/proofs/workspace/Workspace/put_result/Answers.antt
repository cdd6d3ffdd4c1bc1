use Rattle.std.proofs.Common.{◌≡◌, ap, ◌∙◌, rules}
use Rattle.std.specs.Prelude.{Some, None, false}
use Rattle.llb_events.specs.declared.fault.VertexFault.TheVariants as fault
use Rattle.llb_fileop.specs.CallResults.{is_memory}
use Rattle.llb_execution.specs.ModelValues.{left_with}
use Rattle.llb_execution.proofs.MicroStepResults.{put_tree, put_fault}
use Rattle.llb_execution.proofs.workspace.Workspace.put_result.Goals as goal

pub returns-in_ok-push-in-Ok-clause-left : goal.returns-in_ok-push-in-Ok-clause-left
returns-in_ok-push-in-Ok-clause-left c =
    λ rule trees gives. ap (λ workspace. left_with workspace trees None) c.in_ok-push-in-Ok.ensures.ok
    ∙ put_tree c.args.k c.args.self.now c.args.acted rule c.in-Ok.tree trees c.in-Ok.is gives

pub returns-in-Err : goal.returns-in-Err
returns-in-Err c =
    let workspace = c.args.self.now in
    let other : is_memory c.in-Err.fault ≡ false = search rules in
    record {
      left = λ rule trees gives. ap (λ n. left_with workspace trees (Some (fault.Action c.args.k n))) c.number.ensures
          ∙ put_fault c.args.k workspace c.args.acted rule c.in-Err.fault trees c.in-Err.is other gives;
      err = tt;
    }
