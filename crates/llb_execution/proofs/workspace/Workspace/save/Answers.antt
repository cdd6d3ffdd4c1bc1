use Rattle.std.proofs.Common.{ap, sym, subst, ◌∙◌}
use Rattle.llb_execution.specs.SavedWorkspaces.{saved_of, PutsBack}
use Rattle.llb_execution.proofs.RestoredWorkspaces.{puts_back}
use Rattle.llb_execution.proofs.workspace.Workspace.save.Goals as goal

pub returns-clause-back : goal.returns-clause-back
returns-clause-back c =
    subst (PutsBack c.args.self.now) (sym (c.in_ok-held.ensures ∙ ap saved_of c.self.view_is)) (puts_back c.args.self.now)
