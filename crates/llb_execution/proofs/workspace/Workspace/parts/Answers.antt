use Rattle.std.proofs.Common.{◌≡◌, ◌+◌, length, sym, ap, ◌∙◌, rules}
use Rattle.llb_execution.specs.WorkspaceTrees.{roles_of}
use Rattle.llb_execution.specs.ModelValues.{own_of}
use Rattle.llb_execution.proofs.WorkspaceTreeNumbers.{files_count}
use Rattle.llb_execution.proofs.workspace.Workspace.parts.Goals as goal

pub returns-in-Files : goal.returns-in-Files
returns-in-Files c =
    let inputs : c.len.result ≡ length c.in-Files.inputs.items = search rules in
    let results : c.len-in-Files.result ≡ length c.in-Files.results.items = search rules in
    (λ j. inputs j + results j) ∙ sym (files_count c.in-Files.inputs.items c.in-Files.results.items)
    ∙ ap (λ w. length (roles_of (own_of w))) (sym c.in-Files.is) ∙ ap (λ w. length (roles_of w)) c.self.view_is
