use Rattle.std.proofs.Common.{◌≡◌, ◌+◌, suc, true, ◌&&◌, ◌∷◌, drop, sym, ap, ◌∙◌, add-one, drop-cons}
use Rattle.llb_model.specs.Program.{is_and, all_and}
use Rattle.llb_execution.proofs.workspace.are_ands.Goals as goal

pub loop-command-preserved : goal.loop-command-preserved
loop-command-preserved c =
    let cs = c.args.commands.now in
    let i = c.loop-command.command-index in
    let command = c.command-item.result in
    let at : drop i cs ≡ command ∷ drop (i + 1) cs =
    rw add-one (drop-cons cs i command c.loop-command-test.true ∙ ap (λ y. y ∷ drop (suc i) cs) (sym c.command-item.is)) in
    let on : is_and command.join ≡ true = sym c.is_and.ensures ∙ c.if-not-is_and.false in
    sym (ap all_and at ∙ ap (λ b. b && all_and (drop (i + 1) cs)) on) ∙ c.loop-command.invariant
