use Rattle.std.proofs.Common.{◌⊎◌, Some, false, inl, inr, refl, sym, ap, subst, ◌∙◌}
use Rattle.std.proofs.lemmas.Result.{err_from_is_err_and}
use Rattle.llb_loader.specs.Graph.{Numbered}
use Rattle.llb_loader.specs.LoadResult.{IsGraphIn, IsRefusalIn}
use Rattle.llb_board.specs.BoardValue.{BoardValue}
use Rattle.llb_stepper.specs.Stepping.{Stepping}
use Rattle.llb_commands.specs.Aim.{IsAccepted}
use Rattle.llb_commands.specs.ProgramOutput.{IsNotRun, IsUnopened}
use Rattle.llb_commands.specs.Running.{IsRefusal}
use Rattle.llb_commands.specs.declared.fault.ProgramFault.{ProgramFault}
use Rattle.llb_commands.proofs.RunOutput.{tells}
use Rattle.llb_commands.proofs.laws.aim_is_met.Goals as goal

pub returns-clause-met : goal.returns-clause-met
returns-clause-met c =
    let accepted : IsAccepted c.args.definition.now c.in-Ok.graph c.in_ok-board.board c.new-stepper.result =
    record {
      loaded = subst (λ b. IsGraphIn b c.in-Ok.graph) c.as_slice.ensures c.in-Ok.ensures.graph;
      board_over = ap (λ (b : BoardValue). b.build.graph) c.in_ok-board.ensures.board ∙ c.in-Ok-copy.ensures;
      stepper_over = ap (λ (s : Stepping). s.board.build.graph) c.new-stepper.ensures ∙ ap (λ (b : BoardValue). b.build.graph) c.in_ok-other.ensures.board
          ∙ c.in-Ok-copy-2.ensures;
    } in
    (c.in-Ok.graph, accepted, c.aim.ensures accepted)

-- the definition is refused
pub returns-in-Err-clause-refused : goal.returns-in-Err-clause-refused
returns-in-Err-clause-refused c =
    let d = c.args.definition.now in
    let fault = c.in-Err.fault in
    let first = c.args.board in
    let second = c.args.stepper in
    subst (λ (e : ProgramFault). IsRefusal e → IsNotRun first.workers first.locals e d ⊎ IsNotRun second.workers second.locals e d)
    (sym c.passed_on.ensures)
    (λ refusal. inl (inl (tells (Some d) fault d refl (λ known. subst (λ b. IsRefusalIn b fault) c.as_slice.ensures (c.in-Err.ensures.refused known)) refusal)))

-- the first board is not opened
pub returns-in_err-board-clause-refused : goal.returns-in_err-board-clause-refused
returns-in_err-board-clause-refused c =
    let p = err_from_is_err_and c.from_residual.result c.from_residual.ensures.1 in
    let loaded = subst (λ b. IsGraphIn b c.in-Ok.graph) c.as_slice.ensures c.in-Ok.ensures.graph in
    let e = c.in_err-board.field-0.0 in
    rw (p.1, p.2)
    (λ refusal. inl (inr (
      c.in-Ok.graph,
      loaded,
      subst (λ (g : Numbered). IsUnopened c.args.board.locals g c.args.board.workers e) c.in-Ok-copy.ensures (c.in_err-board.ensures.fault refusal),
    )))

-- the board of the stepper is not opened
pub returns-in_err-other-clause-refused : goal.returns-in_err-other-clause-refused
returns-in_err-other-clause-refused c =
    let p = err_from_is_err_and c.from_residual-in_err-other.result c.from_residual-in_err-other.ensures.1 in
    let loaded = subst (λ b. IsGraphIn b c.in-Ok.graph) c.as_slice.ensures c.in-Ok.ensures.graph in
    let e = c.in_err-other.field-0.0 in
    rw (p.1, p.2)
    (λ refusal. inr (inr (
      c.in-Ok.graph,
      loaded,
      subst (λ (g : Numbered). IsUnopened c.args.stepper.locals g c.args.stepper.workers e) c.in-Ok-copy-2.ensures (c.in_err-other.ensures.fault refusal),
    )))
