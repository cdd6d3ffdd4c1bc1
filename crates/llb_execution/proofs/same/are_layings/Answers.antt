use Rattle.std.proofs.Common.{◌≡◌, ◌↔◌, IsTrue, ℕ, ◌==◌, false, [], ◌∷◌, length, map, sym, ap, ◌∙◌, subst, rules}
use Rattle.llb_model.specs.Program.{ReadLocal, Act, LayInput}
use Rattle.llb_execution.specs.declared.steps.ByKind.{ByKind}
use Rattle.llb_execution.specs.declared.steps.ByKind.TheVariants as steps
use Rattle.llb_execution.specs.ModelValues.{steps_in}
use Rattle.llb_execution.proofs.MicroStepEquality.{apart, runs_apart, laid_same}
use Rattle.llb_execution.proofs.same.are_layings.Goals as goal

pub returns-in-Read : goal.returns-in-Read
returns-in-Read c =
    let is : c.args.steps.now ≡ steps.Read = search rules in
    let some : (length c.args.numbers.now == 0) ≡ false = search rules in
    subst (λ (s : ByKind). IsTrue false ↔ (steps_in s ≡ map LayInput c.args.numbers.now)) (sym is)
    (apart (λ (u : ℕ). ReadLocal) LayInput (λ x y e. cc) (0 ∷ []) c.args.numbers.now some)

pub returns-in-Actions : goal.returns-in-Actions
returns-in-Actions c =
    let is : c.args.steps.now ≡ steps.Actions c.in-Actions.field-0 = search rules in
    let some : (length c.args.numbers.now == 0) ≡ false = search rules in
    subst (λ (s : ByKind). IsTrue false ↔ (steps_in s ≡ map LayInput c.args.numbers.now)) (sym is)
    (apart Act LayInput (λ x y e. cc) c.in-Actions.field-0 c.args.numbers.now some)

pub returns-in-Commands : goal.returns-in-Commands
returns-in-Commands c =
    let is : c.args.steps.now ≡ steps.Commands c.in-Commands.field-0 c.in-Commands.field-1 = search rules in
    let some : (length c.args.numbers.now == 0) ≡ false = search rules in
    subst (λ (s : ByKind). IsTrue false ↔ (steps_in s ≡ map LayInput c.args.numbers.now)) (sym is)
    (runs_apart LayInput (λ y s c b e. cc) c.in-Commands.field-0 c.in-Commands.field-1 c.args.numbers.now some)

pub returns-in-Inputs : goal.returns-in-Inputs
returns-in-Inputs c =
    let is : c.args.steps.now ≡ steps.Inputs c.in-Inputs.own = search rules in
    subst (λ (s : ByKind). IsTrue c.all_same.result ↔ (steps_in s ≡ map LayInput c.args.numbers.now)) (sym is) (
      λ t. ap (map LayInput) (sym c.as_slice.ensures.value ∙ c.all_same.ensures.0 t),
      λ e. c.all_same.ensures.1 (c.as_slice.ensures.value ∙ laid_same c.in-Inputs.own.items c.args.numbers.now e),
    )
