use Rattle.std.proofs.Common.{◌≡◌, ◌↔◌, IsTrue, ℕ, ◌==◌, false, [], ◌∷◌, length, map, sym, ap, ◌∙◌, subst, rules}
use Rattle.llb_model.specs.Program.{ReadLocal, Act, LayInput}
use Rattle.llb_execution.specs.declared.steps.ByKind.{ByKind}
use Rattle.llb_execution.specs.declared.steps.ByKind.TheVariants as steps
use Rattle.llb_execution.specs.ModelValues.{steps_in}
use Rattle.llb_execution.proofs.MicroStepEquality.{apart, runs_apart, acts_same}
use Rattle.llb_execution.proofs.same.are_actions.Goals as goal

pub returns-in-Read : goal.returns-in-Read
returns-in-Read c =
    let is : c.args.steps.now ≡ steps.Read = search rules in
    let some : (length c.args.actions.now == 0) ≡ false = search rules in
    subst (λ (s : ByKind). IsTrue false ↔ (steps_in s ≡ map Act c.args.actions.now)) (sym is)
    (apart (λ (u : ℕ). ReadLocal) Act (λ x y e. cc) (0 ∷ []) c.args.actions.now some)

pub returns-in-Inputs : goal.returns-in-Inputs
returns-in-Inputs c =
    let is : c.args.steps.now ≡ steps.Inputs c.in-Inputs.field-0 = search rules in
    let some : (length c.args.actions.now == 0) ≡ false = search rules in
    subst (λ (s : ByKind). IsTrue false ↔ (steps_in s ≡ map Act c.args.actions.now)) (sym is)
    (apart LayInput Act (λ x y e. cc) c.in-Inputs.field-0.items c.args.actions.now some)

pub returns-in-Commands : goal.returns-in-Commands
returns-in-Commands c =
    let is : c.args.steps.now ≡ steps.Commands c.in-Commands.field-0 c.in-Commands.field-1 = search rules in
    let some : (length c.args.actions.now == 0) ≡ false = search rules in
    subst (λ (s : ByKind). IsTrue false ↔ (steps_in s ≡ map Act c.args.actions.now)) (sym is)
    (runs_apart Act (λ y s c b e. cc) c.in-Commands.field-0 c.in-Commands.field-1 c.args.actions.now some)

pub returns-in-Actions : goal.returns-in-Actions
returns-in-Actions c =
    let is : c.args.steps.now ≡ steps.Actions c.in-Actions.own = search rules in
    subst (λ (s : ByKind). IsTrue c.all_same.result ↔ (steps_in s ≡ map Act c.args.actions.now)) (sym is) (
      λ t. ap (map Act) (sym c.as_slice.ensures ∙ c.all_same.ensures.0 t),
      λ e. c.all_same.ensures.1 (c.as_slice.ensures ∙ acts_same c.in-Actions.own c.args.actions.now e),
    )
