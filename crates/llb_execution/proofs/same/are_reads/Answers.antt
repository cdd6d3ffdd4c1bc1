use Rattle.std.proofs.Common.{◌≡◌, ◌↔◌, IsTrue, ℕ, false, [], ◌∷◌, refl, sym, subst, rules}
use Rattle.llb_model.specs.Program.{ReadLocal, Act, LayInput}
use Rattle.llb_execution.specs.declared.steps.ByKind.{ByKind}
use Rattle.llb_execution.specs.declared.steps.ByKind.TheVariants as steps
use Rattle.llb_execution.specs.ModelValues.{steps_in}
use Rattle.llb_execution.proofs.MicroStepEquality.{apart, runs_apart}
use Rattle.llb_execution.proofs.same.are_reads.Goals as goal

pub returns-in-Actions : goal.returns-in-Actions
returns-in-Actions c =
    let is : c.args.steps.now ≡ steps.Actions c.in-Actions.field-0 = search rules in
    subst (λ (s : ByKind). IsTrue false ↔ (steps_in s ≡ ReadLocal ∷ [])) (sym is)
    (apart Act (λ (u : ℕ). ReadLocal) (λ x y e. cc) c.in-Actions.field-0 (0 ∷ []) refl)

pub returns-in-Inputs : goal.returns-in-Inputs
returns-in-Inputs c =
    let is : c.args.steps.now ≡ steps.Inputs c.in-Inputs.field-0 = search rules in
    subst (λ (s : ByKind). IsTrue false ↔ (steps_in s ≡ ReadLocal ∷ [])) (sym is)
    (apart LayInput (λ (u : ℕ). ReadLocal) (λ x y e. cc) c.in-Inputs.field-0.items (0 ∷ []) refl)

pub returns-in-Commands : goal.returns-in-Commands
returns-in-Commands c =
    let is : c.args.steps.now ≡ steps.Commands c.in-Commands.field-0 c.in-Commands.field-1 = search rules in
    subst (λ (s : ByKind). IsTrue false ↔ (steps_in s ≡ ReadLocal ∷ [])) (sym is)
    (runs_apart (λ (u : ℕ). ReadLocal) (λ y s c b e. cc) c.in-Commands.field-0 c.in-Commands.field-1 (0 ∷ []) refl)
