use Rattle.std.proofs.Common.{◌≡◌, ◌↔◌, IsTrue, ℕ, ◌==◌, false, true, [], ◌∷◌, length, sym, ap, ◌∙◌, subst, rules}
use Rattle.llb_model.specs.Program.{ReadLocal, Act, LayInput, runs_of}
use Rattle.llb_execution.specs.declared.steps.ByKind.{ByKind}
use Rattle.llb_execution.specs.declared.steps.ByKind.TheVariants as steps
use Rattle.llb_execution.specs.ModelValues.{steps_in}
use Rattle.llb_execution.proofs.MicroStepEquality.{apart_runs, runs_same}
use Rattle.llb_execution.proofs.same.are_runs.Goals as goal

pub returns-in-Nothing : goal.returns-in-Nothing
returns-in-Nothing c =
    let is : c.args.steps.now ≡ steps.Nothing = search rules in
    let some : (length c.args.commands.now == 0) ≡ false = search rules in
    subst (λ (s : ByKind). IsTrue false ↔ (steps_in s ≡ runs_of c.args.setting.now c.args.commands.now)) (sym is)
    (apart_runs (λ (u : ℕ). ReadLocal) (λ x s c b e. cc) [] c.args.setting.now c.args.commands.now some)

pub returns-in-Read : goal.returns-in-Read
returns-in-Read c =
    let is : c.args.steps.now ≡ steps.Read = search rules in
    let some : (length c.args.commands.now == 0) ≡ false = search rules in
    subst (λ (s : ByKind). IsTrue false ↔ (steps_in s ≡ runs_of c.args.setting.now c.args.commands.now)) (sym is)
    (apart_runs (λ (u : ℕ). ReadLocal) (λ x s c b e. cc) (0 ∷ []) c.args.setting.now c.args.commands.now some)

pub returns-in-Actions : goal.returns-in-Actions
returns-in-Actions c =
    let is : c.args.steps.now ≡ steps.Actions c.in-Actions.field-0 = search rules in
    let some : (length c.args.commands.now == 0) ≡ false = search rules in
    subst (λ (s : ByKind). IsTrue false ↔ (steps_in s ≡ runs_of c.args.setting.now c.args.commands.now)) (sym is)
    (apart_runs Act (λ x s c b e. cc) c.in-Actions.field-0 c.args.setting.now c.args.commands.now some)

pub returns-in-Inputs : goal.returns-in-Inputs
returns-in-Inputs c =
    let is : c.args.steps.now ≡ steps.Inputs c.in-Inputs.field-0 = search rules in
    let some : (length c.args.commands.now == 0) ≡ false = search rules in
    subst (λ (s : ByKind). IsTrue false ↔ (steps_in s ≡ runs_of c.args.setting.now c.args.commands.now)) (sym is)
    (apart_runs LayInput (λ x s c b e. cc) c.in-Inputs.field-0.items c.args.setting.now c.args.commands.now some)

pub returns-then-same : goal.returns-then-same
returns-then-same c =
    let is : c.args.steps.now ≡ steps.Commands c.in-Commands.own c.in-Commands.script = search rules in
    let some : (length c.args.commands.now == 0) ≡ false = search rules in
    let alike = runs_same c.in-Commands.own c.args.setting.now c.in-Commands.script c.args.commands.now some in
    let set = c.same.ensures.0 c.if-same.true in
    subst (λ (s : ByKind). IsTrue c.all_same.result ↔ (steps_in s ≡ runs_of c.args.setting.now c.args.commands.now)) (sym is) (
      λ t. ap (λ q. runs_of q c.in-Commands.script) set ∙ ap (runs_of c.args.setting.now) (sym c.commands.ensures ∙ c.all_same.ensures.0 t),
      λ e. c.all_same.ensures.1 (c.commands.ensures ∙ (alike e).1),
    )

pub returns-else-same : goal.returns-else-same
returns-else-same c =
    let is : c.args.steps.now ≡ steps.Commands c.in-Commands.own c.in-Commands.script = search rules in
    let some : (length c.args.commands.now == 0) ≡ false = search rules in
    let alike = runs_same c.in-Commands.own c.args.setting.now c.in-Commands.script c.args.commands.now some in
    let differ : c.same.result ≡ false = c.if-same.false in
    subst (λ (s : ByKind). IsTrue c.same.result ↔ (steps_in s ≡ runs_of c.args.setting.now c.args.commands.now)) (sym is)
    (λ t. absurd (let w : false ≡ true = sym differ ∙ t in cc), λ e. c.same.ensures.1 (alike e).0)
