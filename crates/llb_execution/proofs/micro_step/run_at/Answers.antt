use Rattle.std.proofs.Common.{◌≡◌, List, [], ◌∷◌, length, refl, sym, ap, ◌∙◌, arith}
use Rattle.std.proofs.lemmas.List.{drop_all}
use Rattle.llb_execution.proofs.MicroStepEquality.{first_run, run_there}
use Rattle.llb_execution.proofs.micro_step.run_at.Goals as goal

empty_of : {A : Type 0} (xs : List A) → length xs ≡ 0 → xs ≡ []
empty_of [] none = refl
empty_of (x ∷ xs) none = absurd (omega (arith, none))

pub returns-then-k-commands : goal.returns-then-k-commands
returns-then-k-commands c =
    let cs = c.args.commands.now in
    sym (run_there c.args.setting.now cs c.args.k ∙ ap (first_run c.args.setting.now) (drop_all c.args.k cs (omega (arith, c.if-k-commands.true))))

pub returns-in-Some : goal.returns-in-Some
returns-in-Some c =
    sym (run_there c.args.setting.now c.args.commands.now c.args.k
    ∙ ap (first_run c.args.setting.now) (sym c.split_at.ensures.back ∙ c.in-Some.ensures.cases.0))

pub returns-in-None : goal.returns-in-None
returns-in-None c =
    sym (run_there c.args.setting.now c.args.commands.now c.args.k
    ∙ ap (first_run c.args.setting.now) (sym c.split_at.ensures.back ∙ empty_of c.split_at.result.1.now c.in-None.ensures.cases))
