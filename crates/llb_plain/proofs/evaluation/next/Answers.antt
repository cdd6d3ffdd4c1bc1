use Rattle.std.proofs.Common.{◌≡◌, Option, Some, List, sym, subst, rules}
use Rattle.std.specs.Prelude.{Ok}
use Rattle.llb_tree.specs.Tree.{TreeMap}
use Rattle.llb_model.specs.Outcome.{inputs_from, outcome_on}
use Rattle.llb_plain.specs.OutcomeModelValues.{outcome_of, ending_among}
use Rattle.llb_plain.specs.CallResults.{Gives}
use Rattle.llb_plain.proofs.evaluation.next.Goals as goal

pub returns-in-Some : goal.returns-in-Some
returns-in-Some c =
    let v = c.args.vertex.now in
    let there : inputs_from (ending_among c.args.before.now) v.inputs ≡ Some c.in-Some.inputs.items = search rules in
    λ graph. subst (λ (o : Option (List TreeMap)). Gives outcome_of c.run.result (Ok (outcome_on (record { graph = graph; locals = c.args.locals.now }) v o)))
    (sym there) (c.run.ensures graph)
