use Rattle.std.proofs.Common.{◌↔◌, List, ℕ, IsTrue, subst, ◌∙◌}
use Rattle.llb_glob.specs.declared.item.Item.{Item}
use Rattle.llb_glob.specs.Matching.{Matches}
use Rattle.llb_glob.proofs.MatchDecision.{is_the_test}
use Rattle.llb_glob.proofs.pattern.Pattern.matches.Goals as goal

pub returns-clause-test : goal.returns-clause-test
returns-clause-test c =
    let tells = subst (λ (path : List (List ℕ)). IsTrue c.all_match.result ↔ Matches c.deref.result.now path) c.names.ensures.all c.all_match.ensures in
    is_the_test c.all_match.result c.args.self.now c.args.path.now
    (subst (λ (parts : List (List Item)). IsTrue c.all_match.result ↔ Matches parts c.args.path.now) (c.deref.ensures.value ∙ c.self.view_is) tells)
