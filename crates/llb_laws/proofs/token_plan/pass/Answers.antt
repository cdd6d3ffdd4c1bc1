use Rattle.std.proofs.Common.{◌≡◌, ◌∙◌, false, true, get_or, refl, sym}
use Rattle.std.proofs.lemmas.List.{get_or_read}
use Rattle.llb_laws.proofs.TokenPlans.{differ}
use Rattle.llb_laws.proofs.token_plan.pass.Goals as goal

pub returns-then-not-index : goal.returns-then-not-index
returns-then-not-index c =
    let marks = c.args.marks.now.items in
    let none : get_or marks c.args.v false ≡ false =
    sym (get_or_read marks c.args.v c.index.result.now c.requires.low c.index.ensures false) ∙ c.if-not-index.true in
    record { count = refl; marked = λ at. absurd (differ (get_or marks c.args.v false) none at); same = λ is. refl }

pub returns : goal.returns
returns c =
    let marks = c.args.marks.now.items in
    let at : get_or marks c.args.v false ≡ true =
    sym (get_or_read marks c.args.v c.index.result.now c.requires.low c.index.ensures false) ∙ c.if-not-index.false in
    record {
      count = c.mark_inputs.ensures.count;
      marked = λ is. c.mark_inputs.ensures.marked;
      same = λ none. absurd (differ (get_or marks c.args.v false) none at);
    }
