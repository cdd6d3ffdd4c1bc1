use Rattle.std.proofs.Common.{◌∙◌, ◌↔◌, List, Bool, ℕ, length, ap, subst}
use Rattle.std.proofs.lemmas.List.{length-map}
use Rattle.llb_loader.specs.Graph.{links}
use Rattle.llb_loader.specs.WaitingRows.{IsMarked}
use Rattle.llb_loader.specs.ReachedRows.{Reached}
use Rattle.llb_laws.specs.TokenPlans.{is_cause}
use Rattle.llb_laws.proofs.TokenPlans.{are_by_value}
use Rattle.llb_laws.proofs.token_plan.by_value.Goals as goal

pub spread-requires : goal.spread-requires
spread-requires c = ap length c.in_ok-marks.ensures ∙ length-map c.args.graph.now.vertices (is_cause c.some_makes_digest.result)

pub returns-clause-count : goal.returns-clause-count
returns-clause-count c =
    c.spread.ensures.count ∙ ap length c.in_ok-marks.ensures ∙ length-map c.args.graph.now.vertices (is_cause c.some_makes_digest.result)

pub returns-clause-exact : goal.returns-clause-exact
returns-clause-exact c =
    let g = c.args.graph.now in
    are_by_value g c.some_makes_digest.result c.some_makes_digest.ensures c.spread.new.marks.items
    (subst (λ (first : List Bool). (k : ℕ) → IsMarked c.spread.new.marks.items k ↔ ((top : ℕ) × IsMarked first top × Reached (links g.vertices) top k))
    c.in_ok-marks.ensures c.spread.ensures.marked)
