use Rattle.std.proofs.Common.{ap, subst, sym, option_map, unwrap_or, List, []}
use Rattle.llb_model.specs.ClaimOrder.{at_first, order, claims_in, StandsIn}
use Rattle.llb_model.specs.State.{State}
use Rattle.llb_model.specs.Table.{Reply}
use Rattle.llb_model.proofs.DistinctCacheKeys.{graph_distinct}
use Rattle.llb_model.proofs.WholeRunEnds.{runs_in_claim_order}
use Rattle.llb_board.proofs.laws.runs_in_claim_order.Goals as goal

pub returns-clause-after : goal.returns-clause-after
returns-clause-after c = runs_in_claim_order c.args.board.now.build (graph_distinct c.args.board.now.build c.is_graph.ensures)

pub returns-clause-here : goal.returns-clause-here
returns-clause-here c none =
    let b = c.args.board.now in
    let leads = c.replays.ensures.run.leads in
    let replies = c.replays.ensures.run.replies in
    subst (λ (rs : List Reply). StandsIn b.state (order b.build (at_first b.build b.opening.store) (claims_in rs)))
    (sym (ap (λ o. unwrap_or (option_map (λ (a : State × List Reply). a.1) o) []) leads))
    (runs_in_claim_order b.build (graph_distinct b.build c.is_graph.ensures) none b.opening b.events replies b.state leads)
