use Rattle.std.proofs.Common.{subst}
use Rattle.llb_loader.specs.Graph.{Numbered}
use Rattle.llb_laws.proofs.TwoRuns.{BoardLaws, GraphLaws, agree_by_laws}
use Rattle.llb_laws.proofs.two_runs.agree.Goals as goal

pub returns : goal.returns
returns c =
    let d = c.args.definition.now in
    let b = c.args.board.now in
    let o = c.args.other.now in
    let g = c.graph-graph.result.now in
    let h = c.graph-same.result.now in
    let laws : GraphLaws d g h b o = record {
      collide = c.parts_do_not_collide.ensures;
      part = c.parts_are_not_refused.ensures.part;
      order = c.parts_are_not_refused.ensures.order;
      outcomes = c.one_digest_one_outcome.ensures;
      jobs = c.one_digest_one_job.ensures;
      keys = c.keys_share_outcomes.ensures;
      last = c.last_entry_decides.ensures;
      ordered = c.order_does_not_matter.ensures;
      renamed = c.renamed_sources_end_alike.ensures;
      stands = c.kept_results_stand_in.ensures;
      lands = c.worked_elsewhere_lands.ensures;
      serve = c.kept_outputs_serve.ensures;
    } in
    let more : BoardLaws d b o = record {
      plain = c.settled_are_plain.ensures;
      settle = c.boards_settle_alike.ensures;
      matched = c.matched_vertices_settle_alike.ensures;
      renamed = c.renamed_sources_settle_alike.ensures;
      kept = c.kept_outputs_stand_in.ensures;
      part = c.part_settles_alike.ensures;
      rewritten = c.rewritten_settles_alike.ensures;
    } in
    λ loaded same.
    agree_by_laws d b o loaded same
    (subst (λ (u : Numbered). GraphLaws d u o.build.graph b o) c.graph-graph.ensures
    (subst (λ (u : Numbered). GraphLaws d g u b o) c.graph-same.ensures laws))
    more
