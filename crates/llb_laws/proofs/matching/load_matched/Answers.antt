use Rattle.std.proofs.Common.{ℕ, List, inl, inr, subst}
use Rattle.std.proofs.lemmas.Result.{err_from_is_err_and}
use Rattle.llb_laws.specs.MatchingMarks.{ArePartnersBy}
use Rattle.llb_laws.proofs.MatchingMarks.{loaded_matched}
use Rattle.llb_laws.proofs.matching.load_matched.Goals as goal

pub returns-in_err-graph-clause-refused : goal.returns-in_err-graph-clause-refused
returns-in_err-graph-clause-refused c =
    let e = err_from_is_err_and c.from_residual.result c.from_residual.ensures.1 in
    rw (e.1, e.2) (λ m. inl (c.in_err-graph.ensures.refused m))

pub returns-in_err-other-clause-refused : goal.returns-in_err-other-clause-refused
returns-in_err-other-clause-refused c =
    let e = err_from_is_err_and c.from_residual-in_err-other.result c.from_residual-in_err-other.ensures.1 in
    rw (e.1, e.2) (λ m. inr ((c.in_ok-graph.graph, c.in_ok-graph.ensures.graph), c.in_err-other.ensures.refused m))

pub returns-clause-matched : goal.returns-clause-matched
returns-clause-matched c =
    let g = c.in_ok-graph.graph in
    let h = c.in_ok-other.other in
    let partnered = subst (λ (ms : List ℕ). ArePartnersBy g.vertices ms h.vertices c.in_ok-partners.partners.items) c.as_slice.ensures.value
    c.in_ok-partners.ensures in
    loaded_matched g h c.is_graph.ensures c.is_graph-2.ensures c.in_ok-marks.marks.items c.in_ok-partners.partners.items
    c.in_ok-marks.ensures partnered c.args.first.now c.args.second.now
    c.in_ok-graph.ensures.graph c.in_ok-other.ensures.graph c.matched_vertices_end_alike.ensures
    c.outcome_by_sources.ensures c.outcome_by_sources-2.ensures
