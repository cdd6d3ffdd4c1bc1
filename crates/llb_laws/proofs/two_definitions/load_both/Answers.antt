use Rattle.std.proofs.Common.{inl, inr}
use Rattle.std.proofs.lemmas.Result.{err_from_is_err_and}
use Rattle.llb_laws.specs.Digests.{LoadWithoutCollision}
use Rattle.llb_laws.proofs.two_definitions.load_both.Goals as goal

pub returns-in_err-graph-clause-refused : goal.returns-in_err-graph-clause-refused
returns-in_err-graph-clause-refused c =
    let e = err_from_is_err_and c.from_residual.result c.from_residual.ensures.1 in
    rw (e.1, e.2) (λ m. inl (c.in_err-graph.ensures.refused m))

pub returns-in_err-other-clause-refused : goal.returns-in_err-other-clause-refused
returns-in_err-other-clause-refused c =
    let e = err_from_is_err_and c.from_residual-in_err-other.result c.from_residual-in_err-other.ensures.1 in
    rw (e.1, e.2) (λ m. inr ((c.in_ok-graph.graph, c.in_ok-graph.ensures.graph), c.in_err-other.ensures.refused m))

pub returns-clause-shared : goal.returns-clause-shared
returns-clause-shared c =
    λ apart.
    let met : LoadWithoutCollision c.args.first.now c.in_ok-graph.graph c.args.second.now c.in_ok-other.other = record {
      first = c.in_ok-graph.ensures.graph;
      second = c.in_ok-other.ensures.graph;
      apart = apart;
    } in
    (met, c.one_digest_one_outcome.ensures met)
