use Rattle.std.proofs.lemmas.Result.{err_from_is_err_and, MatchResult-weaker}
use Rattle.llb_loader.specs.RowsWithoutBytes.{with_bytes}
use Rattle.llb_loader.proofs.RefusalsWithoutBytes.{refused_from, graph_from}
use Rattle.llb_loader.proofs.graph_of_rows.link_entries.Goals as goal

pub returns-in_err-linked-clause-refused : goal.returns-in_err-linked-clause-refused
returns-in_err-linked-clause-refused c =
    let p = err_from_is_err_and c.from_residual.result c.from_residual.ensures.1 in
    rw (p.1, p.2) (λ m. c.in_err-linked.ensures.refused m)

pub returns-in_err-order-clause-refused : goal.returns-in_err-order-clause-refused
returns-in_err-order-clause-refused c =
    let p = err_from_is_err_and c.from_residual-in_err-order.result c.from_residual-in_err-order.ensures.1 in
    rw (p.1, p.2) (λ m. refused_from (with_bytes c.args.rows.items c.args.entries.items) c.in_ok-linked.linked c.in_err-order.field-0.0
    c.in_ok-linked.ensures.linked (c.in_err-order.ensures.refused m))

pub returns-clause-graph : goal.returns-clause-graph
returns-clause-graph c = MatchResult-weaker c.into_graph.result c.into_graph.ensures.graph
    (λ g x. graph_from (with_bytes c.args.rows.items c.args.entries.items) c.in_ok-linked.linked g c.in_ok-linked.ensures.linked x)
    (λ e t. t)
