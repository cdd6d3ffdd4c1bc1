use Rattle.std.proofs.Common.{inr}
use Rattle.std.proofs.lemmas.Result.{err_from_is_err_and, MatchResult-weaker}
use Rattle.llb_loader.proofs.DefinitionRefusals.{unreadable}
use Rattle.llb_loader.proofs.loading.load.Goals as goal

pub returns-in_err-entries-clause-refused : goal.returns-in_err-entries-clause-refused
returns-in_err-entries-clause-refused c =
    let e = err_from_is_err_and c.from_residual.result c.from_residual.ensures.1 in
    rw (e.1, e.2) (unreadable c.args.bytes.now c.in_err-entries.field-0.0 c.in_err-entries.ensures.gives)

pub returns-clause-graph : goal.returns-clause-graph
returns-clause-graph c =
    MatchResult-weaker c.linked.result c.linked.ensures.graph (λ g x. (c.in_ok-entries.entries, c.in_ok-entries.ensures.gives, x)) (λ e t. t)

pub returns-clause-refused : goal.returns-clause-refused
returns-clause-refused c =
    MatchResult-weaker c.linked.result c.linked.ensures.refused (λ g t. t) (λ e f m. inr (c.in_ok-entries.entries, c.in_ok-entries.ensures.gives, f m))
