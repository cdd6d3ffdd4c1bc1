use Rattle.std.proofs.Common.{ℕ, List, inl, inr, subst}
use Rattle.std.proofs.lemmas.Result.{err_from_is_err_and}
use Rattle.llb_laws.specs.Renaming.{AreRenamed}
use Rattle.llb_laws.proofs.RenamedEntries.{loaded_renamed, not_renamed}
use Rattle.llb_laws.proofs.renaming.load_renamed.Goals as goal

pub returns-in_err-graph-clause-refused : goal.returns-in_err-graph-clause-refused
returns-in_err-graph-clause-refused c =
    let e = err_from_is_err_and c.from_residual.result c.from_residual.ensures.1 in
    rw (e.1, e.2) (λ m. inl (c.in_err-graph.ensures.refused m))

pub returns-in_err-other-clause-refused : goal.returns-in_err-other-clause-refused
returns-in_err-other-clause-refused c =
    let e = err_from_is_err_and c.from_residual-in_err-other.result c.from_residual-in_err-other.ensures.1 in
    rw (e.1, e.2) (λ m. inr ((c.in_ok-graph.graph, c.in_ok-graph.ensures.graph), c.in_err-other.ensures.refused m))

pub returns-then-not-branch-clause-none : goal.returns-then-not-branch-clause-none
returns-then-not-branch-clause-none c = λ e. record {
  first = (c.in_ok-graph.graph, c.in_ok-graph.ensures.graph);
  second = (c.in_ok-other.other, c.in_ok-other.ensures.graph);
  none = not_renamed c.args.names.now c.args.definition.now c.args.renamed.now c.in_ok-entries.entries c.in_ok-others.others
      c.as_slice.result.now c.as_slice-2.result.now _ c.in_ok-entries.ensures.gives c.in_ok-others.ensures.gives
      c.as_slice.ensures c.as_slice-2.ensures c.in_ok-are_renamed.ensures.1 c.if-not-branch.true;
}

pub returns-clause-some : goal.returns-clause-some
returns-clause-some c =
    let names = c.args.names.now in
    let xs = c.in_ok-entries.entries in
    let ys = c.in_ok-others.others in
    let renamed : AreRenamed names xs ys =
    subst (λ (es : List (List ℕ)). AreRenamed names xs es) c.as_slice-2.ensures
    (subst (λ (es : List (List ℕ)). AreRenamed names es c.as_slice-2.result.now) c.as_slice.ensures
    (c.in_ok-are_renamed.ensures.0 c.if-not-branch.false)) in
    loaded_renamed names c.args.definition.now c.args.renamed.now c.in_ok-graph.graph c.in_ok-other.other xs ys
    c.in_ok-entries.ensures.gives c.in_ok-others.ensures.gives c.in_ok-graph.ensures.graph c.in_ok-other.ensures.graph
    renamed c.rewritten_has_same_result.ensures
