use Rattle.std.proofs.Common.{◌≡◌, ℕ, List, Ok, inr, subst}
use Rattle.std.proofs.lemmas.Result.{err_from_is_err_and, MatchResult-weaker}
use Rattle.llb_ops.specs.Definition.{definition_of}
use Rattle.llb_loader.specs.Faults.{definition_fault}
use Rattle.llb_loader.specs.LoadResult.{IsRefusalIn}
use Rattle.llb_loader.proofs.DefinitionRefusals.{unreadable}
use Rattle.llb_loader.proofs.loading.load_owned.Goals as goal

pub returns-in_err-entries-clause-refused : goal.returns-in_err-entries-clause-refused
returns-in_err-entries-clause-refused c =
    let e = err_from_is_err_and c.from_residual.result c.from_residual.ensures.1 in
    rw (e.1, e.2) (λ m. subst (λ (bytes : List ℕ). IsRefusalIn bytes (definition_fault c.in_err-entries.field-0.0)) c.deref.ensures.value
    (unreadable c.deref.result.now c.in_err-entries.field-0.0 c.in_err-entries.ensures.gives m))

pub returns-clause-graph : goal.returns-clause-graph
returns-clause-graph c =
    let read = subst (λ (bytes : List ℕ). definition_of bytes ≡ Ok c.in_ok-entries.entries) c.deref.ensures.value c.in_ok-entries.ensures.gives in
    MatchResult-weaker c.linked.result c.linked.ensures.graph (λ g x. (c.in_ok-entries.entries, read, x)) (λ e t. t)

pub returns-clause-refused : goal.returns-clause-refused
returns-clause-refused c =
    let read = subst (λ (bytes : List ℕ). definition_of bytes ≡ Ok c.in_ok-entries.entries) c.deref.ensures.value c.in_ok-entries.ensures.gives in
    MatchResult-weaker c.linked.result c.linked.ensures.refused (λ g t. t) (λ e f m. inr (c.in_ok-entries.entries, read, f m))
