use Rattle.std.proofs.Common.{◌≡◌, List, rules, sym, ap, subst, ◌∙◌}
use Rattle.std.specs.Prelude.{Result, Ok, Err, None, true}
use Rattle.llb_model.specs.Program.{Build}
use Rattle.llb_model.specs.Outcome.{Outcome, outcomes}
use Rattle.llb_loader.specs.FirstMissingTree.{missing_local}
use Rattle.llb_plain.specs.declared.fault.PlainFault.{PlainFault}
use Rattle.llb_plain.specs.Evaluation.{evaluate_of, unless_refused, cache_from}
use Rattle.llb_plain.specs.CallResults.{Gives, MemoryLast, may_want_memory}
use Rattle.llb_plain.proofs.NoCaches.{none_has}
use Rattle.llb_plain.proofs.evaluation.evaluate.Goals as goal

-- where no local tree is missing and no vertex mounts a cache, nothing is refused
not_refused : (b : Build) → missing_local b.locals b.graph.vertices ≡ None → cache_from 0 b.graph.vertices ≡ None → evaluate_of b ≡ Ok (outcomes b)
not_refused b given none =
    ap (λ o. unless_refused o (cache_from 0 b.graph.vertices) (outcomes b)) given ∙ ap (λ o. unless_refused None o (outcomes b)) none

memory_last : (r rule : Result (List Outcome) PlainFault) → may_want_memory rule ≡ true → MemoryLast r rule
memory_last (Ok o) rule may = tt
memory_last (Err e) rule may = λ m. may

pub evaluate_all-requires : goal.evaluate_all-requires
evaluate_all-requires c =
    let none : cache_from 0 c.args.graph.now.vertices ≡ None = search rules in
    λ k v there. none_has 0 c.args.graph.now.vertices k v none there

pub returns-clause-gives : goal.returns-clause-gives
returns-clause-gives c =
    let b : Build = record { graph = c.args.graph.now; locals = c.args.locals.now } in
    let given : missing_local b.locals b.graph.vertices ≡ None = search rules in
    let none : cache_from 0 b.graph.vertices ≡ None = search rules in
    subst (λ (rule : Result (List Outcome) PlainFault). Gives (λ (o : List Outcome). o) c.evaluate_all.result rule)
    (sym (not_refused b given none)) c.evaluate_all.ensures

pub returns-clause-last : goal.returns-clause-last
returns-clause-last c =
    let b : Build = record { graph = c.args.graph.now; locals = c.args.locals.now } in
    let given : missing_local b.locals b.graph.vertices ≡ None = search rules in
    let none : cache_from 0 b.graph.vertices ≡ None = search rules in
    memory_last c.evaluate_all.result (evaluate_of b) (ap may_want_memory (not_refused b given none))
