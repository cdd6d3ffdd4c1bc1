use Rattle.std.proofs.Common.{◌≡◌, true, List, [], option_map, sym, ap, ◌∙◌}
use Rattle.std.proofs.lemmas.Result.{err_from_is_err_and}
use Rattle.llb_cache.specs.Caches.{CachesValue}
use Rattle.llb_loader.specs.LocalSources.{Local}
use Rattle.llb_board.specs.BoardValue.{BoardValue, opened}
use Rattle.llb_board.specs.Opening.{may_work}
use Rattle.llb_laws.specs.TwoRuns.{after_each}
use Rattle.llb_laws.proofs.OpenedBoards.{open_gives}
use Rattle.llb_laws.proofs.Refusals.{kept_refusal}
use Rattle.llb_laws.proofs.two_runs.run.Goals as goal

pub returns-in_err-graph-clause-refused : goal.returns-in_err-graph-clause-refused
returns-in_err-graph-clause-refused c =
    let e = err_from_is_err_and c.from_residual.result c.from_residual.ensures.1 in
    let may : may_work c.args.workers ≡ true = sym c.may_work.ensures ∙ c.if-not-may_work.false in
    rw (e.1, e.2) (λ m. kept_refusal c.args.definition.now c.args.workers c.in_err-graph.field-0.0 may c.in_err-graph.ensures.refused m)

pub returns-in-Some-clause-none : goal.returns-in-Some-clause-none
returns-in-Some-clause-none c = λ e. record {
  graph = c.in_ok-graph.graph;
  loaded = c.in_ok-graph.ensures.graph;
  name = c.in-Some._name.now;
  missing = sym c.missing_local.ensures ∙ ap (option_map (λ t. t.now)) c.in-Some.is;
}

pub returns-in-Ok-open-clause-some : goal.returns-in-Ok-open-clause-some
returns-in-Ok-open-clause-some c =
    let g = c.in_ok-graph.graph in
    let trees = c.in-Ok.trees in
    let n = c.args.workers in
    let is = open_gives (record { graph = g; locals = trees }) c.new.result n c.in-Ok-open.opened c.in-Ok-open.ensures.gives in
    record {
      graph = g;
      loaded = c.in_ok-graph.ensures.graph;
      ran = c.in_ok-go_on-in-Ok-open.ensures ∙ ap (λ (b : BoardValue). after_each b c.args.events.now)
          (is ∙ ap (λ (cs : CachesValue). opened (record { graph = g; locals = trees }) n cs.rows) c.new.ensures
          ∙ ap (λ (ls : List Local). opened (record { graph = g; locals = ls }) n []) c.in-Ok.ensures);
    }
