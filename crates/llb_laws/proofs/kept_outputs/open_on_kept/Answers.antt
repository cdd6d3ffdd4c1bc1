use Rattle.std.proofs.Common.{◌≡◌, [], length, true, inl, inr, sym, ◌∙◌, subst}
use Rattle.std.specs.Prelude.{IfSome}
use Rattle.std.proofs.lemmas.Result.{err_from_is_err_and}
use Rattle.llb_loader.specs.Graph.{Numbered}
use Rattle.llb_model.specs.ListsFromEarlierItems.{by_number}
use Rattle.llb_model.specs.Outcome.{next_plain}
use Rattle.llb_board.specs.Opening.{may_work}
use Rattle.llb_laws.specs.KeptOutputs.{HaveNoPlace, MeetsCache, HaveTrees, ArePlaced}
use Rattle.llb_laws.proofs.CopyOrigins.{opened_stands_in}
use Rattle.llb_laws.proofs.Refusals.{kept_refusal}
use Rattle.llb_laws.proofs.kept_outputs.open_on_kept.Goals as goal

pub returns-in_err-graph-clause-refused : goal.returns-in_err-graph-clause-refused
returns-in_err-graph-clause-refused c =
    let e = err_from_is_err_and c.from_residual.result c.from_residual.ensures.1 in
    let may : may_work c.args.workers ≡ true = sym c.may_work.ensures ∙ c.if-not-may_work.false in
    rw (e.1, e.2) (λ m. kept_refusal c.args.definition.now c.args.workers c.in_err-graph.field-0.0 may c.in_err-graph.ensures.refused m)

pub returns-in_default-2-clause-none : goal.returns-in_default-2-clause-none
returns-in_default-2-clause-none c =
    let g = c.in_ok-graph.graph in
    λ e. record {
      graph = g;
      loaded = c.in_ok-graph.ensures.graph;
      none = inr (inl (subst (λ (u : Numbered). HaveNoPlace u.vertices c.args.kept.now g.vertices) c.graph-original.ensures
          (c.in_ok-_copies.ensures.none c.in_default-2.is)));
    }

pub returns-then-not-branch-clause-none : goal.returns-then-not-branch-clause-none
returns-then-not-branch-clause-none c =
    let g = c.in_ok-graph.graph in
    λ e. record {
      graph = g;
      loaded = c.in_ok-graph.ensures.graph;
      none = inr (inr (subst (λ (u : Numbered). MeetsCache (by_number next_plain [] u.vertices) c.args.kept.now g.vertices) c.graph-original.ensures
          (c.in_ok-are_kept_plain.ensures.no c.if-not-branch.true)));
    }

pub returns-in-Ok-clause-some : goal.returns-in-Ok-clause-some
returns-in-Ok-clause-some c =
    let b = c.args.board.now in
    let ls = c.args.locals.now in
    let kept = c.args.kept.now in
    let g = c.in_ok-graph.graph in
    let have : HaveTrees b ls kept g.vertices (length g.vertices) c.in-Some.trees =
    subst (λ o. IfSome o (λ trees. HaveTrees b ls kept g.vertices (length g.vertices) trees)) c.in-Some.is c.in_ok-trees.ensures.some in
    let placed : ArePlaced c.graph-original.result.now.vertices kept g.vertices (length g.vertices) c.in-Some-2._copies.items =
    subst (λ o. IfSome o (λ copies. ArePlaced c.graph-original.result.now.vertices kept g.vertices (length g.vertices) copies.items)) c.in-Some-2.is
    c.in_ok-_copies.ensures.some in
    λ given. opened_stands_in b c.in-Ok.continued ls kept c.in-Some-2._copies.items c.args.definition.now c.args.workers g
    c.graph-original.result.now c.in-Some.trees c.new.result c.graph-original.ensures c.new.ensures c.in-Ok.ensures.gives given have placed
    (c.in_ok-are_kept_plain.ensures.yes c.if-not-branch.false)
    c.in_ok-graph.ensures.graph c.kept_outputs_stand_in.ensures
