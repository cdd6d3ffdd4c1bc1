use Rattle.std.proofs.Common.{List, length, get_or, ap, subst, ◌∙◌, arith}
use Rattle.std.proofs.lemmas.Option.{get_or_from_slice_get}
use Rattle.llb_loader.specs.declared.graph.Vertex.{Vertex}
use Rattle.llb_laws.specs.TokenRuns.{SourceHasNames}
use Rattle.llb_laws.proofs.CacheRowWalks.{all_next, all_walked}
use Rattle.llb_laws.proofs.trees_with_names.locals_have_names.Goals as goal

pub loop-vertex-preserved : goal.loop-vertex-preserved
loop-vertex-preserved c =
    let i = c.loop-vertex.vertex-index in
    let vertex = c.vertex-item.result in
    all_next (SourceHasNames c.args.locals.now) c.args.graph.now.vertices i c.loop-vertex.invariant (λ x there.
    subst (SourceHasNames c.args.locals.now)
    (c.vertex-item.is ∙ ap (λ (vs : List Vertex). get_or vs i vertex) c.vertices-vertex-items.ensures.all
    ∙ get_or_from_slice_get c.args.graph.now.vertices i x vertex there)
    c.source_has_names.ensures)

pub returns : goal.returns
returns c =
    all_walked (SourceHasNames c.args.locals.now) c.args.graph.now.vertices c.loop-vertex.vertex-index
    (omega (arith, c.loop-vertex-test.false, ap length c.vertices-vertex-items.ensures.all)) c.loop-vertex.invariant
