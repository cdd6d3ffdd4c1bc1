use Rattle.std.proofs.Common.{ℕ, List, refl, subst}
use Rattle.std.proofs.lemmas.Option.{slice_get_read}
use Rattle.llb_loader.specs.declared.graph.Vertex.{Vertex}
use Rattle.llb_laws.specs.KeptOutputs.{HasNoPlace, HaveNoPlace}
use Rattle.llb_laws.proofs.CopyOrigins.{placed_step}
use Rattle.llb_laws.proofs.kept_outputs.copies_of.Goals as goal

pub returns-in-None-clause-none : goal.returns-in-None-clause-none
returns-in-None-clause-none c =
    let vs = c.vertices-vertices.result.now in
    let os = c.vertices-others.result.now in
    let kept = c.args.kept.now in
    let y = c.index-others-w.result in
    let none : HasNoPlace vs kept os c.loop-w.copies.items y =
    subst (λ (ws : List ℕ). HasNoPlace vs kept os ws y) c.as_slice.ensures.value (c.placed.ensures.none c.in-None.is) in
    let found : HaveNoPlace vs kept os = record {
      number = c.loop-w.w;
      copies = c.loop-w.copies.items;
      before = c.loop-w.invariant;
      vertex = y;
      there = slice_get_read os _ c.loop-w.w y refl c.loop-w-test.true c.index-others-w.is;
      none = none;
    } in
    λ e. subst (λ (us : List Vertex). HaveNoPlace us kept c.args.other.now.vertices) c.vertices-vertices.ensures.all
    (subst (λ (us : List Vertex). HaveNoPlace vs kept us) c.vertices-others.ensures.all found)

pub loop-w-preserved : goal.loop-w-preserved
loop-w-preserved c =
    let os = c.vertices-others.result.now in
    placed_step c.vertices-vertices.result.now c.args.kept.now c.args.other.now c.vertices-others.ensures.graph os c.vertices-others.ensures.all
    c.loop-w.w c.index-others-w.result c.loop-w.copies.items c.as_slice.result.now c.in-Some.v c.push.new.self.items
    c.as_slice.ensures.value c.in_ok-push-in-Some.ensures.items c.loop-w.invariant
    (slice_get_read os _ c.loop-w.w c.index-others-w.result refl c.loop-w-test.true c.index-others-w.is)
    c.in-Some.ensures.some
