use Rattle.std.proofs.Common.{List, subst, refl, arith}
use Rattle.std.proofs.lemmas.Option.{slice_get_read}
use Rattle.llb_loader.specs.declared.graph.Vertex.{Vertex}
use Rattle.llb_laws.specs.MatchingMarks.{ArePartnersBy}
use Rattle.llb_laws.proofs.MatchingMarks.{partnered_step, all_partnered}
use Rattle.llb_laws.proofs.matching.partners_of.Goals as goal

pub loop-w-preserved : goal.loop-w-preserved
loop-w-preserved c =
    let vs = c.vertices-vertices.result.now in
    let os = c.vertices-others.result.now in
    let w = c.loop-w.w in
    partnered_step c.args.graph.now c.args.other.now c.vertices-vertices.ensures.graph c.vertices-others.ensures.graph vs os
    c.vertices-vertices.ensures.all c.vertices-others.ensures.all c.args.marks.now w c.index-others-w.result
    c.loop-w.partners.items c.as_slice.result.now c.first_like-partner.result c.push.new.self.items
    c.as_slice.ensures.value c.in_ok-push.ensures.items c.loop-w.invariant
    (slice_get_read os _ w c.index-others-w.result refl c.loop-w-test.true c.index-others-w.is)
    c.first_like-partner.ensures

pub returns : goal.returns
returns c =
    subst (λ (us : List Vertex). ArePartnersBy us c.args.marks.now c.args.other.now.vertices c.loop-w.partners.items) c.vertices-vertices.ensures.all
    (subst (λ (us : List Vertex). ArePartnersBy c.vertices-vertices.result.now c.args.marks.now us c.loop-w.partners.items) c.vertices-others.ensures.all
    (all_partnered c.vertices-vertices.result.now c.args.marks.now c.vertices-others.result.now c.loop-w.w c.loop-w.partners.items
    (omega (arith, c.loop-w-test.false, c.loop-w.auto.w-end)) c.loop-w.invariant))
