use Rattle.std.proofs.Common.{List, subst, refl, arith}
use Rattle.std.proofs.lemmas.Option.{slice_get_read}
use Rattle.llb_loader.specs.declared.graph.Vertex.{Vertex}
use Rattle.llb_laws.specs.MatchingMarks.{AreMarks}
use Rattle.llb_laws.proofs.MatchingMarks.{marked_step, all_marked}
use Rattle.llb_laws.proofs.matching.marks_of.Goals as goal

pub loop-v-preserved : goal.loop-v-preserved
loop-v-preserved c =
    let vs = c.vertices-vertices.result.now in
    let v = c.loop-v.v in
    marked_step c.args.graph.now c.vertices-vertices.ensures.graph vs c.vertices-vertices.ensures.all v c.index-vertices-v.result
    c.loop-v.marks.items c.as_slice.result.now c.as_slice-in-loop-v.result.now c.first_like-mark.result c.push.new.self.items
    c.as_slice.ensures.value c.as_slice-in-loop-v.ensures.value c.in_ok-push.ensures.items c.loop-v.invariant
    (slice_get_read vs _ v c.index-vertices-v.result refl c.loop-v-test.true c.index-vertices-v.is)
    c.first_like-mark.ensures

pub returns : goal.returns
returns c =
    subst (λ (us : List Vertex). AreMarks us c.loop-v.marks.items) c.vertices-vertices.ensures.all
    (all_marked c.vertices-vertices.result.now c.loop-v.v c.loop-v.marks.items
    (omega (arith, c.loop-v-test.false, c.loop-v.auto.v-end)) c.loop-v.invariant)
