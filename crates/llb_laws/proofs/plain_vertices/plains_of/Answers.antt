use Rattle.std.proofs.Common.{[], List, refl, ap, ◌∙◌, arith}
use Rattle.std.proofs.lemmas.List.{take_all}
use Rattle.std.proofs.lemmas.Option.{slice_get_read}
use Rattle.llb_loader.specs.declared.graph.Vertex.{Vertex}
use Rattle.llb_model.specs.ListsFromEarlierItems.{by_number}
use Rattle.llb_model.specs.Outcome.{next_plain}
use Rattle.llb_model.proofs.ItemsFromEarlierItems.{by_number_length}
use Rattle.llb_laws.proofs.PlainVertexTests.{one_plain_more}
use Rattle.llb_laws.proofs.plain_vertices.plains_of.Goals as goal

pub loop-v-preserved : goal.loop-v-preserved
loop-v-preserved c =
    let vs = c.vertices-vertices.result.now in
    one_plain_more vs c.loop-v.v c.index-vertices-v.result c.loop-v.plains.items c.as_slice.result.now c.push.new.self.items c.next_plain-plain.result
    (slice_get_read vs _ c.loop-v.v c.index-vertices-v.result refl c.loop-v-test.true c.index-vertices-v.is)
    c.loop-v.invariant c.as_slice.ensures.value c.next_plain-plain.ensures c.in_ok-push.ensures.items

pub returns : goal.returns
returns c =
    let vs = c.vertices-vertices.result.now in
    let count = by_number_length next_plain vs in
    c.loop-v.invariant ∙ take_all c.loop-v.v (by_number next_plain [] vs) (omega (arith, count, c.loop-v-test.false))
    ∙ ap (λ (us : List Vertex). by_number next_plain [] us) c.vertices-vertices.ensures.all
