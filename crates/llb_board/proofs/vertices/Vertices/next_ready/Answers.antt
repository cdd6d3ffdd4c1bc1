use Rattle.std.proofs.Common.{◌≡◌, ◌<◌, map, length, sym, ◌∙◌, ap}
use Rattle.std.specs.Prelude.{◌&&◌, slice_get}
use Rattle.llb_board.specs.UsersAndOpenInputs.{has_inputs}
use Rattle.llb_model.specs.State.{is_ready, is_waiting}
use Rattle.llb_model.specs.Run.{least}
use Rattle.llb_board.specs.Vertices.{VerticesValue, status_of}
use Rattle.llb_board.proofs.VertexSearch.{least_here, least_later, least_from}
use Rattle.llb_board.proofs.DerivedVertexData.{tells_in, ready_here, over_not_ready}
use Rattle.llb_board.proofs.vertices.Vertices.next_ready.Goals as goal
use Rattle.llb_board.proofs.vertices.Vertices.next_ready.Goals.{After-is_ready}

pub loop-v-init : goal.loop-v-init
loop-v-init c =
    let b = c.self.inside in
    let S = map status_of b.stages.items in
    least_from (is_ready b.build S) (length b.build.graph.vertices) b.first_open (λ v low. over_not_ready b.build S v (c.self.invariant.over v low))

-- whether the vertex at hand is Ready
ready_is : (c : After-is_ready) → c.is_ready.result ≡ is_ready c.self.inside.build (map status_of c.self.inside.stages.items) c.loop-v.v
ready_is c =
    let b = c.self.inside in
    let S = map status_of b.stages.items in
    let kept = c.self.invariant in
    c.is_ready.ensures
    ∙ ap (λ ss. is_waiting (slice_get (map status_of ss) c.loop-v.v) && has_inputs b.links c.loop-v.v) c.deref.ensures.value
    ∙ ready_here b.build S b.links c.loop-v.v (tells_in b.build S b.links kept.graph kept.whole kept.linked) (rw c.vertices.ensures.all at c.loop-v-test.true)

pub loop-v-preserved : goal.loop-v-preserved
loop-v-preserved c =
    let b = c.self.inside in
    let low : c.loop-v.v < length b.build.graph.vertices = rw c.vertices.ensures.all at c.loop-v-test.true in
    least_later (is_ready b.build (map status_of b.stages.items)) (length b.build.graph.vertices) c.loop-v.v c.loop-v.invariant low
    (sym (ready_is (goal.at.loop-v-preserved c).After-is_ready) ∙ c.if-is_ready.false)

pub returns-then-is_ready : goal.returns-then-is_ready
returns-then-is_ready c =
    let b = c.self.inside in
    let low : c.loop-v.v < length b.build.graph.vertices = rw c.vertices.ensures.all at c.loop-v-test.true in
    sym (least_here (is_ready b.build (map status_of b.stages.items)) (length b.build.graph.vertices) c.loop-v.v c.loop-v.invariant low
    (sym (ready_is (goal.at.returns-then-is_ready c).After-is_ready) ∙ c.if-is_ready.true))
    ∙ ap (λ (n : VerticesValue). least (is_ready n.build n.statuses) 0 (length n.build.graph.vertices)) c.self.view_is
