use Rattle.std.proofs.Common.{◌≡◌, ◌<◌, ◌+◌, ◌-◌, map, length, sym, ◌∙◌, ap}
use Rattle.std.specs.Prelude.{false, ◌||◌, ◌&&◌, unwrap_or, slice_get}
use Rattle.llb_model.specs.State.{is_blocked, is_waiting}
use Rattle.llb_model.specs.Run.{each, is_settled}
use Rattle.llb_board.specs.Vertices.{VerticesValue, status_of}
use Rattle.llb_board.proofs.VertexSearch.{each_next, each_later, each_from}
use Rattle.llb_board.proofs.DerivedVertexData.{over_ended}
use Rattle.llb_board.proofs.vertices.Vertices.are_settled.Goals as goal
use Rattle.llb_board.proofs.vertices.Vertices.are_settled.Goals.{After-is_ended}

pub loop-v-init : goal.loop-v-init
loop-v-init c =
    let b = c.self.inside in
    let S = map status_of b.stages.items in
    each_from (λ v. is_settled (slice_get S v) || is_blocked b.build S v) (length b.build.graph.vertices) b.first_open
    (λ v low. over_ended b.build S v (c.self.invariant.over v low))

-- whether the vertex at hand is settled or blocked
ended_is : (c : After-is_ended) → c.is_ended.result
    ≡ (is_settled (slice_get (map status_of c.self.inside.stages.items) c.loop-v.v)
    || is_blocked c.self.inside.build (map status_of c.self.inside.stages.items) c.loop-v.v)
ended_is c =
    let b = c.self.inside in
    c.is_ended.ensures
    ∙ (λ i. is_settled (slice_get (map status_of (c.deref.ensures.value i)) c.loop-v.v)
    || (is_waiting (slice_get (map status_of (c.deref.ensures.value i)) c.loop-v.v)
    && unwrap_or (slice_get ((c.deref-in-loop-v.ensures.value ∙ c.self.invariant.marks) i) c.loop-v.v) false))

pub loop-v-preserved : goal.loop-v-preserved
loop-v-preserved c =
    let b = c.self.inside in
    let S = map status_of b.stages.items in
    let low : c.loop-v.v < length b.build.graph.vertices = rw c.vertices.ensures.all at c.loop-v-test.true in
    each_later (λ v. is_settled (slice_get S v) || is_blocked b.build S v) (length b.build.graph.vertices) c.loop-v.v c.loop-v.invariant low
    (sym (ended_is (goal.at.loop-v-preserved c).After-is_ended) ∙ c.if-not-is_ended.false)

-- a vertex that is neither settled nor blocked decides the result
pub returns-then-not-is_ended : goal.returns-then-not-is_ended
returns-then-not-is_ended c =
    let b = c.self.inside in
    let S = map status_of b.stages.items in
    let n = length b.build.graph.vertices in
    let low : c.loop-v.v < n = rw c.vertices.ensures.all at c.loop-v-test.true in
    ap (λ t. t && each (λ v. is_settled (slice_get S v) || is_blocked b.build S v) (c.loop-v.v + 1) (n - (c.loop-v.v + 1)))
    (sym (sym (ended_is (goal.at.returns-then-not-is_ended c).After-is_ended) ∙ c.if-not-is_ended.true))
    ∙ sym (each_next (λ v. is_settled (slice_get S v) || is_blocked b.build S v) n c.loop-v.v low) ∙ c.loop-v.invariant
    ∙ ap (λ (m : VerticesValue). each (λ v. is_settled (slice_get m.statuses v) || is_blocked m.build m.statuses v) 0 (length m.build.graph.vertices))
    c.self.view_is
