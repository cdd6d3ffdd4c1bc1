use Rattle.std.proofs.Common.{◌≡◌, ◌∙◌, map, refl, sym, ap}
use Rattle.std.specs.Prelude.{true, false, ◌&&◌, Option, Some, None, Err, is_ok, is_some, slice_get}
use Rattle.llb_board.specs.UsersAndOpenInputs.{has_inputs}
use Rattle.llb_model.specs.Program.{Start}
use Rattle.llb_model.specs.State.{Idle, is_waiting, start_from}
use Rattle.llb_model.specs.Table.{claim_start}
use Rattle.llb_model.specs.Table as table
use Rattle.llb_model.proofs.VertexKinds.{kind_at}
use Rattle.llb_board.specs.Vertices.{VerticesValue, status_of}
use Rattle.llb_events.specs.declared.refusal.ClaimFault.TheVariants.{NotReady}
use Rattle.llb_board.proofs.UsersOverStatuses.{ready_so}
use Rattle.llb_board.proofs.DerivedVertexData.{tells_in}
use Rattle.llb_board.proofs.vertices.Vertices.ready.Goals as goal
use Rattle.llb_board.proofs.vertices.Vertices.ready.Goals.{After-is_ready}

not_ready : (o : Option Start) → is_some o ≡ false → (table.or_not_ready o) ≡ Err NotReady
not_ready None is = refl
not_ready (Some start) is = absurd cc

is_there : (o : Option Start) → is_some o ≡ true → is_ok (table.or_not_ready o) ≡ true
is_there None is = absurd cc
is_there (Some start) is = refl

-- what the vertex begins with is there where it is Ready
starts : (c : After-is_ready)
    → is_some (start_from (map status_of c.self.inside.stages.items) (slice_get (map status_of c.self.inside.stages.items) c.args.v)
    (Some c.in-Some.vertex.now)) ≡ c.is_ready.result
starts c =
    let b = c.self.inside in
    let S = map status_of b.stages.items in
    let kept = c.self.invariant in
    ready_so b.build S b.links c.args.v c.in-Some.vertex.now (tells_in b.build S b.links kept.graph kept.whole kept.linked) (sym c.in-Some.ensures.there)
    ∙ ap (λ ss. is_waiting (slice_get (map status_of ss) c.args.v) && has_inputs b.links c.args.v) (sym c.deref.ensures.value) ∙ sym c.is_ready.ensures

pub returns-then-not-is_ready-clause-first : goal.returns-then-not-is_ready-clause-first
returns-then-not-is_ready-clause-first c =
    let b = c.self.inside in
    ap (λ (n : VerticesValue). (claim_start n.statuses c.args.v (Some Idle) (slice_get n.build.graph.vertices c.args.v)))
    (sym c.self.view_is)
    ∙ ap (λ o. (claim_start (map status_of b.stages.items) c.args.v (Some Idle) o)) (sym c.in-Some.ensures.there)
    ∙ not_ready _ (starts (goal.at.returns-then-not-is_ready-clause-first c).After-is_ready ∙ c.if-not-is_ready.true)

pub returns-clause-kind : goal.returns-clause-kind
returns-clause-kind c = kind_at c.self.inside.build.graph c.args.v c.in-Some.vertex.now c.in-Some.ensures.graph (sym c.in-Some.ensures.there)

pub returns-clause-first : goal.returns-clause-first
returns-clause-first c =
    let b = c.self.inside in
    ap (λ (n : VerticesValue). is_ok (claim_start n.statuses c.args.v (Some Idle) (slice_get n.build.graph.vertices c.args.v))) (sym c.self.view_is)
    ∙ ap (λ o. is_ok (claim_start (map status_of b.stages.items) c.args.v (Some Idle) o)) (sym c.in-Some.ensures.there)
    ∙ is_there _ (starts (goal.at.returns-clause-first c).After-is_ready ∙ c.if-not-is_ready.false)
