use Rattle.std.proofs.Common.{◌≡◌, ◌<◌, ◌∙◌, Bool, map, length, refl, sym, ap, arith}
use Rattle.std.specs.Prelude.{Some, ◌&&◌, false, unwrap_or, option_map, slice_get}
use Rattle.std.proofs.lemmas.Option.{slice_get_within, slice_get-get_or}
use Rattle.llb_board.specs.UsersAndOpenInputs.{has_inputs}
use Rattle.llb_model.specs.Outcome.{Done, Failed}
use Rattle.llb_model.specs.State.{Status, Waiting, Running, Settled, is_ready, is_waiting, is_blocked}
use Rattle.llb_board.specs.Statuses.{look, look_in}
use Rattle.llb_board.specs.Vertices.{VerticesValue, status_of}
use Rattle.llb_board.proofs.DerivedVertexData.{tells_in, ready_here}
use Rattle.llb_board.proofs.Lists.{get_map}
use Rattle.llb_board.proofs.vertices.Vertices.status.Goals as goal

-- whether a vertex is marked matters only while it waits
look_waiting : (ready marked : Bool) (s : Status) → look ready marked s ≡ look ready (is_waiting (Some s) && marked) s
look_waiting ready marked Waiting = refl
look_waiting ready marked (Running w) = refl
look_waiting ready marked (Settled (Done trees)) = refl
look_waiting ready marked (Settled (Failed f)) = refl

pub returns : goal.returns
returns c =
    let b = c.self.inside in
    let S = map status_of b.stages.items in
    let s = status_of c.in_ok-stage.stage.now in
    let kept = c.self.invariant in
    let there : slice_get b.stages.items c.args.v ≡ Some c.in_ok-stage.stage.now
    = ap (λ l. slice_get l c.args.v) (sym c.deref.ensures.value)
    ∙ slice_get-get_or c.deref.result.now c.args.v c.in_ok-stage.stage.now c.in_ok-stage.ensures.lookup.3.0
    ∙ ap (λ s. Some s) (sym c.in_ok-stage.ensures.lookup.1) in
    let at : slice_get S c.args.v ≡ Some s = get_map status_of b.stages.items c.args.v c.in_ok-stage.stage.now there in
    let low : c.args.v < length b.build.graph.vertices = omega (arith, slice_get_within S c.args.v s at, kept.count) in
    let ready : c.is_ready-ready.result ≡ is_ready b.build S c.args.v
    = c.is_ready-ready.ensures
    ∙ ap (λ l. is_waiting (slice_get (map status_of l) c.args.v) && has_inputs b.links c.args.v) c.deref-2.ensures.value
    ∙ ready_here b.build S b.links c.args.v (tells_in b.build S b.links kept.graph kept.whole kept.linked) low in
    let blocked : (is_waiting (Some s) && c.is_marked.result) ≡ is_blocked b.build S c.args.v
    = λ i. is_waiting (sym at i)
    && (c.is_marked.ensures ∙ ap (λ ms. unwrap_or (slice_get ms c.args.v) false) (c.deref-3.ensures.value ∙ kept.marks)) i in
    ap (λ k. Some k) (c.look.ensures ∙ look_waiting c.is_ready-ready.result c.is_marked.result s ∙ (λ i. look (ready i) (blocked i) s))
    ∙ ap (option_map (look (is_ready b.build S c.args.v) (is_blocked b.build S c.args.v))) (sym at)
    ∙ ap (λ (n : VerticesValue). look_in n.build n.statuses c.args.v) c.self.view_is
