use Rattle.std.proofs.Common.{◌≡◌, ◌∙◌, ◌-◌, ◌<◌, Some, length, map, sym, ap, subst, arith, List}
use Rattle.std.specs.Prelude.{slice_get}
use Rattle.std.specs.List.{All}
use Rattle.llb_loader.specs.declared.graph.Edge.{Edge}
use Rattle.llb_loader.specs.declared.graph.Vertex.{Vertex}
use Rattle.llb_loader.specs.Graph.{links}
use Rattle.llb_laws.specs.TokenPlans.{Passes}
use Rattle.llb_laws.proofs.TokenPlans.{IsSpread, edges_within, got_item, spread_begins, spread_ends, spread_passes}
use Rattle.llb_laws.proofs.token_plan.spread.Goals as goal

pub loop-i-init : goal.loop-i-init
loop-i-init c = spread_begins (links c.args.graph.now.vertices) c.args.marks.now.items (length c.args.graph.now.vertices) c.requires

pub pass-requires-clause-low : goal.pass-requires-clause-low
pass-requires-clause-low c =
    let size = ap length c.vertices-vertices.ensures.all in
    omega (arith, size, c.loop-i-test.true, c.loop-i.invariant.count)

pub pass-requires-clause-edges : goal.pass-requires-clause-edges
pass-requires-clause-edges c =
    let g = c.args.graph.now in
    let xs = c.vertices-vertices.result.now in
    let v = length xs - 1 - c.loop-i.i in
    let x = c.index-vertices-v.result in
    let low : v < length xs = omega (arith, c.loop-i-test.true) in
    let inputs = c.as_slice.ensures ∙ ap (λ (y : Vertex). y.inputs) (sym c.index-vertices-v.is) in
    subst (λ (es : List Edge). All (λ (e : Edge). e.vertex < length c.loop-i.marks.items) es) (sym inputs)
    (edges_within g c.vertices-vertices.ensures.graph v x (length c.loop-i.marks.items)
    (got_item xs g.vertices v x c.vertices-vertices.ensures.all low c.index-vertices-v.is) c.loop-i.invariant.count)

pub loop-i-preserved : goal.loop-i-preserved
loop-i-preserved c =
    let g = c.args.graph.now in
    let xs = c.vertices-vertices.result.now in
    let i = c.loop-i.i in
    let v = length xs - 1 - i in
    let x = c.index-vertices-v.result in
    let size : length xs ≡ length g.vertices = ap length c.vertices-vertices.ensures.all in
    let low : v < length xs = omega (arith, c.loop-i-test.true) in
    let there : slice_get g.vertices v ≡ Some x = got_item xs g.vertices v x c.vertices-vertices.ensures.all low c.index-vertices-v.is in
    let inputs = c.as_slice.ensures ∙ ap (λ (y : Vertex). y.inputs) (sym c.index-vertices-v.is) in
    spread_passes g c.vertices-vertices.ensures.graph c.args.marks.now.items c.loop-i.marks.items c.pass.new.marks.items i v x there
    (omega (arith, size, c.loop-i-test.true))
    (subst (λ (es : List Edge). Passes c.loop-i.marks.items v (map (λ (e : Edge). e.vertex) es) c.pass.new.marks.items) inputs c.pass.ensures)
    c.loop-i.invariant

pub returns-clause-count : goal.returns-clause-count
returns-clause-count c = c.loop-i.invariant.count ∙ sym c.requires

pub returns-clause-marked : goal.returns-clause-marked
returns-clause-marked c =
    let g = c.args.graph.now in
    let n = length g.vertices in
    let size : length c.vertices-vertices.result.now ≡ length g.vertices = ap length c.vertices-vertices.ensures.all in
    let end : c.loop-i.i ≡ n = omega (arith, size, c.loop-i-test.false, c.loop-i.auto.i-end) in
    spread_ends (links g.vertices) c.args.marks.now.items c.loop-i.marks.items n
    (subst (λ k. IsSpread (links g.vertices) c.args.marks.now.items c.loop-i.marks.items n k) end c.loop-i.invariant)
