use Rattle.std.proofs.Common.{◌≡◌, ◌∙◌, Some, length, map, ap, arith}
use Rattle.std.specs.Prelude.{slice_get}
use Rattle.std.proofs.lemmas.List.{length-map, take_all}
use Rattle.llb_laws.specs.TokenPlans.{is_cause}
use Rattle.llb_laws.proofs.TokenPlans.{got_item, map_more}
use Rattle.llb_laws.proofs.token_plan.causes_of.Goals as goal

pub loop-vertex-preserved : goal.loop-vertex-preserved
loop-vertex-preserved c =
    let vs = c.args.graph.now.vertices in
    let i = c.loop-vertex.vertex-index in
    let x = c.vertex-item.result in
    let there : slice_get vs i ≡ Some x =
    got_item c.vertices-vertex-items.result.now vs i x c.vertices-vertex-items.ensures.all c.loop-vertex-test.true c.vertex-item.is in
    map_more (is_cause c.args.some) vs i x c.loop-vertex.marks.items c.push.new.self.items c.is_cause.result there c.loop-vertex.invariant c.is_cause.ensures
    c.in_ok-push.ensures.items

pub returns : goal.returns
returns c =
    let vs = c.args.graph.now.vertices in
    let count = length-map vs (is_cause c.args.some) in
    let size = ap length c.vertices-vertex-items.ensures.all in
    c.loop-vertex.invariant
    ∙ take_all c.loop-vertex.vertex-index (map (is_cause c.args.some) vs) (omega (arith, count, size, c.loop-vertex-test.false))
