use Rattle.std.proofs.Common.{◌≡◌, ◌∙◌, Some, false, length, sym, ap, arith}
use Rattle.std.specs.Prelude.{slice_get}
use Rattle.std.specs.List.{list_any}
use Rattle.llb_loader.specs.declared.graph.Vertex.{Vertex}
use Rattle.llb_loader.proofs.OutputNumbers.{false_when, true_when}
use Rattle.llb_model.specs.Program.{program_of}
use Rattle.llb_model.proofs.Lists.{got_within}
use Rattle.llb_laws.specs.ContentLaws.{step_digests}
use Rattle.llb_laws.proofs.TokenPlans.{differ, got_item, one_more}
use Rattle.llb_laws.proofs.token_plan.some_makes_digest.Goals as goal

pub loop-vertex-preserved : goal.loop-vertex-preserved
loop-vertex-preserved c =
    let vs = c.args.graph.now.vertices in
    let i = c.loop-vertex.vertex-index in
    let x = c.vertex-item.result in
    let there : slice_get vs i ≡ Some x =
    got_item c.vertices-vertex-items.result.now vs i x c.vertices-vertex-items.ensures.all c.loop-vertex-test.true c.vertex-item.is in
    let none : list_any step_digests (program_of x).steps ≡ false = sym c.makes_digest.ensures ∙ c.if-makes_digest.false in
    one_more (λ k (y : Vertex). list_any step_digests (program_of y).steps ≡ false) vs i x there none c.loop-vertex.invariant

pub returns-then-makes_digest : goal.returns-then-makes_digest
returns-then-makes_digest c =
    let vs = c.args.graph.now.vertices in
    let i = c.loop-vertex.vertex-index in
    let x = c.vertex-item.result in
    let there : slice_get vs i ≡ Some x =
    got_item c.vertices-vertex-items.result.now vs i x c.vertices-vertex-items.ensures.all c.loop-vertex-test.true c.vertex-item.is in
    true_when (i, record { vertex = x; there = there; digests = sym c.makes_digest.ensures ∙ c.if-makes_digest.true })

pub returns : goal.returns
returns c =
    false_when (λ some.
    let low = got_within c.args.graph.now.vertices some.0 some.1.vertex some.1.there in
    let count = ap length c.vertices-vertex-items.ensures.all in
    differ (list_any step_digests (program_of some.1.vertex).steps)
    (c.loop-vertex.invariant some.0 some.1.vertex (omega (arith, low, count, c.loop-vertex-test.false)) some.1.there) some.1.digests)
