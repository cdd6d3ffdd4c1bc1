use Rattle.std.proofs.Common.{◌≡◌, Some, false, get_or, length, ap, arith}
use Rattle.std.specs.Prelude.{slice_get}
use Rattle.llb_loader.specs.declared.graph.Vertex.{Vertex}
use Rattle.llb_loader.proofs.OutputNumbers.{false_when, true_when}
use Rattle.llb_model.proofs.Lists.{got_within}
use Rattle.llb_laws.specs.TokenLists.{SourceStands, StandsFor}
use Rattle.llb_laws.proofs.TokenPlans.{differ, got_item, one_more}
use Rattle.llb_laws.proofs.boards_on_tokens.sources_stand.Goals as goal

pub loop-v-preserved : goal.loop-v-preserved
loop-v-preserved c =
    let vs = c.args.graph.now.vertices in
    let v = c.loop-v.v in
    let x = c.index-vertices-v.result in
    let there : slice_get vs v ≡ Some x =
    got_item c.vertices-vertices.result.now vs v x c.vertices-vertices.ensures.all c.loop-v-test.true c.index-vertices-v.is in
    one_more (λ k (y : Vertex). SourceStands (StandsFor c.args.contents.now (get_or c.args.marks.now k false)) c.args.tokens.now c.args.locals.now y)
    vs v x there (c.in_ok-source_stands.ensures.0 c.if-not-branch.false) c.loop-v.invariant

pub returns-then-not-branch : goal.returns-then-not-branch
returns-then-not-branch c =
    let vs = c.args.graph.now.vertices in
    let v = c.loop-v.v in
    let x = c.index-vertices-v.result in
    let there : slice_get vs v ≡ Some x =
    got_item c.vertices-vertices.result.now vs v x c.vertices-vertices.ensures.all c.loop-v-test.true c.index-vertices-v.is in
    false_when (λ all. differ c.in_ok-source_stands.field-0 c.if-not-branch.true (c.in_ok-source_stands.ensures.1 (all v x there)))

pub returns : goal.returns
returns c =
    true_when (λ k x there.
    let low = got_within c.args.graph.now.vertices k x there in
    let count = ap length c.vertices-vertices.ensures.all in
    c.loop-v.invariant k x (omega (arith, low, count, c.loop-v-test.false)) there)
