use Rattle.std.proofs.Common.{◌≡◌, Some, length, ap, arith}
use Rattle.std.specs.Prelude.{slice_get}
use Rattle.llb_loader.specs.declared.graph.Vertex.{Vertex}
use Rattle.llb_loader.proofs.OutputNumbers.{false_when, true_when}
use Rattle.llb_model.proofs.Lists.{got_within}
use Rattle.llb_laws.specs.TokenLists.{IsSpelled, SourceStands}
use Rattle.llb_laws.proofs.TokenPlans.{differ, got_item, one_more}
use Rattle.llb_laws.proofs.OtherContents.{spelled_by_sources}
use Rattle.llb_laws.proofs.boards_on_tokens.are_spelled.Goals as goal

pub loop-vertex-preserved : goal.loop-vertex-preserved
loop-vertex-preserved c =
    let vs = c.args.graph.now.vertices in
    let i = c.loop-vertex.vertex-index in
    let x = c.vertex-item.result in
    let there : slice_get vs i ≡ Some x =
    got_item c.vertices-vertex-items.result.now vs i x c.vertices-vertex-items.ensures.all c.loop-vertex-test.true c.vertex-item.is in
    one_more (λ k (y : Vertex). SourceStands (IsSpelled c.args.contents.now) c.args.tokens.now c.args.locals.now y) vs i x there
    (c.in_ok-source_stands.ensures.0 c.if-not-branch.false) c.loop-vertex.invariant

pub returns-then-not-branch : goal.returns-then-not-branch
returns-then-not-branch c =
    let vs = c.args.graph.now.vertices in
    let i = c.loop-vertex.vertex-index in
    let x = c.vertex-item.result in
    let there : slice_get vs i ≡ Some x =
    got_item c.vertices-vertex-items.result.now vs i x c.vertices-vertex-items.ensures.all c.loop-vertex-test.true c.vertex-item.is in
    false_when (λ all. differ c.in_ok-source_stands.field-0 c.if-not-branch.true
    (c.in_ok-source_stands.ensures.1
    ((spelled_by_sources c.args.contents.now c.args.graph.now c.args.tokens.now c.args.locals.now).1 all i x there)))

pub returns : goal.returns
returns c =
    true_when ((spelled_by_sources c.args.contents.now c.args.graph.now c.args.tokens.now c.args.locals.now).0 (λ k x there.
    let low = got_within c.args.graph.now.vertices k x there in
    let count = ap length c.vertices-vertex-items.ensures.all in
    c.loop-vertex.invariant k x (omega (arith, low, count, c.loop-vertex-test.false)) there))
