use Rattle.std.proofs.Common.{◌≡◌, ◌∙◌, Some, false, length, sym, ap, arith}
use Rattle.std.specs.Prelude.{slice_get}
use Rattle.std.specs.List.{list_any}
use Rattle.llb_loader.specs.declared.graph.Vertex.{Vertex}
use Rattle.llb_loader.proofs.OutputNumbers.{false_when, true_when}
use Rattle.llb_model.specs.Program.{program_of}
use Rattle.llb_model.proofs.Lists.{got_within}
use Rattle.llb_laws.specs.ContentLaws.{step_writes_mark}
use Rattle.llb_laws.proofs.TokenPlans.{differ, got_item, one_more}
use Rattle.llb_laws.proofs.token_byte_writers.writes_no_mark.Goals as goal

pub loop-vertex-preserved : goal.loop-vertex-preserved
loop-vertex-preserved c =
    let vs = c.args.graph.now.vertices in
    let i = c.loop-vertex.vertex-index in
    let x = c.vertex-item.result in
    let there : slice_get vs i ≡ Some x =
    got_item c.vertices-vertex-items.result.now vs i x c.vertices-vertex-items.ensures.all c.loop-vertex-test.true c.vertex-item.is in
    let none : list_any step_writes_mark (program_of x).steps ≡ false = sym c.op_writes_mark.ensures ∙ c.if-op_writes_mark.false in
    one_more (λ k (y : Vertex). list_any step_writes_mark (program_of y).steps ≡ false) vs i x there none c.loop-vertex.invariant

pub returns-then-op_writes_mark : goal.returns-then-op_writes_mark
returns-then-op_writes_mark c =
    let vs = c.args.graph.now.vertices in
    let i = c.loop-vertex.vertex-index in
    let x = c.vertex-item.result in
    let there : slice_get vs i ≡ Some x =
    got_item c.vertices-vertex-items.result.now vs i x c.vertices-vertex-items.ensures.all c.loop-vertex-test.true c.vertex-item.is in
    false_when (λ none.
    differ (list_any step_writes_mark (program_of x).steps) (none i x there) (sym c.op_writes_mark.ensures ∙ c.if-op_writes_mark.true))

pub returns : goal.returns
returns c =
    true_when (λ k x there.
    let low = got_within c.args.graph.now.vertices k x there in
    let count = ap length c.vertices-vertex-items.ensures.all in
    c.loop-vertex.invariant k x (omega (arith, low, count, c.loop-vertex-test.false)) there)
