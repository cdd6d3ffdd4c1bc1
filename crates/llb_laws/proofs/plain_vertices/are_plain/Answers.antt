use Rattle.std.proofs.Common.{sym, arith}
use Rattle.llb_loader.specs.declared.graph.Edge.{Edge}
use Rattle.llb_laws.specs.KeptOutputs.{plain_in}
use Rattle.llb_laws.proofs.PlainVertexTests.{all_true}
use Rattle.llb_laws.proofs.plain_vertices.are_plain.Goals as goal

pub returns : goal.returns
returns c =
    sym (all_true (λ (e : Edge). plain_in c.args.plains.now e.vertex) c.args.edges.now (record { vertex = 0; index = 0 })
    (λ i l. c.loop-edge.invariant i (omega (arith, l, c.loop-edge-test.false))))
