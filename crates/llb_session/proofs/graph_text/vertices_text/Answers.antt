use Rattle.std.proofs.Common.{length, refl}
use Rattle.std.proofs.lemmas.Option.{slice_get_read}
use Rattle.llb_session.specs.GraphText.{numbered_line}
use Rattle.llb_session.proofs.GraphLines.{one_more, all_lines}
use Rattle.llb_session.proofs.graph_text.vertices_text.Goals as goal

pub loop-number-preserved : goal.loop-number-preserved
loop-number-preserved c =
    let vertices = c.args.vertices.now in
    let at = c.loop-number.number in
    let vertex = c.index-vertices-number.result in
    one_more numbered_line vertices at vertex _ _
    (slice_get_read vertices (length vertices) at vertex refl c.loop-number-test.true c.index-vertices-number.is)
    c.loop-number.invariant c.in_ok-push_vertex.ensures

pub returns : goal.returns
returns c = all_lines numbered_line c.args.vertices.now c.loop-number.number _ c.loop-number-test.false c.loop-number.invariant
