use Rattle.std.proofs.Common.{◌∙◌, length, refl, arith}
use Rattle.std.specs.List.{enumerate_from}
use Rattle.std.proofs.lemmas.Option.{slice_get_read}
use Rattle.std.proofs.lemmas.List.FromFn.{length-enumerate_from}
use Rattle.llb_session.specs.GraphText.{numbered_line}
use Rattle.llb_commands.specs.GraphText.{is_memory}
use Rattle.llb_commands.proofs.TextsOfLines.{numbered_at, prints_err, prints_more, prints_all}
use Rattle.llb_commands.proofs.graph_text.print_vertices.Goals as goal

pub returns-in-Err-clause-writes : goal.returns-in-Err-clause-writes
returns-in-Err-clause-writes g c =
    let vertices = c.args.vertices.now in
    let at = c.loop-number.number in
    let vertex = c.index-vertices-number.result in
    let here = numbered_at vertices at vertex (slice_get_read vertices (length vertices) at vertex refl c.loop-number-test.true c.index-vertices-number.is) in
    prints_err numbered_line is_memory (enumerate_from 0 vertices) at (at, vertex) (g.W.Sink.taken c.args.out.now)
    (g.W.Sink.taken c.loop-number.out) (g.W.Sink.taken c.print_vertex.new.out) (g.W.Sink.failed c.print_vertex.new.out) c.in-Err.fault here
    c.loop-number.invariant.0 c.in-Err.ensures.writes

pub loop-number-preserved : goal.loop-number-preserved
loop-number-preserved g c =
    let vertices = c.args.vertices.now in
    let at = c.loop-number.number in
    let vertex = c.index-vertices-number.result in
    let here = numbered_at vertices at vertex (slice_get_read vertices (length vertices) at vertex refl c.loop-number-test.true c.index-vertices-number.is) in (
      prints_more numbered_line (enumerate_from 0 vertices) at (at, vertex) (g.W.Sink.taken c.args.out.now)
          (g.W.Sink.taken c.loop-number.out) (g.W.Sink.taken c.print_vertex.new.out) here c.loop-number.invariant.0
          c.in-Ok.ensures.writes,
      c.print_vertex.ensures.same ∙ c.loop-number.invariant.1,
    )

pub returns-clause-writes : goal.returns-clause-writes
returns-clause-writes g c =
    let vertices = c.args.vertices.now in
    prints_all numbered_line (enumerate_from 0 vertices) c.loop-number.number (g.W.Sink.taken c.args.out.now) (g.W.Sink.taken c.loop-number.out)
    (omega (arith, length-enumerate_from 0 vertices, c.loop-number-test.false)) c.loop-number.invariant.0
