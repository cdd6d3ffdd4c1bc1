use Rattle.std.proofs.Common.{subst, ap, ◌∙◌}
use Rattle.std.specs.Prelude.{Err}
use Rattle.std.specs.Io.KnownBytes.{Appends}
use Rattle.llb_session.specs.GraphText.{vertex_lines, result_line}
use Rattle.llb_commands.specs.GraphText.{is_memory, Writes}
use Rattle.llb_commands.proofs.TextsOfLines.{writes_after, writes_part}
use Rattle.llb_commands.proofs.graph_text.print_graph.Goals as goal

pub returns-in-Err-clause-writes : goal.returns-in-Err-clause-writes
returns-in-Err-clause-writes g c =
    let graph = c.args.graph.now in
    let out = g.W.Sink.taken c.args.out.now in
    let last = g.W.Sink.taken c.print_vertices.new.out in
    let failed = g.W.Sink.failed c.print_vertices.new.out in
    writes_part is_memory out last failed (vertex_lines graph.vertices) (result_line graph.result) c.in-Err.fault
    (subst (λ vs. Writes out last failed (vertex_lines vs) (Err c.in-Err.fault)) c.vertices.ensures.all c.in-Err.ensures.writes)

pub returns-in-Ok-result_line-clause-writes : goal.returns-in-Ok-result_line-clause-writes
returns-in-Ok-result_line-clause-writes g c =
    let graph = c.args.graph.now in
    let out = g.W.Sink.taken c.args.out.now in
    let lines = g.W.Sink.taken c.print_vertices.new.out in
    let last = g.W.Sink.taken c.write_line.new.out in
    let failed = g.W.Sink.failed c.write_line.new.out in
    let line = c.as_str.ensures.value ∙ c.in-Ok-result_line.ensures ∙ ap result_line c.result.ensures in
    writes_after is_memory out lines last failed (vertex_lines graph.vertices) (result_line graph.result) c.write_line.result
    (subst (λ vs. Appends out lines (vertex_lines vs)) c.vertices.ensures.all c.in-Ok.ensures.writes)
    (subst (λ text. Writes lines last failed text c.write_line.result) line c.write_line.ensures.writes)
