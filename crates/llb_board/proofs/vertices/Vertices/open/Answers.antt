use Rattle.std.proofs.Common.{◌∙◌, List, length, map, sym, ap, subst}
use Rattle.llb_model.specs.Program.{Build}
use Rattle.llb_model.specs.State.{Status}
use Rattle.llb_board.specs.Vertices.{VerticesValue, IsInStep, all_waiting, status_of}
use Rattle.llb_board.proofs.DerivedVertexData.{in_step_at_first}
use Rattle.llb_board.proofs.StatusLists.{all_wait}
use Rattle.llb_board.proofs.vertices.Vertices.open.Goals as goal

pub invariant_of-result : goal.invariant_of-result
invariant_of-result c =
    let b = c.new-build.result in
    subst (λ S. IsInStep b S c.in-Ok.stop_marks.items c.in-Ok.links 0) (sym (ap (map status_of) c.in-Ok.ensures.stages ∙ all_wait (length b.graph.vertices)))
    (in_step_at_first b c.in-Ok.stop_marks.items c.in-Ok.links c.in-Ok.ensures.graph c.in-Ok.ensures.marks c.in-Ok.ensures.links)

with_statuses : Build → List Status → VerticesValue
with_statuses b S = record { build = b; statuses = S }

pub returns-in-Ok-clause-ok : goal.returns-in-Ok-clause-ok
unfolding with_statuses
returns-in-Ok-clause-ok c =
    let waits = ap (map status_of) c.in-Ok.ensures.stages ∙ all_wait (length c.new-build.result.graph.vertices) in
    ap (with_statuses c.new-build.result) waits ∙ ap all_waiting c.new-build.ensures
