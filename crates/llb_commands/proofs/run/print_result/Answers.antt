use Rattle.std.proofs.Common.{ap, subst, inl, ◌∙◌}
use Rattle.std.proofs.KnownBytes.{Keeps-refl}
use Rattle.std.proofs.lemmas.Result.{err_from_is_err_and}
use Rattle.llb_loader.specs.declared.graph.Edge.{Edge}
use Rattle.llb_loader.specs.Graph.{Numbered}
use Rattle.llb_model.specs.Outcome.{output_in}
use Rattle.llb_model.specs.State.{ending_at}
use Rattle.llb_commands.specs.Running.{Finishes, Shows}
use Rattle.llb_commands.proofs.RunOutput.{answers, stream}
use Rattle.llb_commands.proofs.run.print_result.Goals as goal

pub returns : goal.returns
returns g c = λ workers locals input finishes.
    let output = stream (g.W.Write.contents c.args.out.now) (g.W.Write.contents c.print_output.new.out) in
    let b = c.in_ok-board.board in
    let edge = c.result-edge.ensures ∙ ap (λ (n : Numbered). n.result) c.graph.ensures in
    answers workers locals input b c.is_graph.ensures (subst (Finishes workers locals input) c.in_ok-board.was finishes) output c.print_output.result
    (subst (λ (e : Edge). Shows b output (output_in (ending_at b.state.statuses e.vertex) e.index) c.print_output.result) edge c.print_output.ensures)

pub returns-in_err-board : goal.returns-in_err-board
returns-in_err-board g c = λ workers locals input finishes.
    let tells = subst (Finishes workers locals input) c.in_err-board.was finishes in
    let p = err_from_is_err_and c.from_residual.result c.from_residual.ensures.1 in
    rw (p.1, p.2) (inl (Keeps-refl (g.W.Write.contents c.args.out.now), tells))
