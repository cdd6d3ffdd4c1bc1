use Rattle.std.proofs.Common.{◌≡◌, length, sym, ap, ◌∙◌}
use Rattle.std.specs.Prelude.{slice_get, Some}
use Rattle.llb_model.specs.Program.{program_at}
use Rattle.llb_model.proofs.VertexKinds.{counted, few_steps}
use Rattle.llb_board.proofs.vertices.build.Build.steps.Goals as goal

pub returns-in-Some-clause-all : goal.returns-in-Some-clause-all
returns-in-Some-clause-all c =
    let at : slice_get c.args.self.now.graph.vertices c.args.v ≡ Some c.in-Some.vertex.now = sym c.in-Some.ensures.there in
    counted c.args.self.now.graph c.args.v c.in-Some.vertex.now c.in-Some.ensures.graph at ∙ ap (λ o. length (program_at o).steps) (sym at)

pub returns-in-Some-clause-few : goal.returns-in-Some-clause-few
returns-in-Some-clause-few c =
    few_steps c.args.self.now.graph c.args.v c.in-Some.vertex.now c.in-Some.ensures.graph (sym c.in-Some.ensures.there)
