use Rattle.llb_model.proofs.VertexKinds.{few_of}
use Rattle.llb_board.proofs.vertices.build.Build.vertex.Goals as goal

pub returns-clause-few : goal.returns-clause-few
returns-clause-few c = few_of c.args.self.now.graph c.args.v c.vertices.ensures.graph
