use Rattle.std.proofs.Common.{◌∙◌, map, ap}
use Rattle.llb_board.specs.UsersAndOpenInputs.{users_of}
use Rattle.llb_board.specs.Vertices.{VerticesValue, done_in, status_of}
use Rattle.llb_board.proofs.UsersOverStatuses.{users_told}
use Rattle.llb_board.proofs.vertices.Vertices.users.Goals as goal

pub returns : goal.returns
returns c =
    let b = c.self.inside in
    c.users.ensures ∙ users_told b.build c.self.invariant.graph (done_in (map status_of b.stages.items)) b.links c.self.invariant.linked c.args.v
    ∙ ap (λ (n : VerticesValue). users_of n.build.graph.vertices c.args.v) c.self.view_is
