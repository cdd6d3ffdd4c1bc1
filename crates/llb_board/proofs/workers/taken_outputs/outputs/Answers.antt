use Rattle.std.proofs.Common.{◌≡◌, List, Option, None, replicate, sym, ap, ◌∙◌, rules}
use Rattle.std.specs.Prelude.{option_map}
use Rattle.llb_loader.specs.declared.graph.Vertex.{Vertex}
use Rattle.llb_tree.specs.Tree.{TreeMap, empty_tree}
use Rattle.llb_model.specs.Program.{Workspace, program_at, outputs_of}
use Rattle.llb_board.proofs.workers.taken_outputs.outputs.Goals as goal

-- where there is no vertex, there are no outputs
none_of : (o : Option Vertex) (view : Workspace) (trees : List TreeMap) → o ≡ None → trees ≡ replicate (program_at o).outputs empty_tree
    → trees ≡ outputs_of (program_at o) view
unfolding outputs_of
none_of o view trees none is =
    is ∙ ap (λ p. replicate (program_at p).outputs empty_tree) none ∙ ap (λ p. outputs_of (program_at p) view) (sym none)

pub returns-in-None : goal.returns-in-None
returns-in-None c =
    let none : option_map (λ v. v.now) c.args.vertex ≡ None = search rules in
    none_of (option_map (λ v. v.now) c.args.vertex) c.args.view c.args.outputs.items none c.requires
