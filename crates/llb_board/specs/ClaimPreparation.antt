-- The outfit for a vertex: the part of a prepared claim that depends on the vertex alone.
use Rattle.std.specs.Prelude.{List, replicate}
use Rattle.llb_loader.specs.declared.graph.Vertex.{Vertex}
use Rattle.llb_tree.specs.Tree.{TreeMap, empty_tree}
use Rattle.llb_model.specs.Program as model
use Rattle.llb_board.specs.declared.workers.claim_preparation.Outfit.{Outfit}

-- what a claim prepares from the vertex alone: the program, an empty tree for each output, and the micro-steps
pub record Outfitted : Type 0 where
  pub program : model.Program
  pub outputs : List TreeMap
  pub steps : List model.MicroStep

-- what contracts see of an `Outfit` of the code: what a claim prepares from the vertex alone
abbrev pub outfit_as : Outfit → Outfitted
outfit_as o = record { program = o.program; outputs = o.outputs.items; steps = o.steps }

-- the outfit for a vertex: its program, an empty tree for each of its outputs, and its micro-steps
abbrev pub outfit_of : Vertex → Outfitted
outfit_of v = record { program = model.program_of v; outputs = replicate v.outputs empty_tree; steps = (model.program_of v).steps }
