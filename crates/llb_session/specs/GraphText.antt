-- The text of a graph: one line for each vertex by number, and one for the result. And the digests of the vertices' entries, a line each.
use Rattle.std.specs.Prelude.{ℕ, List, [], ◌∷◌, ◌++◌, codes}
use Rattle.std.specs.List.{flat_map, enumerate_from}
use Rattle.std.specs.Fmt.{decimal}
use Rattle.llb_loader.specs.declared.graph.Edge.{Edge}
use Rattle.llb_loader.specs.declared.graph.Vertex.{Vertex}
use Rattle.llb_loader.specs.Graph.{Numbered}
use Rattle.llb_ops.specs.OpKindNames.{kind_text}

-- the text of an edge: the number of the vertex, a point, and the index of the vertex's output
abbrev pub edge_text : Edge → List ℕ
edge_text e = decimal e.vertex ++ (codes "." ++ decimal e.index)

-- the text of an input of a vertex: a space, and then the edge
abbrev pub input_text : Edge → List ℕ
input_text e = codes " " ++ edge_text e

-- the text of the inputs of a vertex: each input with a space before it, or a space and a dash if there are none
abbrev pub inputs_text : List Edge → List ℕ
inputs_text [] = codes " -"
inputs_text (e ∷ es) = flat_map input_text (e ∷ es)

-- the line of the vertex with this number
abbrev pub vertex_line : ℕ → Vertex → List ℕ
vertex_line number v = decimal number ++ (codes " " ++ (kind_text v.op.kind ++ (codes " steps " ++ (decimal v.steps
    ++ (codes " outputs " ++ (decimal v.outputs ++ (codes " inputs" ++ (inputs_text v.inputs ++ codes "\n"))))))))

-- the line of a vertex that is paired with its number
abbrev pub numbered_line : ℕ × Vertex → List ℕ
numbered_line v = vertex_line v.0 v.1

-- the lines of the vertices, numbered from 0
abbrev pub vertex_lines : List Vertex → List ℕ
vertex_lines vertices = flat_map numbered_line (enumerate_from 0 vertices)

-- the line of the result
abbrev pub result_line : Edge → List ℕ
result_line e = codes "result " ++ (edge_text e ++ codes "\n")

-- the text of a graph
abbrev pub graph_text : Numbered → List ℕ
graph_text g = vertex_lines g.vertices ++ result_line g.result

-- the line with the digest of a vertex's entry, for a vertex that is paired with its number
abbrev pub digest_line : ℕ × Vertex → List ℕ
digest_line v = decimal v.0 ++ (codes " " ++ (v.1.digest ++ codes "\n"))

-- the lines with the digests, by number
abbrev pub digest_lines : List Vertex → List ℕ
digest_lines vertices = flat_map digest_line (enumerate_from 0 vertices)
