-- How a vertex is built: from the digest text and the op of a row, the rows that the op's inputs name, and the vertex numbers of these rows.
use Rattle.std.specs.Prelude.{◌≡◌, ℕ, ◌<◌, ◌≤◌, ◌^◌, nat_abs, List, [], length, slice_index, slice_index_or, None}
use Rattle.llb_ops.specs.declared.op.Op.{Op}
use Rattle.llb_ops.specs.declared.op.Input.{Input}
use Rattle.llb_loader.specs.declared.row.Row.{Row}
use Rattle.llb_loader.specs.declared.graph.Edge.{Edge}
use Rattle.llb_loader.specs.declared.graph.Vertex.{Vertex}
use Rattle.llb_loader.specs.ReachedRows.{inputs}
use Rattle.llb_loader.specs.Rules.{IsBelow, step_count, output_count}
use Rattle.llb_loader.specs.Scripts.{script_in}
use Rattle.llb_loader.specs.RowLookup.{row_at}
use Rattle.llb_loader.specs.GraphOfRows.{op_at, input_at}

-- edge i of a list; past the end, the edge to output 0 of vertex 0
abbrev pub edge_at : List Edge → ℕ → Edge
edge_at edges i = slice_index_or edges i (record { vertex = 0; index = 0 })

-- vertex n; an empty vertex past the end
abbrev pub vertex_at : List Vertex → ℕ → Vertex
vertex_at vertices n = slice_index_or vertices n
    (record { digest = []; op = record { inputs = []; kind = None; extra = [] }; script = None; inputs = []; steps = 0; outputs = 0 })

-- the edge to the vertex with this number, and to this vertex's output with the index that is in the input
abbrev pub edge_to : ℕ → Input → Edge
edge_to vertex input = record { vertex = vertex; index = nat_abs input.index }

-- the op has fewer than 2^25 micro-steps, at most 1,024 outputs, and as many inputs as `named` has rows; the index of each input is from 0 to 1,024
pub record IsBuildable (op : Op) (named : List ℕ) : Type 0 where
  pub steps : step_count op < 2 ^ 25
  pub outputs : output_count op ≤ 1_024
  pub len : length named ≡ length op.inputs
  pub indexes : (i : ℕ) → i < length op.inputs → IsBelow 1_025 (input_at op i).index

-- v is the vertex of the op `from` and the digest text `text`. Input i names row `named[i]`; edge i leads to that row's vertex, whose number is in `ranks`.
pub record IsBuilt (text : List ℕ) (from : Op) (named ranks : List ℕ) (v : Vertex) : Type 0 where
  pub digest : v.digest ≡ text
  pub op : v.op ≡ from
  pub script : v.script ≡ script_in from
  pub len : length v.inputs ≡ length from.inputs
  pub edges : (i : ℕ) → i < length from.inputs → edge_at v.inputs i ≡ edge_to (slice_index ranks (slice_index named i)) (input_at from i)
  pub steps : v.steps ≡ step_count from
  pub outputs : v.outputs ≡ output_count from

-- vertices 0 to n - 1 are the vertices of the first n rows in `order`
abbrev pub AreBuilt : List Row → List Op → List (List ℕ) → List ℕ → List ℕ → List Vertex → ℕ → Type 0
AreBuilt rows ops links ranks order vertices n = (j : ℕ) → j < n
    → IsBuilt (row_at rows (slice_index order j)).digest (op_at ops (slice_index order j)) (inputs links (slice_index order j)) ranks (vertex_at vertices j)
