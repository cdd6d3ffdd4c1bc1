-- Two uses of matchings: a definition whose local sources have other names, and one in which local sources take the places of outputs of an earlier run.
use Rattle.std.specs.Prelude.{◌≡◌, ◌⊎◌, ℕ, ◌<◌, List, [], length, Option, Some, None, slice_get}
use Rattle.llb_tree.specs.Tree.{TreeMap}
use Rattle.llb_loader.specs.declared.graph.Edge.{Edge}
use Rattle.llb_loader.specs.declared.graph.Vertex.{Vertex}
use Rattle.llb_loader.specs.Graph.{Numbered}
use Rattle.llb_loader.specs.LocalSources.{Local, local_name, tree_of_local}
use Rattle.llb_model.specs.Program.{Build, local_tree}
use Rattle.llb_model.specs.Outcome.{outcome}
use Rattle.llb_laws.specs.Matchings.{output_at}
use Rattle.llb_laws.specs.AlikeTrees.{BothLists}

-- ---- sources with other names

-- vertex y is vertex x but for its digest, its inputs' digests and, if x is a local source, the source's name, which `rename` changes
pub record IsRenamed (rename : List ℕ → List ℕ) (x y : Vertex) : Type 0 where
  pub inputs : x.inputs ≡ y.inputs
  pub op : ((local_name x.op ≡ None) × (x.op.kind ≡ y.op.kind))
      ⊎ ((name : List ℕ) × (local_name x.op ≡ Some name) × (local_name y.op ≡ Some (rename name)))

-- each local source of the graph has the same tree under its own name in the first list as under its new name in the second
abbrev pub HasTreesRenamed : (List ℕ → List ℕ) → Numbered → List Local → List Local → Type 0
HasTreesRenamed rename g ls ms = (v : ℕ) (x : Vertex) (name : List ℕ) → slice_get g.vertices v ≡ Some x → local_name x.op ≡ Some name
    → tree_of_local ls name ≡ tree_of_local ms (rename name)

-- if graph h is g with its local sources renamed, and the trees are given under the new names, each vertex has the same plain outcome
abbrev pub RenamedEndAlike : Numbered → Numbered → Type 0
RenamedEndAlike g h = (rename : List ℕ → List ℕ) (ls ms : List Local) → BothLists (IsRenamed rename) g.vertices h.vertices → HasTreesRenamed rename g ls ms
    → (v : ℕ) → outcome (record { graph = g; locals = ls }) v ≡ outcome (record { graph = h; locals = ms }) v

-- ---- sources in place of outputs

-- where a vertex of a second graph is from: it is a local source in place of the output that an edge of the first graph leads to, or a copy of the vertex with
-- this number in the first graph
pub data Origin : Type 0 where
  Kept : Edge → Origin
  Copied : ℕ → Origin

-- edge f leads to a vertex with this origin, and e is the edge of the first graph that f is from: if f's vertex is in place of an output, f leads to its output
-- 0, and e to the output that it replaces; if f's vertex is a copy, e leads to the same output of the vertex that it copies
abbrev pub IsEdgeFrom : Origin → Edge → Edge → Type 0
IsEdgeFrom (Kept kept) e f = (f.index ≡ 0) × (e ≡ kept)
IsEdgeFrom (Copied v) e f = (e.vertex ≡ v) × (e.index ≡ f.index)

-- vertex y of build c is a local source without inputs, and its tree is this output, which is there
pub record IsInPlaceOf (output : Option TreeMap) (c : Build) (y : Vertex) : Type 0 where
  pub name : List ℕ
  pub named : local_name y.op ≡ Some name
  pub no_inputs : y.inputs ≡ []
  pub tree : output ≡ Some (local_tree c.locals y)

-- vertex y of build c is a copy of vertex v of build b: the kinds of their ops are equal, a source has the same tree, and y's edges are from the edges of v
pub record IsCopyOf (b c : Build) (origin : ℕ → Origin) (v : ℕ) (y : Vertex) : Type 0 where
  pub original : Vertex
  pub there : slice_get b.graph.vertices v ≡ Some original
  pub kind : original.op.kind ≡ y.op.kind
  pub tree : (name : List ℕ) → local_name y.op ≡ Some name → tree_of_local b.locals name ≡ tree_of_local c.locals name
  pub inputs : BothLists (λ e f. IsEdgeFrom (origin f.vertex) e f) original.inputs y.inputs

-- vertex y of build c has this origin in build b, where edges lead to these outputs
abbrev pub HasOrigin : (Edge → Option TreeMap) → Build → Build → (ℕ → Origin) → Origin → Vertex → Type 0
HasOrigin outputs b c origin (Kept kept) y = IsInPlaceOf (outputs kept) c y
HasOrigin outputs b c origin (Copied v) y = IsCopyOf b c origin v y

-- each vertex of build c has an origin in build b, by its number: it is a copy of a vertex, or a local source that has one of these outputs as its tree
abbrev pub HaveOrigins : (Edge → Option TreeMap) → Build → Build → (ℕ → Origin) → Type 0
HaveOrigins outputs b c origin = (w : ℕ) (y : Vertex) → slice_get c.graph.vertices w ≡ Some y → HasOrigin outputs b c origin (origin w) y

-- if each vertex of a graph has an origin in another (`HaveOrigins`), each copy of a vertex has the same plain outcome as that vertex
abbrev pub KeptStandIn : Numbered → Numbered → Type 0
KeptStandIn g h = (ls ms : List Local) (origin : ℕ → Origin)
    → HaveOrigins (output_at (record { graph = g; locals = ls })) (record { graph = g; locals = ls }) (record { graph = h; locals = ms }) origin
    → (v w : ℕ) → w < length h.vertices → origin w ≡ Copied v
    → outcome (record { graph = g; locals = ls }) v ≡ outcome (record { graph = h; locals = ms }) w
