-- A definition in which local sources replace outputs of a board: where each vertex is from, and the trees of its sources.
use Rattle.std.specs.Prelude.{◌≡◌, ◌⊎◌, ℕ, Bool, true, false, unwrap_or, ◌<◌, List, [], length, Option, Some, None, cond, slice_get, slice_index_or}
use Rattle.std.specs.Map.{lookup}
use Rattle.std.specs.Str.{bytes_eq}
use Rattle.llb_tree.specs.Tree.{TreeMap}
use Rattle.llb_loader.specs.declared.graph.Edge.{Edge}
use Rattle.llb_loader.specs.declared.graph.Vertex.{Vertex}
use Rattle.llb_loader.specs.Graph.{Numbered}
use Rattle.llb_loader.specs.LoadResult.{IsGraphIn}
use Rattle.llb_loader.specs.LocalSources.{Local, local_name, tree_of_local}
use Rattle.llb_model.specs.ListsFromEarlierItems.{by_number}
use Rattle.llb_model.specs.Outcome.{next_plain}
use Rattle.llb_board.specs.BoardValue.{BoardValue, opened}
use Rattle.llb_laws.specs.BoardOutcomes.{EndAlike, KeepsPlain, output_on}
use Rattle.llb_laws.specs.RenamedAndKeptSources.{Origin, Kept, Copied, HaveOrigins, IsEdgeFrom}
use Rattle.llb_laws.specs.MatchingMarks.{edge_at}

-- names of sources, each with the edge to the output that the source replaces; of two pairs with one name, the first counts
abbrev pub Places : Type 0
Places = List (List ℕ × Edge)

-- ---- the trees of sources

-- the output that a source with this name replaces, if it does; nothing if there is no name
abbrev pub place_of : Places → Option (List ℕ) → Option Edge
place_of kept None = None
place_of kept (Some name) = lookup (bytes_eq name) kept

-- the output that this vertex replaces, if it does
abbrev pub replaced_by : Places → Vertex → Option Edge
replaced_by kept y = place_of kept (local_name y.op)

-- the output of the board that this edge leads to; without an edge, the local tree of this name
abbrev pub tree_by : BoardValue → List Local → Option Edge → List ℕ → Option TreeMap
tree_by b ls (Some e) name = output_on b e
tree_by b ls None name = tree_of_local ls name

-- the tree of a source with this name: the output that it replaces; else the local tree that is given for the name
abbrev pub tree_for : BoardValue → List Local → Places → List ℕ → Option TreeMap
tree_for b ls kept name = tree_by b ls (place_of kept (Some name)) name

-- these local trees have for each source among the first n vertices the tree that is for it, and there is one
abbrev pub HaveTrees : BoardValue → List Local → Places → List Vertex → ℕ → List Local → Type 0
HaveTrees b ls kept others n made = (w : ℕ) (y : Vertex) (name : List ℕ) → w < n → slice_get others w ≡ Some y → local_name y.op ≡ Some name
    → (tree : TreeMap) × (tree_for b ls kept name ≡ Some tree) × (tree_of_local made name ≡ Some tree)

-- if vertex y is a source, there is a tree for it, and the new local trees have this tree under its name, and else what the old have; if it is no source, they
-- are the old
pub record Adds (b : BoardValue) (ls : List Local) (kept : Places) (y : Vertex) (old new : List Local) : Type 0 where
  pub none : local_name y.op ≡ None → new ≡ old
  pub source : (name : List ℕ) → local_name y.op ≡ Some name → (tree : TreeMap) × (tree_for b ls kept name ≡ Some tree)
      × ((other : List ℕ) → tree_of_local new other ≡ cond (bytes_eq name other) (Some tree) (tree_of_local old other))

-- vertex y is a source for which there is no tree
pub record LacksTree (b : BoardValue) (ls : List Local) (kept : Places) (y : Vertex) : Type 0 where
  pub name : List ℕ
  pub named : local_name y.op ≡ Some name
  pub none : tree_for b ls kept name ≡ None

-- some vertex is a source for which there is no tree
pub record LackTree (b : BoardValue) (ls : List Local) (kept : Places) (others : List Vertex) : Type 0 where
  pub number : ℕ
  pub vertex : Vertex
  pub there : slice_get others number ≡ Some vertex
  pub lacks : LacksTree b ls kept vertex

-- ---- where vertices are from

abbrev pub origin_by : Option Edge → ℕ → Origin
origin_by (Some e) v = Kept e
origin_by None v = Copied v

-- the output that a vertex replaces, if there is a vertex and it does
abbrev pub place_in : Places → Option Vertex → Option Edge
place_in kept (Some y) = replaced_by kept y
place_in kept None = None

-- the origin of a vertex, by a list of the vertices that are copied
abbrev pub origin_at : Places → List Vertex → List ℕ → ℕ → Origin
origin_at kept others copies w = origin_by (place_in kept (slice_get others w)) (slice_index_or copies w 0)

-- vertex y is a copy of x: their ops have one kind, and y's edges are from the edges of x
pub record IsCopyIn (kept : Places) (others : List Vertex) (copies : List ℕ) (x y : Vertex) : Type 0 where
  pub kind : x.op.kind ≡ y.op.kind
  pub as_many : length x.inputs ≡ length y.inputs
  pub each : (i : ℕ) → i < length x.inputs → IsEdgeFrom (origin_at kept others copies (edge_at y i).vertex) (edge_at x i) (edge_at y i)

-- no vertex below number n of the board is copied by y
abbrev pub CopiesNone : List Vertex → Places → List Vertex → List ℕ → Vertex → ℕ → Type 0
CopiesNone vertices kept others copies y n = (k : ℕ) (x : Vertex) → k < n → slice_get vertices k ≡ Some x → ¬ IsCopyIn kept others copies x y

-- vertex n of the board is the first that y copies
pub record IsFirstCopy (vertices : List Vertex) (kept : Places) (others : List Vertex) (copies : List ℕ) (y : Vertex) (n : ℕ) : Type 0 where
  pub before : CopiesNone vertices kept others copies y n
  pub vertex : Vertex
  pub there : slice_get vertices n ≡ Some vertex
  pub copy : IsCopyIn kept others copies vertex y

-- vertex y has an origin: it replaces an output and has no inputs; or it is a copy, first of vertex n
pub record IsPlaced (vertices : List Vertex) (kept : Places) (others : List Vertex) (copies : List ℕ) (y : Vertex) (n : ℕ) : Type 0 where
  pub no_inputs : (e : Edge) → replaced_by kept y ≡ Some e → y.inputs ≡ []
  pub copied : replaced_by kept y ≡ None → IsFirstCopy vertices kept others copies y n

-- vertex y has no origin: it replaces an output and has inputs, or it is no copy
abbrev pub HasNoPlace : List Vertex → Places → List Vertex → List ℕ → Vertex → Type 0
HasNoPlace vertices kept others copies y = ((e : Edge) × (replaced_by kept y ≡ Some e) × ¬ (y.inputs ≡ []))
    ⊎ ((replaced_by kept y ≡ None) × CopiesNone vertices kept others copies y (length vertices))

-- each of the first n vertices has an origin, by these copies
pub record ArePlaced (vertices : List Vertex) (kept : Places) (others : List Vertex) (n : ℕ) (copies : List ℕ) : Type 0 where
  pub as_many : length copies ≡ n
  pub each : (w : ℕ) (y : Vertex) → w < n → slice_get others w ≡ Some y → IsPlaced vertices kept others copies y (slice_index_or copies w 0)

-- some vertex has no origin, while those before it have
pub record HaveNoPlace (vertices : List Vertex) (kept : Places) (others : List Vertex) : Type 0 where
  pub number : ℕ
  pub copies : List ℕ
  pub before : ArePlaced vertices kept others number copies
  pub vertex : Vertex
  pub there : slice_get others number ≡ Some vertex
  pub none : HasNoPlace vertices kept others copies vertex

-- ---- cache mounts

-- whether no cache mount is at or before a vertex, by a list that has this for each vertex; false past the end
abbrev pub plain_in : List Bool → ℕ → Bool
plain_in plains v = unwrap_or (slice_get plains v) false

-- if vertex y replaces an output, no cache mount is at or before that output's vertex
abbrev pub IsKeptPlain : List Bool → Places → Vertex → Type 0
IsKeptPlain plains kept y = (e : Edge) → replaced_by kept y ≡ Some e → plain_in plains e.vertex ≡ true

-- vertex y replaces an output, and a cache mount is at or before that output's vertex
abbrev pub IsMet : List Bool → Places → Vertex → Type 0
IsMet plains kept y = (e : Edge) × (replaced_by kept y ≡ Some e) × (plain_in plains e.vertex ≡ false)

-- no cache mount is at or before the outputs that vertices replace
abbrev pub AreKeptPlain : List Bool → Places → List Vertex → Type 0
AreKeptPlain plains kept others = (w : ℕ) (y : Vertex) → slice_get others w ≡ Some y → IsKeptPlain plains kept y

-- some vertex replaces an output, and a cache mount is at or before it
pub record MeetsCache (plains : List Bool) (kept : Places) (others : List Vertex) : Type 0 where
  pub number : ℕ
  pub vertex : Vertex
  pub there : slice_get others number ≡ Some vertex
  pub met : IsMet plains kept vertex

-- ---- the board

-- This definition is loaded as the graph of board c, on which nothing has happened. Each vertex that replaces an output of board b has it as its
-- tree, with no cache mount at or before it, and each other vertex is a copy of one of b. So each copy ends like its original.
pub record StandsIn (b : BoardValue) (kept : Places) (d : List ℕ) (workers : ℕ) (c : BoardValue) : Type 0 where
  pub loaded : IsGraphIn d c.build.graph
  pub begins : c ≡ opened c.build workers []
  pub origin : ℕ → Origin
  pub replaced : (w : ℕ) (y : Vertex) (e : Edge) → slice_get c.build.graph.vertices w ≡ Some y → replaced_by kept y ≡ Some e → origin w ≡ Kept e
  pub copied : (w : ℕ) (y : Vertex) → slice_get c.build.graph.vertices w ≡ Some y → replaced_by kept y ≡ None → (v : ℕ) × (origin w ≡ Copied v)
  pub origins : HaveOrigins (output_on b) b.build c.build origin
  pub plain : KeepsPlain b c.build.graph origin
  pub ends : (v w : ℕ) → w < length c.build.graph.vertices → origin w ≡ Copied v → EndAlike b c v w

-- this definition is loaded as a graph in which some source has no tree, or some vertex no origin, or a cache mount is at or before a kept output
pub record StandsNotIn (b : BoardValue) (ls : List Local) (kept : Places) (d : List ℕ) : Type 0 where
  pub graph : Numbered
  pub loaded : IsGraphIn d graph
  pub none : LackTree b ls kept graph.vertices ⊎ (HaveNoPlace b.build.graph.vertices kept graph.vertices
      ⊎ MeetsCache (by_number next_plain [] b.build.graph.vertices) kept graph.vertices)
