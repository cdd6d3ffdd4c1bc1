-- Marks of vertices: vertices of two graphs have one mark if they do the same on inputs with equal marks. The relation that is made of marks is a matching.
use Rattle.std.specs.Prelude.{◌≡◌, ◌⊎◌, ℕ, ◌<◌, ◌≤◌, ◌==◌, Bool, true, false, List, length, Option, Some, slice_get, slice_index_or}
use Rattle.llb_loader.specs.declared.graph.Edge.{Edge}
use Rattle.llb_loader.specs.declared.graph.Vertex.{Vertex}
use Rattle.llb_loader.specs.Graph.{Numbered}
use Rattle.llb_loader.specs.LoadResult.{IsGraphIn}
use Rattle.llb_loader.specs.LocalSources.{Local}
use Rattle.llb_model.specs.Outcome.{outcome}
use Rattle.llb_laws.specs.Digests.{HaveSameSources}
use Rattle.llb_laws.specs.Definitions.{IsKindRewritten}
use Rattle.llb_laws.specs.Matchings.{IsMatched, By}

-- the edge of the input with this number
abbrev pub edge_at : Vertex → ℕ → Edge
edge_at v i = slice_index_or v.inputs i (record { vertex = 0; index = 0 })

-- the ops of vertices x and y have one kind, or both are local sources with one name; they have as many inputs, and E relates their edges one by one
pub record IsLike (E : Edge → Edge → Type 0) (x y : Vertex) : Type 0 where
  pub kind : IsKindRewritten (λ n. n) x.op y.op
  pub as_many : length x.inputs ≡ length y.inputs
  pub each : (i : ℕ) → i < length x.inputs → E (edge_at x i) (edge_at y i)

-- the edges lead to vertices with one mark, by a list of marks for each graph, and to the same index there
pub record HaveOneMark (marks others : List ℕ) (e f : Edge) : Type 0 where
  pub index : e.index ≡ f.index
  pub mark : slice_get marks e.vertex ≡ slice_get others f.vertex

-- the edges lead to vertices that M relates, and to the same index there
pub record LeadAlike (M : ℕ → ℕ → Type 0) (e f : Edge) : Type 0 where
  pub index : e.index ≡ f.index
  pub vertices : M e.vertex f.vertex

-- n is the lowest number, below `count`, of a vertex of the first graph that is like y by marks; `count` itself if there is none
pub record IsFirstLike (vertices : List Vertex) (count : ℕ) (marks others : List ℕ) (y : Vertex) (n : ℕ) : Type 0 where
  pub upto : n ≤ count
  pub before : (k : ℕ) (x : Vertex) → k < n → slice_get vertices k ≡ Some x → ¬ IsLike (HaveOneMark marks others) x y
  pub like : (x : Vertex) → n < count → slice_get vertices n ≡ Some x → IsLike (HaveOneMark marks others) x y

-- the mark of each vertex is the lowest number of a vertex like it, which can be its own
pub record AreMarks (vertices : List Vertex) (marks : List ℕ) : Type 0 where
  pub as_many : length marks ≡ length vertices
  pub each : (v : ℕ) (x : Vertex) → slice_get vertices v ≡ Some x → IsFirstLike vertices v marks marks x (slice_index_or marks v 0)

-- the partner of each vertex of the second graph is the lowest number of a vertex of the first that is like it by marks; if there is none, the number of
-- vertices of the first
pub record ArePartnersBy (vertices : List Vertex) (marks : List ℕ) (others : List Vertex) (partners : List ℕ) : Type 0 where
  pub as_many : length partners ≡ length others
  pub each : (w : ℕ) (y : Vertex) → slice_get others w ≡ Some y
      → IsFirstLike vertices (length vertices) marks partners y (slice_index_or partners w 0)

-- whether there are two marks, and they are equal
abbrev pub same_mark : Option ℕ → Option ℕ → Bool
same_mark (Some a) (Some b) = a == b
same_mark _ _ = false

-- whether the vertices with these numbers, one of each graph, have one mark
abbrev pub share_mark : List ℕ → List ℕ → ℕ → ℕ → Bool
share_mark marks partners v w = same_mark (slice_get marks v) (slice_get partners w)

-- vertices v and w are there, and alike: their ops have one kind, or are local sources with one name, and their edges lead to vertices that M relates
pub record AreLike (g h : Numbered) (M : ℕ → ℕ → Type 0) (v w : ℕ) : Type 0 where
  pub first : Vertex
  pub second : Vertex
  pub first_there : slice_get g.vertices v ≡ Some first
  pub second_there : slice_get h.vertices w ≡ Some second
  pub like : IsLike (LeadAlike M) first second

-- the second test relates some of the vertices that the first relates: such that the sources at or before the vertex of the first graph, or those at or before
-- the vertex of the second, have the same trees in both lists of local trees
abbrev pub AreOfSameSources : Numbered → Numbered → List Local → List Local → (ℕ → ℕ → Bool) → (ℕ → ℕ → Bool) → Type 0
AreOfSameSources g h ls ms test some = (v w : ℕ) → some v w ≡ true → (test v w ≡ true) × (HaveSameSources g v ls ms ⊎ HaveSameSources h w ls ms)

-- These definitions are loaded as these graphs. A test relates vertices of the two that are alike, and no test relates more: so vertices that it relates have
-- the same plain outcome, for any local trees of the two graphs with which the sources at or before the vertices have the same trees. Each vertex of the second
-- graph has as partner the lowest number of a vertex that it is related to; if there is none, the number of vertices of the first graph.
pub record LoadMatched (d : List ℕ) (g : Numbered) (e : List ℕ) (h : Numbered) (partners : List ℕ) : Type 0 where
  pub first : IsGraphIn d g
  pub second : IsGraphIn e h
  pub test : ℕ → ℕ → Bool
  pub like : (v w : ℕ) → test v w ≡ true → AreLike g h (By test) v w
  pub most : (other : ℕ → ℕ → Bool) → ((v w : ℕ) → other v w ≡ true → AreLike g h (By other) v w) → (v w : ℕ) → other v w ≡ true → test v w ≡ true
  pub as_many : length partners ≡ length h.vertices
  pub partner : (v w : ℕ) → slice_get partners w ≡ Some v → v < length g.vertices → test v w ≡ true
  pub lowest : (v w n : ℕ) → slice_get partners w ≡ Some n → test v w ≡ true → n ≤ v
  pub upto : (w n : ℕ) → slice_get partners w ≡ Some n → n ≤ length g.vertices
  pub matched : (ls ms : List Local) (some : ℕ → ℕ → Bool) → AreOfSameSources g h ls ms test some
      → IsMatched (record { graph = g; locals = ls }) (record { graph = h; locals = ms }) (By some)
  pub outcomes : (ls ms : List Local) (v w : ℕ) → test v w ≡ true → HaveSameSources g v ls ms ⊎ HaveSameSources h w ls ms
      → outcome (record { graph = g; locals = ls }) v ≡ outcome (record { graph = h; locals = ms }) w
