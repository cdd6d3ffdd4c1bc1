-- What vertices with the same digest have in common, in the graphs of two definitions in which entries with the same digest are equal.
use Rattle.std.specs.Prelude.{◌≡◌, ℕ, List, Ok, Some, slice_get}
use Rattle.std.specs.List.{Contains}
use Rattle.llb_wire.specs.Digest.{digest_text}
use Rattle.llb_ops.specs.Definition.{definition_of}
use Rattle.llb_loader.specs.declared.graph.Vertex.{Vertex}
use Rattle.llb_loader.specs.ReachedRows.{Reached}
use Rattle.llb_loader.specs.Graph.{Numbered, links}
use Rattle.llb_loader.specs.LoadResult.{IsGraphIn}
use Rattle.llb_loader.specs.LocalSources.{Local, local_name, tree_of_local}
use Rattle.llb_model.specs.Program.{Build}
use Rattle.llb_model.specs.Outcome.{outcome, is_plain}

-- ---- two definitions

-- an entry of one definition and an entry of the other with the same digest are the same bytes
abbrev pub DoNotCollide : List ℕ → List ℕ → Type 0
DoNotCollide d e = (xs ys : List (List ℕ)) → definition_of d ≡ Ok xs → definition_of e ≡ Ok ys
    → (x y : List ℕ) → Contains xs x → Contains ys y → digest_text x ≡ digest_text y → x ≡ y

-- these two definitions are loaded as these two graphs; and an entry of one and an entry of the other with the same digest have the same bytes
pub record LoadWithoutCollision (d : List ℕ) (g : Numbered) (e : List ℕ) (h : Numbered) : Type 0 where
  pub first : IsGraphIn d g
  pub second : IsGraphIn e h
  pub apart : DoNotCollide d e

-- each entry of definition d is an entry of definition f
abbrev pub IsPartOf : List ℕ → List ℕ → Type 0
IsPartOf d f = (xs zs : List (List ℕ)) → definition_of d ≡ Ok xs → definition_of f ≡ Ok zs → (x : List ℕ) → Contains xs x → Contains zs x

-- any two definitions whose entries are all entries of one loaded definition do not collide (`DoNotCollide`)
abbrev pub PartsDoNotCollide : List ℕ → Numbered → Type 0
PartsDoNotCollide f g = IsGraphIn f g → (d e : List ℕ) → IsPartOf d f → IsPartOf e f → DoNotCollide d e

-- ---- two vertices

-- vertex v of graph g and vertex w of graph h have the same digest
pub record HaveOneDigest (g : Numbered) (v : ℕ) (h : Numbered) (w : ℕ) : Type 0 where
  pub first : Vertex
  pub second : Vertex
  pub first_there : slice_get g.vertices v ≡ Some first
  pub second_there : slice_get h.vertices w ≡ Some second
  pub same : first.digest ≡ second.digest

-- a vertex at or before v is the local source with this name
pub record IsSourceOf (g : Numbered) (v : ℕ) (name : List ℕ) : Type 0 where
  pub number : ℕ
  pub source : Vertex
  pub before : Reached (links g.vertices) v number
  pub there : slice_get g.vertices number ≡ Some source
  pub named : local_name source.op ≡ Some name

-- each local source at or before vertex v has the same tree in both lists of local trees, or has none in both
abbrev pub HaveSameSources : Numbered → ℕ → List Local → List Local → Type 0
HaveSameSources g v ls ms = (name : List ℕ) → IsSourceOf g v name → tree_of_local ls name ≡ tree_of_local ms name

-- two vertices have the same plain outcome, and a cache mount is at or before both of them or neither
pub record HaveOneOutcome (b : Build) (v : ℕ) (c : Build) (w : ℕ) : Type 0 where
  pub same : outcome b v ≡ outcome c w
  pub plain : is_plain b v ≡ is_plain c w

-- vertices with the same digest have the same outcome if the local trees of the sources at or before them are the same; other local trees may differ
abbrev pub ShareOutcomes : Numbered → Numbered → Type 0
ShareOutcomes g h = (ls ms : List Local) (v w : ℕ) → HaveOneDigest g v h w → HaveSameSources g v ls ms
    → HaveOneOutcome (record { graph = g; locals = ls }) v (record { graph = h; locals = ms }) w

-- the outcome of a vertex depends only on the local trees of the sources at or before it
abbrev pub DependOnSources : Numbered → Type 0
DependOnSources g = (ls ms : List Local) (v : ℕ) → HaveSameSources g v ls ms
    → outcome (record { graph = g; locals = ls }) v ≡ outcome (record { graph = g; locals = ms }) v
