-- Keys by which outputs can be kept for later runs: a key has the digest of a vertex, and the name and the digest of the tree of each source at or before it.
use Rattle.std.specs.Prelude.{◌≡◌, ℕ, ◌<◌, true, List, length, Option, Some, option_map}
use Rattle.std.specs.List.{Contains}
use Rattle.llb_tree.specs.Tree.{TreeMap}
use Rattle.llb_loader.specs.declared.graph.Edge.{Edge}
use Rattle.llb_loader.specs.Graph.{Numbered}
use Rattle.llb_loader.specs.LocalSources.{Local, tree_of_local}
use Rattle.llb_model.specs.Program.{Build}
use Rattle.llb_model.specs.Outcome.{outcome, is_plain}
use Rattle.llb_board.specs.BoardValue.{BoardValue}
use Rattle.llb_laws.specs.Digests.{IsSourceOf, HaveOneDigest, HaveSameSources, HaveOneOutcome}
use Rattle.llb_laws.specs.Definitions.{HasDigest}
use Rattle.llb_laws.specs.RenamedAndKeptSources.{Origin, Copied, HaveOrigins}
use Rattle.llb_laws.specs.BoardOutcomes.{output_on}

-- ---- keys

-- a key: the digest of a vertex, and names of sources, each with the digest of its tree, if the source has a tree
pub record ResultKey : Type 0 where
  pub digest : List ℕ
  pub sources : List (List ℕ × Option (List ℕ))

-- a key of vertex v, given local trees and a function that makes the digests of trees: the digest is that of v, each source at or before v is there, and each
-- source that is there has the digest of its tree
pub record IsKeyOf (digest_of : TreeMap → List ℕ) (g : Numbered) (ls : List Local) (v : ℕ) (key : ResultKey) : Type 0 where
  pub digest : HasDigest g v key.digest
  pub whole : (name : List ℕ) → IsSourceOf g v name → Contains key.sources (name, option_map digest_of (tree_of_local ls name))
  pub each : (name : List ℕ) (tree : Option (List ℕ)) → Contains key.sources (name, tree) → tree ≡ option_map digest_of (tree_of_local ls name)

-- vertices v and w of two builds have one key
pub record HaveOneKey (digest_of : TreeMap → List ℕ) (b : Build) (v : ℕ) (c : Build) (w : ℕ) : Type 0 where
  pub key : ResultKey
  pub first : IsKeyOf digest_of b.graph b.locals v key
  pub second : IsKeyOf digest_of c.graph c.locals w key

-- trees that two lists of local trees have for the same name are equal if they have the same digest
abbrev pub TreesDoNotCollide : (TreeMap → List ℕ) → List Local → List Local → Type 0
TreesDoNotCollide digest_of ls ms = (name : List ℕ) (t u : TreeMap) → tree_of_local ls name ≡ Some t → tree_of_local ms name ≡ Some u
    → digest_of t ≡ digest_of u → t ≡ u

-- vertices v and w of two builds have the same digest, the sources at or before them have the same trees, and so they have the same plain outcome
pub record HaveOneWork (b : Build) (v : ℕ) (c : Build) (w : ℕ) : Type 0 where
  pub digests : HaveOneDigest b.graph v c.graph w
  pub sources : HaveSameSources b.graph v b.locals c.locals
  pub outcome : HaveOneOutcome b v c w

-- vertices with one key do the same work (`HaveOneWork`), if trees with one digest are equal
abbrev pub KeysShareOutcomes : Numbered → Numbered → Type 0
KeysShareOutcomes g h = (digest_of : TreeMap → List ℕ) (ls ms : List Local) (v w : ℕ)
    → HaveOneKey digest_of (record { graph = g; locals = ls }) v (record { graph = h; locals = ms }) w → TreesDoNotCollide digest_of ls ms
    → HaveOneWork (record { graph = g; locals = ls }) v (record { graph = h; locals = ms }) w

-- ---- kept outputs

-- board b has kept this tree for edge e of build c: a vertex of b with the same key as the edge's vertex, and with no cache mount at or before it, is done, and
-- the tree is its output with the edge's index
pub record IsKept (digest_of : TreeMap → List ℕ) (b : BoardValue) (c : Build) (e : Edge) (tree : TreeMap) : Type 0 where
  pub vertex : ℕ
  pub keys : HaveOneKey digest_of b.build vertex c e.vertex
  pub plain : is_plain b.build vertex ≡ true
  pub output : output_on b (record { vertex = vertex; index = e.index }) ≡ Some tree

-- all these outputs of build c are trees that board b has kept (`IsKept`)
abbrev pub AreKept : (TreeMap → List ℕ) → BoardValue → Build → (Edge → Option TreeMap) → Type 0
AreKept digest_of b c outputs = (e : Edge) (tree : TreeMap) → outputs e ≡ Some tree → IsKept digest_of b c e tree

-- Graph h is to be run on the local trees `ms`. In graph k, which is run in its place on `ns`, sources take the places of outputs, with trees that board b has
-- kept; all other vertices of k are copies of vertices of h, and each has the plain outcome that its original would have.
abbrev pub KeptOutputsServe : BoardValue → Numbered → Numbered → Type 0
KeptOutputsServe b h k = (digest_of : TreeMap → List ℕ) (ms ns : List Local) (outputs : Edge → Option TreeMap) (origin : ℕ → Origin)
    → TreesDoNotCollide digest_of b.build.locals ms → AreKept digest_of b (record { graph = h; locals = ms }) outputs
    → HaveOrigins outputs (record { graph = h; locals = ms }) (record { graph = k; locals = ns }) origin
    → (v w : ℕ) → w < length k.vertices → origin w ≡ Copied v
    → outcome (record { graph = h; locals = ms }) v ≡ outcome (record { graph = k; locals = ns }) w
