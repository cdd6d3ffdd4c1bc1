-- Vertices of two builds that do the same on inputs that match: they have the same outcome, whatever their numbers, their digests and their sources' names are.
use Rattle.std.specs.Prelude.{◌≡◌, ◌⊎◌, ℕ, Bool, true, List, [], Option, Some, slice_get}
use Rattle.llb_loader.specs.declared.graph.Edge.{Edge}
use Rattle.llb_loader.specs.declared.graph.Vertex.{Vertex}
use Rattle.llb_loader.specs.Graph.{Numbered}
use Rattle.llb_loader.specs.LocalSources.{Local}
use Rattle.llb_tree.specs.Tree.{TreeMap}
use Rattle.llb_model.specs.Program.{Build, program_of, begin, start_with}
use Rattle.llb_model.specs.Outcome.{outcome, ending_in, output_in}
use Rattle.llb_laws.specs.AlikeTrees.{BothLists}

-- the tree that an edge leads to, by the plain outcomes; none if the edge's vertex has no such output or is not done
abbrev pub output_at : Build → Edge → Option TreeMap
output_at b e = output_in (ending_in (outcome b e.vertex)) e.index

-- two vertices have the same program and, on the same trees of inputs, begin with the same work: they differ at most in their digests, their inputs' digests,
-- what their programs do not use, and, if both are local sources, in the sources' names, of which the trees are equal
pub record DoTheSame (b : Build) (x : Vertex) (c : Build) (y : Vertex) : Type 0 where
  pub program : program_of x ≡ program_of y
  pub work : (trees : List TreeMap) → begin b (start_with x trees) [] ≡ begin c (start_with y trees) []

-- two edges match if they lead to equal trees already (or to none), or to vertices that M relates and to the same index there
abbrev pub EdgesMatch : Build → Build → (ℕ → ℕ → Type 0) → Edge → Edge → Type 0
EdgesMatch b c M e f = (output_at b e ≡ output_at c f) ⊎ (M e.vertex f.vertex × (e.index ≡ f.index))

-- vertex v of build b and vertex w of build c do the same, and their inputs match pairwise
pub record DoAlike (b c : Build) (M : ℕ → ℕ → Type 0) (v w : ℕ) : Type 0 where
  pub first : Vertex
  pub second : Vertex
  pub first_there : slice_get b.graph.vertices v ≡ Some first
  pub second_there : slice_get c.graph.vertices w ≡ Some second
  pub same : DoTheSame b first c second
  pub inputs : BothLists (EdgesMatch b c M) first.inputs second.inputs

-- M is a matching: vertices that it relates have the same plain outcome already, or they do the same on inputs that match
abbrev pub IsMatched : Build → Build → (ℕ → ℕ → Type 0) → Type 0
IsMatched b c M = (v w : ℕ) → M v w → (outcome b v ≡ outcome c w) ⊎ DoAlike b c M v w

-- vertices v and w are related if the test returns true for them
abbrev pub By : (ℕ → ℕ → Bool) → ℕ → ℕ → Type 0
By test v w = test v w ≡ true

-- vertices that a matching relates have the same plain outcome, for any matching that a test decides, and any local trees of the two graphs
abbrev pub MatchedEndAlike : Numbered → Numbered → Type 0
MatchedEndAlike g h = (ls ms : List Local) (test : ℕ → ℕ → Bool)
    → IsMatched (record { graph = g; locals = ls }) (record { graph = h; locals = ms }) (By test)
    → (v w : ℕ) → test v w ≡ true → outcome (record { graph = g; locals = ls }) v ≡ outcome (record { graph = h; locals = ms }) w
