-- A loaded graph as contracts see it, and what is true of every such graph.
use Rattle.std.specs.Prelude.{◌≡◌, ◌⊎◌, ℕ, ◌<◌, ◌≤◌, ◌^◌, pos, false, List, [], ◌++◌, length, map, slice_index_or, Option, Some, None}
use Rattle.std.specs.Prelude.{IsSome, Ok, Contains, codes}
use Rattle.std.specs.List.{All, HoldsAt}
use Rattle.llb_ops.specs.declared.op.Input.{Input}
use Rattle.llb_ops.specs.declared.op.Kind.{Kind}
use Rattle.llb_ops.specs.declared.op.Kind.TheVariants.{Source, File, Merge, Exec}
use Rattle.llb_ops.specs.declared.file_op.FileOp.{FileOp}
use Rattle.llb_ops.specs.declared.merge.MergeOp.{MergeOp}
use Rattle.llb_ops.specs.declared.exec.ExecOp.{ExecOp}
use Rattle.llb_ops.specs.declared.exec.Meta.{Meta}
use Rattle.llb_ops.specs.declared.source.SourceOp.{SourceOp}
use Rattle.llb_ops.specs.OpsWithinLimits.{IsWithinLimits}
use Rattle.llb_loader.specs.declared.graph.Edge.{Edge}
use Rattle.llb_loader.specs.declared.graph.Vertex.{Vertex}
use Rattle.llb_loader.specs.ReachedRows.{Reached}
use Rattle.llb_loader.specs.Features.{feature_of}
use Rattle.llb_loader.specs.Rules.{owner_of, owner_by_name, IsInput, ActionInputs, SecondInputs, outputs_of, count_outputs, AreOutputs}
use Rattle.llb_loader.specs.Rules.{step_count, output_count, MeetsRules, mount_outputs, ShowsInput, AreMountOutputs, HasOptions, IsShared}
use Rattle.llb_applet.specs.declared.joined_commands.Joined.{Joined}
use Rattle.llb_applet.specs.Scripts.{script_of}
use Rattle.llb_loader.specs.Mounts.{bind, cache, tmpfs, read_as, dests_of, keys_of, AreApart}
use Rattle.llb_loader.specs.Scripts.{script_in}
use Rattle.llb_loader.specs.LocalSources.{source_name}

-- a graph: its vertices by number, and the edge to the output that is its result
pub record Numbered : Type 0 where
  pub vertices : List Vertex
  pub result : Edge

-- for each vertex, the vertices to which its edges lead
abbrev pub links : List Vertex → List (List ℕ)
links vertices = map (λ v. map (λ e. e.vertex) v.inputs) vertices

-- the edge leads to a vertex with a number below k, and to an output that this vertex has
pub record LeadsBelow (vertices : List Vertex) (k : ℕ) (e : Edge) : Type 0 where
  pub lower : e.vertex < k
  pub index : HoldsAt (λ v. e.index < v.outputs) vertices e.vertex

-- e is the edge of an input: it leads to the vertex whose digest is in the input, and to the output with the index that is in the input
pub record IsEdgeOfInput (vertices : List Vertex) (input : Input) (e : Edge) : Type 0 where
  pub digest : HoldsAt (λ v. v.digest ≡ input.digest) vertices e.vertex
  pub index : input.index ≡ pos e.index

-- a vertex has an edge for each input of its op, in the same order
pub record HasInputs (vertices : List Vertex) (v : Vertex) : Type 0 where
  pub len : length v.inputs ≡ length v.op.inputs
  pub each : (i : ℕ) (input : Input) (e : Edge) → i < length v.inputs
      → IsEdgeOfInput vertices (slice_index_or v.op.inputs i input) (slice_index_or v.inputs i e)

-- what holds of each vertex: its op is within llb_ops's limits, has no unsupported feature and meets the rules; `script`, `steps` and `outputs` are the op's
pub record IsVertex (v : Vertex) : Type 0 where
  pub within : IsWithinLimits v.op
  pub featureless : feature_of v.op ≡ None
  pub valid : MeetsRules v.op
  pub script : v.script ≡ script_in v.op
  pub steps : v.steps ≡ step_count v.op
  pub outputs : v.outputs ≡ output_count v.op
  pub few_steps : v.steps < 2 ^ 25
  pub few_outputs : v.outputs ≤ 1_024

-- ---- what holds of a vertex of each kind

-- a source is local, with a name of at least one byte after `local://`; the vertex has one micro-step and one output
pub record IsSourceVertex (v : Vertex) (s : SourceOp) : Type 0 where
  pub name : List ℕ
  pub local : source_name s ≡ Some name
  pub some : 0 < length name
  pub identifier : s.identifier ≡ codes "local://" ++ name
  pub steps : v.steps ≡ 1
  pub outputs : v.outputs ≡ 1

-- a file op has at least one action; each action has a kind, sets no owner by name, and reads inputs of the op, results of earlier actions, or nothing
pub record IsFileVertex (v : Vertex) (f : FileOp) : Type 0 where
  pub some : 0 < length f.actions
  pub few : length f.actions ≤ 1_024
  pub members : All (λ a. IsSome a.kind) f.actions
  pub numbered : All (λ a. owner_by_name (owner_of a.kind) ≡ false) f.actions
  pub action_inputs : ActionInputs (length v.op.inputs) f.actions
  pub second_inputs : SecondInputs (length v.op.inputs) f.actions
  pub action_outputs : AreOutputs (outputs_of f.actions)
  pub inputs : length v.inputs ≡ length v.op.inputs
  pub steps : v.steps ≡ length f.actions
  pub outputs : v.outputs ≡ count_outputs (outputs_of f.actions)

-- vertex v of merge m: at most 1,024 numbers, each -1 or of an input of the op; an edge for each input of the op; a micro-step for each number; one output
pub record IsMergeVertex (v : Vertex) (m : MergeOp) : Type 0 where
  pub few : length m.inputs ≤ 1_024
  pub merge_inputs : All (λ i. IsInput (length v.op.inputs) i.input) m.inputs
  pub inputs : length v.inputs ≡ length v.op.inputs
  pub steps : v.steps ≡ length m.inputs
  pub outputs : v.outputs ≡ 1

-- the words of an exec are a script, its cwd is a path, and its mounts are at distinct paths, of which one is the root; each mount shows an
-- input that exists, or nothing, or is a tmpfs; only bind mounts have outputs; the caches that the exec mounts have distinct keys. There
-- are fewer than 2^25 commands, since an entry has at most 2^24 bytes and each command takes at least one of them.
pub record IsExecVertex (v : Vertex) (x : ExecOp) : Type 0 where
  pub meta : Meta
  pub commands : List Joined
  pub there : x.meta ≡ Some meta
  pub words : 0 < length meta.args
  pub few_words : length meta.args ≤ 1_024
  pub few_env : length meta.env ≤ 1_024
  pub reads : script_of meta.args ≡ Ok commands
  pub script : v.script ≡ Some commands
  pub few_commands : length commands < 2 ^ 25
  pub cwd : IsSome (read_as meta.cwd)
  pub some : 0 < length x.mounts
  pub few : length x.mounts ≤ 1_024
  pub root : Contains (dests_of x.mounts) (Some [])
  pub dests : All IsSome (dests_of x.mounts)
  pub selectors : All (λ m. IsSome (read_as m.selector)) x.mounts
  pub apart : AreApart (dests_of x.mounts)
  pub kinds : All (λ m. (m.mount_type ≡ bind) ⊎ ((m.mount_type ≡ tmpfs) ⊎ (m.mount_type ≡ cache))) x.mounts
  pub shown : All (ShowsInput (length v.op.inputs)) x.mounts
  pub given : AreMountOutputs x.mounts
  pub options : All HasOptions x.mounts
  pub sharing : All IsShared x.mounts
  pub keys : AreApart (keys_of v.op.inputs x.mounts)
  pub inputs : length v.inputs ≡ length v.op.inputs
  pub steps : v.steps ≡ length commands
  pub outputs : v.outputs ≡ count_outputs (mount_outputs x.mounts)

-- the vertex is of a supported kind, and the definition for this kind holds of it: `IsSourceVertex`, `IsFileVertex`, `IsMergeVertex` or `IsExecVertex`
abbrev pub IsVertexOf : Vertex → Option Kind → Type 0
IsVertexOf v (Some (Source s)) = IsSourceVertex v s
IsVertexOf v (Some (File f)) = IsFileVertex v f
IsVertexOf v (Some (Merge m)) = IsMergeVertex v m
IsVertexOf v (Some (Exec x)) = IsExecVertex v x
IsVertexOf v _ = ⊥

-- what is true of every loaded graph
pub record IsGraph (g : Numbered) : Type 0 where
  -- every edge of a vertex leads to an output of a vertex with a lower number, and the result is an output of one of the vertices
  pub down : (k : ℕ) (d : Vertex) → k < length g.vertices → All (LeadsBelow g.vertices k) (slice_index_or g.vertices k d).inputs
  pub result : LeadsBelow g.vertices (length g.vertices) g.result
  -- the result depends on every vertex
  pub whole : (k : ℕ) → k < length g.vertices → Reached (links g.vertices) g.result.vertex k
  pub vertex : All IsVertex g.vertices
  pub inputs : All (HasInputs g.vertices) g.vertices
  -- no two vertices have the same digest
  pub distinct : (a b : ℕ) (d : Vertex) → a < length g.vertices → b < length g.vertices
      → (slice_index_or g.vertices a d).digest ≡ (slice_index_or g.vertices b d).digest → a ≡ b
  -- each vertex is of a supported kind
  pub kind : All (λ v. IsVertexOf v v.op.kind) g.vertices
  pub few : length g.vertices ≤ 65_536
