-- What a plan for tokens looks at in a vertex, as tests.
use Rattle.std.specs.Prelude.{◌≡◌, ◌⊎◌, ◌↔◌, ℕ, List, [], length, Bool, false, ◌||◌, ◌&&◌, is_some, slice_index_or}
use Rattle.std.specs.List.{Contains, list_any}
use Rattle.llb_ops.specs.declared.exec.Mount.{Mount}
use Rattle.llb_applet.specs.declared.directory_and_variables.Setting.{Setting}
use Rattle.llb_loader.specs.declared.graph.Vertex.{Vertex}
use Rattle.llb_loader.specs.Mounts.{cache_in}
use Rattle.llb_loader.specs.WaitingRows.{IsMarked}
use Rattle.llb_loader.specs.Rules.{kind_mounts}
use Rattle.llb_model.specs.Program.{program_of}
use Rattle.llb_laws.specs.ContentLaws.{step_digests}

-- whether a vertex has a mount that shows a cache, with options
abbrev pub mounts_cache : Vertex → Bool
mounts_cache v = list_any (λ (m : Mount). is_some (cache_in m)) (kind_mounts v.op.kind)

-- whether a vertex makes a digest or, if some vertex of its graph does (`some`), mounts a cache
abbrev pub is_cause : Bool → Vertex → Bool
is_cause some v = list_any step_digests (program_of v).steps || (some && mounts_cache v)

-- a setting with these variables; what a command writes does not depend on the directory
abbrev pub at_root : List (List ℕ) → Setting
at_root env = record { cwd = []; env = env }

-- the marks after those in the list are added, if v is marked; else the same marks
pub record Passes (old : List Bool) (v : ℕ) (named : List ℕ) (new : List Bool) : Type 0 where
  pub count : length new ≡ length old
  pub marked : IsMarked old v → (k : ℕ) → IsMarked new k ↔ (IsMarked old k ⊎ Contains named k)
  pub same : slice_index_or old v false ≡ false → new ≡ old
