-- What the views of a vertex show, and what it needs.
use Rattle.std.proofs.Common.{◌≡◌, ℕ, suc, ◌+◌, ◌<◌, ◌≤◌, ◌^◌, List, [], ◌∷◌, length, map, Option, Some, None, refl, sym, ap, arith}
use Rattle.std.specs.Prelude.{slice_get}
use Rattle.llb_ops.specs.declared.op.Input.{Input}
use Rattle.llb_ops.specs.declared.op.Kind.{Kind}
use Rattle.llb_ops.specs.declared.op.Kind.TheVariants as kind
use Rattle.llb_ops.specs.declared.exec.Mount.{Mount}
use Rattle.llb_loader.specs.declared.graph.Vertex.{Vertex}
use Rattle.llb_loader.specs.Graph.{Numbered, IsGraph, IsVertexOf}
use Rattle.llb_loader.specs.Rules.{kind_mounts}
use Rattle.llb_loader.specs.LocalSources.{Local}
use Rattle.llb_loader.specs.Mounts as mounts
use Rattle.llb_loader.specs.Mounts.{CacheKey}
use Rattle.llb_tree.specs.Tree.{TreeMap}
use Rattle.llb_model.specs.Program.{key_of, mount_of, with_need, needs_from, needs_of, shown_of, workspace_on}
use Rattle.llb_execution.specs.ModelValues.{mounts_in, shown_in}
use Rattle.llb_board.specs.RunningWorkerSupplies.{needs_at}
use Rattle.llb_model.proofs.Lists.{length_map}
use Rattle.llb_model.proofs.VertexKinds.{kind_at}

-- ---- a view before the first micro-step

-- at first a view has as many mounts as its op
pub mounts_on : (locals : List Local) (v : Vertex) (k : Option Kind) (inputs : List TreeMap) → mounts_in (workspace_on locals v k inputs)
    ≡ length (kind_mounts k)
mounts_on locals v (Some (kind.Source s)) inputs = refl
mounts_on locals v (Some (kind.File f)) inputs = refl
mounts_on locals v (Some (kind.Merge m)) inputs = refl
mounts_on locals v (Some (kind.Exec x)) inputs = length_map (shown_of inputs) x.mounts
mounts_on locals v (Some (kind.Build b)) inputs = refl
mounts_on locals v (Some (kind.Diff d)) inputs = refl
mounts_on locals v None inputs = refl

shown_of_kind : (locals : List Local) (v : Vertex) (k : Option Kind) (inputs : List TreeMap) → v.op.kind ≡ k
    → shown_in (workspace_on locals v k inputs) ≡ map mount_of (needs_of v)
shown_of_kind locals v (Some (kind.Source s)) inputs is = ap (λ o. map mount_of (needs_from v.op.inputs 0 (kind_mounts o))) (sym is)
shown_of_kind locals v (Some (kind.File f)) inputs is = ap (λ o. map mount_of (needs_from v.op.inputs 0 (kind_mounts o))) (sym is)
shown_of_kind locals v (Some (kind.Merge m)) inputs is = ap (λ o. map mount_of (needs_from v.op.inputs 0 (kind_mounts o))) (sym is)
shown_of_kind locals v (Some (kind.Exec x)) inputs is = refl
shown_of_kind locals v (Some (kind.Build b)) inputs is = ap (λ o. map mount_of (needs_from v.op.inputs 0 (kind_mounts o))) (sym is)
shown_of_kind locals v (Some (kind.Diff d)) inputs is = ap (λ o. map mount_of (needs_from v.op.inputs 0 (kind_mounts o))) (sym is)
shown_of_kind locals v None inputs is = ap (λ o. map mount_of (needs_from v.op.inputs 0 (kind_mounts o))) (sym is)

-- the mounts of a view that show caches are those that the needs of its vertex name
pub shown_on : (locals : List Local) (v : Vertex) (inputs : List TreeMap) → shown_in (workspace_on locals v v.op.kind inputs) ≡ map mount_of (needs_of v)
shown_on locals v inputs = shown_of_kind locals v v.op.kind inputs refl

-- ---- how many needs there are

needs_fewer : (inputs : List Input) (i : ℕ) (ms : List Mount) → length (needs_from inputs i ms) ≤ length ms
needs_fewer inputs i [] = omega arith
needs_fewer inputs i (m ∷ ms) = by_key (mounts.key_of inputs m) (needs_fewer inputs (i + 1) ms)
  where
    by_key : (o : Option CacheKey) → length (needs_from inputs (i + 1) ms) ≤ length ms
        → length (with_need i m o (needs_from inputs (i + 1) ms)) ≤ suc (length ms)
    by_key None less = omega (arith, less)
    by_key (Some k) less = omega (arith, less)

few_by : (v : Vertex) (k : Option Kind) → IsVertexOf v k → length (kind_mounts k) < 2 ^ 32
few_by v (Some (kind.Source s)) is = omega arith
few_by v (Some (kind.File f)) is = omega arith
few_by v (Some (kind.Merge m)) is = omega arith
few_by v (Some (kind.Exec x)) is = omega (arith, is.few)
few_by v (Some (kind.Build b)) is = absurd is
few_by v (Some (kind.Diff d)) is = absurd is
few_by v None is = absurd is

pub few_mounts : (v : Vertex) → IsVertexOf v v.op.kind → length (kind_mounts v.op.kind) < 2 ^ 32
few_mounts v is = few_by v v.op.kind is

few_at : (g : Numbered) (k : ℕ) (o : Option Vertex) → IsGraph g → slice_get g.vertices k ≡ o → length (needs_at o) < 2 ^ 32
few_at g k None graph at = omega arith
few_at g k (Some v) graph at = omega (arith, needs_fewer v.op.inputs 0 (kind_mounts v.op.kind), few_mounts v (kind_at g k v graph at))

-- the needs of a vertex can be counted in 32 bits, as its mounts can
pub few_needs : (g : Numbered) (k : ℕ) → IsGraph g → length (needs_at (slice_get g.vertices k)) < 2 ^ 32
few_needs g k graph = few_at g k (slice_get g.vertices k) graph refl
