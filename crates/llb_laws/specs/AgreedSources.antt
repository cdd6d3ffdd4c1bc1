-- What vertices read of local sources that have another tree: whether it is the same in both trees.
use Rattle.std.specs.Prelude.{◌≡◌, ◌↔◌, ℕ, Bool, true, false, List, length, Option, Some, option_and_then, slice_get, slice_index_or}
use Rattle.llb_ops.specs.declared.op.Kind.{Kind}
use Rattle.llb_ops.specs.declared.op.Kind.TheVariants as kind
use Rattle.llb_ops.specs.declared.file_op.FileOp.{FileOp}
use Rattle.llb_tree.specs.Tree.{TreeMap}
use Rattle.llb_loader.specs.declared.graph.Edge.{Edge}
use Rattle.llb_loader.specs.declared.graph.Vertex.{Vertex}
use Rattle.llb_loader.specs.Graph.{Numbered}
use Rattle.llb_loader.specs.LocalSources.{Local, local_name, tree_of_local}
use Rattle.llb_model.specs.Program.{Build}
use Rattle.llb_laws.specs.Matchings.{output_at}
use Rattle.llb_laws.specs.CopiedPaths.{AllReadAlike, LeadAlike}

-- an op of this kind reads the same of input number i, whether the input's tree is t or u: a file op if all its actions do; any other op may read all of a
-- tree, so it does if the trees are equal
abbrev pub InputAgrees : Option Kind → ℕ → TreeMap → TreeMap → Type 0
InputAgrees (Some (kind.File file)) i t u = AllReadAlike file.actions i t u
InputAgrees _ i t u = t ≡ u

-- the tree that is given for the local source with this number; nothing for a vertex that is none, or has no tree
abbrev pub source_tree : List Vertex → List Local → ℕ → Option TreeMap
source_tree vertices ls v = option_and_then (λ x. option_and_then (tree_of_local ls) (local_name x.op)) (slice_get vertices v)

-- an op of this kind reads the same of the input with number i and this edge, whether the local source to which the edge leads has its tree in ls or tree u
abbrev pub EdgeAgrees : List Vertex → List Local → TreeMap → Option Kind → ℕ → Edge → Type 0
EdgeAgrees vertices ls u op i e = (t : TreeMap) → source_tree vertices ls e.vertex ≡ Some t → InputAgrees op i t u

-- a vertex reads the same of each of its inputs that is a local source with a tree in ls, whether that source has this tree or tree u
abbrev pub VertexAgrees : List Vertex → List Local → TreeMap → Vertex → Type 0
VertexAgrees vertices ls u x = (i : ℕ) (e : Edge) → slice_get x.inputs i ≡ Some e → EdgeAgrees vertices ls u x.op.kind i e

-- there is a mark for each vertex, which says whether the vertex reads the same of the local sources (`VertexAgrees`)
pub record AreAgreements (vertices : List Vertex) (ls : List Local) (u : TreeMap) (marks : List Bool) : Type 0 where
  pub as_many : length marks ≡ length vertices
  pub exact : (k : ℕ) (x : Vertex) → slice_get vertices k ≡ Some x → (slice_index_or marks k false ≡ true) ↔ VertexAgrees vertices ls u x

-- the inputs that agree are those of the premise of `ReadsEndAlike`: if an edge of a file op leads to tree t in one build and to u in another, and the op reads
-- the same of t and u, then the edges lead to trees of which the op reads the same (`LeadAlike`)
abbrev pub AgreedLeadAlike : Numbered → Numbered → Type 0
AgreedLeadAlike g h = (ls ms : List Local) (file : FileOp) (i : ℕ) (e f : Edge) (t u : TreeMap)
    → output_at (record { graph = g; locals = ls }) e ≡ Some t → output_at (record { graph = h; locals = ms }) f ≡ Some u
    → InputAgrees (Some (kind.File file)) i t u
    → LeadAlike (record { graph = g; locals = ls }) (record { graph = h; locals = ms }) file.actions i e f
