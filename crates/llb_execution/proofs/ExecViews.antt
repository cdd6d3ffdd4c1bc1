-- The mounts of an exec of a graph are a view.
use Rattle.std.proofs.Common.{◌≡◌, ◌≢◌, ℕ, ◌<◌, List, [], ◌∷◌, length, map, refl, ap, subst, sym, ◌∙◌, arith}
use Rattle.std.proofs.lemmas.List.{get_or-map, length-map}
use Rattle.std.specs.Prelude.{Option, Some, None, IsSome, unwrap_or, Contains, AllPairs}
use Rattle.std.specs.List.{All}
use Rattle.llb_ops.specs.declared.exec.Mount.{Mount}
use Rattle.llb_ops.specs.declared.exec.ExecOp.{ExecOp}
use Rattle.llb_ops.specs.declared.op.Kind.TheVariants as kind
use Rattle.llb_mount.specs.View.{IsView, dests}
use Rattle.llb_tree.specs.Tree.{TreeMap}
use Rattle.llb_loader.specs.Mounts.{AreApart, value_at, dests_of}
use Rattle.llb_loader.specs.Graph.{IsExecVertex, IsVertexOf}
use Rattle.llb_loader.specs.declared.graph.Vertex.{Vertex}
use Rattle.llb_model.specs.Program.{path_in, shown_of}

abbrev Names : Type 0
Names = List (List ℕ)

-- a path, and the root where there is none
abbrev path_or_root : Option Names → Names
path_or_root o = unwrap_or o []

dests_shown : (inputs : List TreeMap) (mounts : List Mount) → dests (map (shown_of inputs) mounts) ≡ map path_or_root (dests_of mounts)
dests_shown inputs [] = refl
dests_shown inputs (m ∷ mounts) = ap (λ l. path_in m.dest ∷ l) (dests_shown inputs mounts)

root_there : (values : List (Option Names)) → Contains values (Some []) → Contains (map path_or_root values) []
root_there values (k, low, at) =
    let len : k < length (map path_or_root values) = omega (arith, length-map values path_or_root) in
    (k, len, get_or-map path_or_root values k (Some []) [] low ∙ ap path_or_root at)

some_path : (o : Option Names) → IsSome o → o ≡ Some (path_or_root o)
some_path (Some p) is = refl
some_path None is = absurd cc

all_differ : (values : List (Option Names)) → All IsSome values → AreApart values → AllPairs (λ d e. d ≢ e) (map path_or_root values)
all_differ values some apart i j d lt low same =
    let low' : j < length values = omega (arith, low, length-map values path_or_root) in
    let left : value_at values i ≡ Some (path_or_root (value_at values i)) = some_path (value_at values i) (some i None (omega arith)) in
    let right : value_at values j ≡ Some (path_or_root (value_at values j)) = some_path (value_at values j) (some j None low') in
    let equal : path_or_root (value_at values i) ≡ path_or_root (value_at values j)
    = sym (get_or-map path_or_root values i None d (omega arith)) ∙ same ∙ get_or-map path_or_root values j None d low' in
    apart.apart i j lt (path_or_root (value_at values i), left, right ∙ ap (λ (p : Names). Some p) (sym equal))

are_view : (v : Vertex) (x : ExecOp) (inputs : List TreeMap) → IsExecVertex v x → IsView (map (shown_of inputs) x.mounts)
are_view v x inputs is = record {
  root = subst (λ (ds : List Names). Contains ds []) (sym (dests_shown inputs x.mounts)) (root_there (dests_of x.mounts) is.root);
  differ = subst (λ (ds : List Names). AllPairs (λ d e. d ≢ e) ds) (sym (dests_shown inputs x.mounts)) (all_differ (dests_of x.mounts) is.dests is.apart);
  few = omega (arith, is.few, length-map x.mounts (shown_of inputs));
}

-- what an exec's mounts show is a view, so that it may be made
pub exec_is_view : (inputs : List TreeMap) (v : Vertex) (x : ExecOp) → v.op.kind ≡ Some (kind.Exec x) → IsVertexOf v v.op.kind
    → IsView (map (shown_of inputs) x.mounts)
exec_is_view inputs v x at is = are_view v x inputs (subst (IsVertexOf v) at is)
