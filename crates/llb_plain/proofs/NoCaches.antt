-- The search for the first vertex that mounts a cache; and what a vertex that mounts none shows.
use Rattle.std.proofs.Common.{◌≡◌, ℕ, zero, suc, ◌+◌, List, [], ◌∷◌, map, drop, refl, sym, ap, ◌∙◌}
use Rattle.std.specs.Prelude.{Bool, Option, Some, None, true, false, slice_get, if◌then◌else◌}
use Rattle.llb_ops.specs.declared.op.Kind.{Kind}
use Rattle.llb_ops.specs.declared.op.Kind.TheVariants as kind
use Rattle.llb_loader.specs.LocalSources.{Local}
use Rattle.llb_loader.specs.declared.graph.Vertex.{Vertex}
use Rattle.llb_tree.specs.Tree.{TreeMap}
use Rattle.llb_model.specs.Program.{has_cache, mount_of, workspace_on}
use Rattle.llb_model.proofs.Outcomes.{no_needs}
use Rattle.llb_execution.specs.ModelValues.{shown_in}
use Rattle.llb_plain.specs.Evaluation.{cache_from}

-- a search for a cache mount from vertex i on finds what the search from vertex 0 on finds
abbrev pub AsCache : List Vertex → ℕ → Type 0
AsCache vs i = cache_from i (drop i vs) ≡ cache_from 0 vs

-- if the search finds no vertex that mounts a cache, no vertex mounts one
pub none_has : (k : ℕ) (vs : List Vertex) (i : ℕ) (v : Vertex) → cache_from k vs ≡ None → slice_get vs i ≡ Some v → has_cache v ≡ false
none_has k [] i v none at = absurd cc
none_has k (u ∷ vs) i v none at = by_test (has_cache u) refl none i at (none_has (k + 1) vs)
  where
    by_test : (t : Bool) → has_cache u ≡ t → (if t then Some k else cache_from (k + 1) vs) ≡ None → (i : ℕ) → slice_get (u ∷ vs) i ≡ Some v
        → ((j : ℕ) (x : Vertex) → cache_from (k + 1) vs ≡ None → slice_get vs j ≡ Some x → has_cache x ≡ false) → has_cache v ≡ false
    by_test true is none i at rest = absurd cc
    by_test false is none zero at rest = let same : u ≡ v = cc in ap has_cache (sym same) ∙ is
    by_test false is none (suc j) at rest = rest j v none at

-- the workspace of a vertex that mounts no cache shows no cache
pub bare_on : (locals : List Local) (v : Vertex) (k : Option Kind) (inputs : List TreeMap) → has_cache v ≡ false → shown_in (workspace_on locals v k inputs)
    ≡ []
bare_on locals v (Some (kind.Source s)) inputs none = refl
bare_on locals v (Some (kind.File f)) inputs none = refl
bare_on locals v (Some (kind.Merge m)) inputs none = refl
bare_on locals v (Some (kind.Exec x)) inputs none = ap (map mount_of) (no_needs v none)
bare_on locals v (Some (kind.Build b)) inputs none = refl
bare_on locals v (Some (kind.Diff d)) inputs none = refl
bare_on locals v None inputs none = refl
