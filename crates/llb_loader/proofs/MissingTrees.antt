-- The vertices of a graph one after another, up to the first whose local tree is missing.
use Rattle.std.proofs.Common.{◌≡◌, ℕ, ◌+◌, ◌≤◌, List, ◌∷◌, drop, length, sym, ap, ◌∙◌, drop-cons, add-one}
use Rattle.std.specs.Prelude.{Some, None, is_some, true, false, slice_get, if◌then◌else◌}
use Rattle.std.proofs.lemmas.List.{drop_all}
use Rattle.std.proofs.lemmas.Option.{slice_get_within, get_or_from_slice_get}
use Rattle.llb_loader.specs.declared.graph.Vertex.{Vertex}
use Rattle.llb_loader.specs.LocalSources.{Local, local_name, tree_of_local}
use Rattle.llb_loader.specs.FirstMissingTree.{lacks, missing_local, first_of}

-- the item at a place, before those after it
drop_at : {A : Type 0} (xs : List A) (i : ℕ) (x : A) → slice_get xs i ≡ Some x → drop i xs ≡ x ∷ drop (i + 1) xs
drop_at xs i x at = drop-cons xs i x (slice_get_within xs i x at) ∙ (λ j. get_or_from_slice_get xs i x x at j ∷ drop (sym (add-one i) j) xs)

-- a search for a missing local tree from vertex i on finds what the search over all vertices finds
abbrev pub AsMissing : List Local → List Vertex → ℕ → Type 0
AsMissing locals vs i = missing_local locals (drop i vs) ≡ missing_local locals vs

missing_next : (locals : List Local) (vs : List Vertex) (i : ℕ) (v : Vertex) → slice_get vs i ≡ Some v
    → missing_local locals (drop i vs) ≡ first_of (lacks locals (local_name v.op)) (missing_local locals (drop (i + 1) vs))
missing_next locals vs i v at = ap (missing_local locals) (drop_at vs i v at)

pub missing_there : (locals : List Local) (vs : List Vertex) (i : ℕ) (v : Vertex) (name : List ℕ) → AsMissing locals vs i → slice_get vs i ≡ Some v
    → local_name v.op ≡ Some name → is_some (tree_of_local locals name) ≡ false → missing_local locals vs ≡ Some name
missing_there locals vs i v name here at named none =
    sym here ∙ missing_next locals vs i v at
    ∙ ap (λ o. first_of (lacks locals o) (missing_local locals (drop (i + 1) vs))) named
    ∙ ap (λ b. first_of (if b then None else Some name) (missing_local locals (drop (i + 1) vs))) none

pub missing_passed : (locals : List Local) (vs : List Vertex) (i : ℕ) (v : Vertex) (name : List ℕ) → AsMissing locals vs i → slice_get vs i ≡ Some v
    → local_name v.op ≡ Some name → is_some (tree_of_local locals name) ≡ true → AsMissing locals vs (i + 1)
missing_passed locals vs i v name here at named some =
    sym (missing_next locals vs i v at
    ∙ ap (λ o. first_of (lacks locals o) (missing_local locals (drop (i + 1) vs))) named
    ∙ ap (λ b. first_of (if b then None else Some name) (missing_local locals (drop (i + 1) vs))) some) ∙ here

pub missing_unnamed : (locals : List Local) (vs : List Vertex) (i : ℕ) (v : Vertex) → AsMissing locals vs i → slice_get vs i ≡ Some v
    → local_name v.op ≡ None → AsMissing locals vs (i + 1)
missing_unnamed locals vs i v here at unnamed =
    sym (missing_next locals vs i v at ∙ ap (λ o. first_of (lacks locals o) (missing_local locals (drop (i + 1) vs))) unnamed) ∙ here

pub missing_end : (locals : List Local) (vs : List Vertex) (i : ℕ) → AsMissing locals vs i → length vs ≤ i → None ≡ missing_local locals vs
missing_end locals vs i here past = ap (missing_local locals) (sym (drop_all i vs past)) ∙ here
