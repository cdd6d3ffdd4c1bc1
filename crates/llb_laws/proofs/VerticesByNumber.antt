-- What holds of the vertex at a number of a graph.
use Rattle.std.proofs.Common.{◌≡◌, ℕ, false, not, ◌&&◌, List, [], ◌∷◌, take, Some, refl, ap, subst, ◌∙◌}
use Rattle.std.specs.Prelude.{slice_get, unwrap_or}
use Rattle.std.specs.List.{All, list_all}
use Rattle.std.proofs.lemmas.Option.{get_or_from_slice_get}
use Rattle.llb_loader.specs.declared.graph.Edge.{Edge}
use Rattle.llb_loader.specs.declared.graph.Vertex.{Vertex}
use Rattle.llb_loader.specs.Graph.{LeadsBelow, IsGraph}
use Rattle.llb_model.specs.Program.{Build, has_cache}
use Rattle.llb_model.specs.Outcome.{next_plain, is_plain}
use Rattle.llb_model.specs.ListsFromEarlierItems.{by_number}
use Rattle.llb_model.proofs.Lists.{get_take, Each_of, got_within}
use Rattle.llb_model.proofs.ItemsFromEarlierItems.{by_number_is}
use Rattle.llb_model.proofs.Outcomes.{each_below}

-- what holds of all vertices holds of the one at a number
pub at_number : (P : Vertex → Type 0) (vs : List Vertex) → All P vs → (k : ℕ) (v : Vertex) → slice_get vs k ≡ Some v → P v
at_number P vs all k v there = subst P (get_or_from_slice_get vs k v v there) (all k v (got_within vs k v there))

-- a vertex is plain exactly where it mounts no cache and each of its inputs is plain
pub plain_is : (b : Build) → IsGraph b.graph → (k : ℕ) (v : Vertex) → slice_get b.graph.vertices k ≡ Some v
    → is_plain b k ≡ (not (has_cache v) && list_all (λ (e : Edge). is_plain b e.vertex) v.inputs)
plain_is b graph k v there =
    ap (λ o. unwrap_or o false) (by_number_is next_plain b.graph.vertices k v there)
    ∙ ap (λ t. not (has_cache v) && t) (each v.inputs (each_below b.graph graph k v there))
  where
    each : (edges : List Edge) → Each_of (LeadsBelow b.graph.vertices k) edges
        → list_all (λ (e : Edge). unwrap_or (slice_get (take k (by_number next_plain [] b.graph.vertices)) e.vertex) false) edges
        ≡ list_all (λ (e : Edge). is_plain b e.vertex) edges
    each [] leads = refl
    each (e ∷ edges) leads =
        let first = ap (λ o. unwrap_or o false) (get_take (by_number next_plain [] b.graph.vertices) k e.vertex leads.0.lower) in
        λ i. first i && each edges leads.1 i
