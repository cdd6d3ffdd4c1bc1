-- A vertex is Ready exactly where it waits, and all its inputs are done.
use Rattle.std.proofs.Common.{◌≡◌, ℕ, true, ◌&&◌, List, Option, Some, None, is_some, option_map, refl, ap, ◌∙◌, arith}
use Rattle.std.specs.Prelude.{slice_get}
use Rattle.std.specs.List.{list_all}
use Rattle.llb_loader.specs.Graph.{IsGraph}
use Rattle.llb_loader.specs.declared.graph.Edge.{Edge}
use Rattle.llb_loader.specs.declared.graph.Vertex.{Vertex}
use Rattle.llb_tree.specs.Tree.{TreeMap}
use Rattle.llb_model.specs.Program.{Build, Start, start_with}
use Rattle.llb_model.specs.Outcome.{inputs_from}
use Rattle.llb_model.specs.State.{Status, Waiting, Running, Settled, State, ending_at, start_from, ready, is_ready, is_waiting, is_done}
use Rattle.llb_model.specs.ConsistentStates.{IsConsistent}
use Rattle.llb_model.proofs.Lists.{got_within}
use Rattle.llb_model.proofs.GrantedEvents.{ready_is}
use Rattle.llb_model.proofs.Outcomes.{each_below, inputs_there}
use Rattle.llb_model.proofs.StoppedVertices.{done_count}

some_start : (v : Vertex) (o : Option (List TreeMap)) → is_some (option_map (start_with v) o) ≡ is_some o
some_start v None = refl
some_start v (Some trees) = refl

-- a vertex is Ready exactly where it waits and the trees of all its inputs are there
pub ready_by_inputs : (b : Build) (statuses : List Status) (v : ℕ) (x : Vertex) → slice_get b.graph.vertices v ≡ Some x
    → is_ready b statuses v ≡ (is_waiting (slice_get statuses v) && is_some (inputs_from (ending_at statuses) x.inputs))
ready_by_inputs b statuses v x there = ap (λ o. is_some (start_from statuses (slice_get statuses v) o)) there ∙ by_status (slice_get statuses v)
  where
    by_status : (o : Option Status) → is_some (start_from statuses o (Some x)) ≡ (is_waiting o && is_some (inputs_from (ending_at statuses) x.inputs))
    by_status None = refl
    by_status (Some Waiting) = some_start x (inputs_from (ending_at statuses) x.inputs)
    by_status (Some (Running w)) = refl
    by_status (Some (Settled e)) = refl

-- a vertex of a graph is Ready exactly where it waits and all vertices that its edges lead to are Done
pub ready_law : (b : Build) → IsGraph b.graph → (s : State) → IsConsistent b s → (v : ℕ) (x : Vertex) → slice_get b.graph.vertices v ≡ Some x
    → is_ready b s.statuses v ≡ (is_waiting (slice_get s.statuses v) && list_all (λ (e : Edge). is_done (ending_at s.statuses e.vertex)) x.inputs)
ready_law b graph s here v x there =
    ready_by_inputs b s.statuses v x there
    ∙ ap (λ t. is_waiting (slice_get s.statuses v) && t)
    (inputs_there b.graph (ending_at s.statuses) (done_count b graph s here) v
    (omega (arith, got_within b.graph.vertices v x there)) x.inputs (each_below b.graph graph v x there))

-- a Ready vertex waits
pub ready_waits : (b : Build) (statuses : List Status) (v : ℕ) → is_ready b statuses v ≡ true → slice_get statuses v ≡ Some Waiting
ready_waits b statuses v is = by_start (ready b statuses v) refl is
  where
    by_start : (o : Option Start) → ready b statuses v ≡ o → is_some o ≡ true → slice_get statuses v ≡ Some Waiting
    by_start None there is = absurd cc
    by_start (Some start) there is = (ready_is b statuses v start there).waits
