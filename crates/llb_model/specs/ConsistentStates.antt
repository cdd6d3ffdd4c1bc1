-- What is true of every state that granted events lead to, for every graph.
use Rattle.std.specs.Prelude.{◌≡◌, ℕ, true, false, List, length, Some, is_some, slice_get}
use Rattle.llb_loader.specs.declared.graph.Vertex.{Vertex}
use Rattle.llb_tree.specs.Tree.{TreeMap}
use Rattle.llb_model.specs.Program.{Build}
use Rattle.llb_model.specs.Outcome.{Done, inputs_from}
use Rattle.llb_model.specs.State.{Running, Settled, Execution, Runs, State, ending_at, is_waiting}

-- the statuses of the vertices agree with what the workers run, with the graph, and with each other
pub record IsConsistent (b : Build) (s : State) : Type 0 where
  -- each vertex has a status
  pub count : length s.statuses ≡ length b.graph.vertices
  -- the status of a vertex is Running, with a worker, exactly if that worker runs the vertex
  pub running : (v w : ℕ) → slice_get s.statuses v ≡ Some (Running w) → (x : Execution) × (slice_get s.workers w ≡ Some (Runs x)) × (x.vertex ≡ v)
  pub working : (w : ℕ) (x : Execution) → slice_get s.workers w ≡ Some (Runs x) → slice_get s.statuses x.vertex ≡ Some (Running w)
  -- a vertex that is Done has as many trees as it has outputs
  pub outputs : (v : ℕ) (x : Vertex) (trees : List TreeMap) → slice_get b.graph.vertices v ≡ Some x
      → slice_get s.statuses v ≡ Some (Settled (Done trees)) → length trees ≡ x.outputs
  -- for a vertex that does not wait, the trees of all its inputs are there
  pub inputs : (v : ℕ) (x : Vertex) → slice_get b.graph.vertices v ≡ Some x → is_waiting (slice_get s.statuses v) ≡ false
      → is_some (inputs_from (ending_at s.statuses) x.inputs) ≡ true
