-- What is true, in every state that granted events lead to, of a vertex with no cache mount at or before it (a plain vertex).
use Rattle.std.specs.Prelude.{◌≡◌, ℕ, true, List, [], Some, slice_get}
use Rattle.llb_loader.specs.declared.graph.Vertex.{Vertex}
use Rattle.llb_tree.specs.Tree.{TreeMap}
use Rattle.llb_model.specs.Program.{Build, Left, program_of, start_with, begin, part}
use Rattle.llb_model.specs.Outcome.{Ending, Ended, outcome, ending_in, inputs_from, is_plain}
use Rattle.llb_model.specs.State.{Settled, Execution, Runs, State}

-- the result so far of an execution that holds no instances
abbrev pub left_of : Execution → Left
left_of x = record { work = record { own = x.own; trees = [] }; fault = x.fault }

-- execution x holds no instances; its result so far is the result of its vertex's first `x.done` micro-steps on the trees of the inputs' plain outcomes
pub record IsUnderWay (b : Build) (x : Execution) : Type 0 where
  pub vertex : Vertex
  pub trees : List TreeMap
  pub there : slice_get b.graph.vertices x.vertex ≡ Some vertex
  pub inputs : inputs_from (λ k. ending_in (outcome b k)) vertex.inputs ≡ Some trees
  pub so_far : part (program_of vertex).steps (begin b (start_with vertex trees) []) x.done ≡ left_of x
  pub bare : x.places ≡ []

-- each settled vertex with no cache mount at or before it has its plain outcome; each running one has worked on its inputs' plain outcomes (`IsUnderWay`)
pub record StandsByOutcomes (b : Build) (s : State) : Type 0 where
  pub settled : (v : ℕ) (e : Ending) → is_plain b v ≡ true → slice_get s.statuses v ≡ Some (Settled e) → outcome b v ≡ Some (Ended e)
  pub working : (w : ℕ) (x : Execution) → is_plain b x.vertex ≡ true → slice_get s.workers w ≡ Some (Runs x) → IsUnderWay b x
