-- The vertices as contracts see them (the build and the statuses), and what else the code keeps, which all follows from the build and the statuses.
use Rattle.std.specs.Prelude.{◌≡◌, ℕ, ◌<◌, Bool, true, false, ◌||◌, ◌&&◌, not, List, length, replicate, Option, Some, None, is_some, slice_get, slice_set}
use Rattle.llb_loader.specs.Graph.{IsGraph}
use Rattle.llb_loader.specs.declared.graph.Vertex.{Vertex}
use Rattle.llb_model.specs.Program.{Build}
use Rattle.llb_model.specs.Outcome.{Done, Failed, inputs_from}
use Rattle.llb_model.specs.State.{Status, Waiting, Running, Settled, ending_at, is_done, is_ready, is_blocked, stopped}
use Rattle.llb_model.specs.Run.{is_settled}
use Rattle.llb_board.specs.UsersAndOpenInputs.{Linked, IsLinked, AreLowered, AreRaised, has_inputs}
use Rattle.llb_board.specs.declared.vertices.vertex_state.Stage.{Stage}
use Rattle.llb_board.specs.declared.vertices.vertex_state.Stage.TheVariants as stage

-- ---- what contracts see

-- the build (the graph and its local trees), and the status of each vertex
pub record VerticesValue : Type 0 where
  pub build : Build
  pub statuses : List Status

-- the vertices of a build when each of them waits
abbrev pub all_waiting : Build → VerticesValue
all_waiting b = record { build = b; statuses = replicate (length b.graph.vertices) Waiting }

-- the vertices after the status of vertex v is set to s
abbrev pub with_status : ℕ → Status → VerticesValue → VerticesValue
with_status v s vs = record vs { statuses = slice_set vs.statuses v s }

-- the status that a stage (the code's state of a vertex) represents
abbrev pub status_of : Stage → Status
status_of stage.Waiting = Waiting
status_of (stage.Running w) = Running w
status_of (stage.Done trees) = Settled (Done trees)
status_of (stage.Failed f) = Settled (Failed f)

-- ---- what else is kept

-- if the status is Done, it has a tree for each output of the vertex
abbrev pub IsWhole : Option Vertex → Status → Type 0
IsWhole (Some x) (Settled (Done trees)) = length trees ≡ x.outputs
IsWhole (Some x) (Settled (Failed f)) = Unit {0}
IsWhole (Some x) (Running w) = Unit {0}
IsWhole (Some x) Waiting = Unit {0}
IsWhole None s = Unit {0}

-- whether a vertex is done
abbrev pub done_in : List Status → ℕ → Bool
done_in statuses u = is_done (ending_at statuses u)

-- whether a vertex can't be claimed now or later: it is settled, or blocked and not Ready
abbrev pub is_over : Build → List Status → ℕ → Bool
is_over b statuses v = is_settled (slice_get statuses v) || (is_blocked b statuses v && not (is_ready b statuses v))

-- no vertex with a number below n can be claimed now or later
abbrev pub AreOver : Build → List Status → ℕ → Type 0
AreOver b statuses n = (v : ℕ) → v < n → is_over b statuses v ≡ true

-- the count of a vertex's open inputs (inputs that are not done yet) is 0 exactly if all the trees that the vertex takes as inputs exist
abbrev pub TellsInputs : Build → List Status → Linked → Type 0
TellsInputs b statuses l = (v : ℕ) (x : Vertex) → slice_get b.graph.vertices v ≡ Some x → has_inputs l v ≡ is_some (inputs_from (ending_at statuses) x.inputs)

-- how many inputs of each user of a vertex are not done: one fewer if the vertex is done now and was not, one more if it was done and is not, else as many
abbrev pub AreCounted : (was_done is_done : Bool) → List ℕ → List ℕ → List ℕ → Type 0
AreCounted false true users old new = AreLowered users old new
AreCounted true false users old new = AreRaised users old new
AreCounted false false users old new = new ≡ old
AreCounted true true users old new = new ≡ old

-- What else the code keeps agrees with the build and the statuses. `stop_marks` marks each vertex that has failed or is downstream of one that has. `links` has
-- each vertex's count of inputs not done. No vertex below `first_open` can be claimed now or later. Each vertex has a status, and all outputs if it is done.
pub record IsInStep (b : Build) (statuses : List Status) (stop_marks : List Bool) (links : Linked) (first_open : ℕ) : Type 0 where
  pub graph : IsGraph b.graph
  pub count : length statuses ≡ length b.graph.vertices
  pub whole : (v : ℕ) (s : Status) → slice_get statuses v ≡ Some s → IsWhole (slice_get b.graph.vertices v) s
  pub marks : stop_marks ≡ stopped b statuses
  pub linked : IsLinked b.graph.vertices (done_in statuses) links
  pub over : AreOver b statuses first_open
