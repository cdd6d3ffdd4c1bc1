-- The plain outcome of a vertex. A vertex with no cache mount at or before it ends with its plain outcome, whatever the order of events.
use Rattle.std.specs.Prelude.{ℕ, Bool, false, not, ◌&&◌, List, [], ◌∷◌, map, Option, Some, None, unwrap_or, slice_get}
use Rattle.std.specs.List.{list_all}
use Rattle.llb_loader.specs.declared.graph.Edge.{Edge}
use Rattle.llb_loader.specs.declared.graph.Vertex.{Vertex}
use Rattle.llb_tree.specs.Tree.{TreeMap}
use Rattle.llb_events.specs.declared.fault.VertexFault.{VertexFault}
use Rattle.llb_model.specs.ListsFromEarlierItems.{by_number}
use Rattle.llb_model.specs.Program.{Build, Program, Workspace, Left, start_with, program_of, begin, whole, outputs_of, has_cache}

-- how a vertex ends: with its outputs, or with its first fault
pub data Ending : Type 0 where
  Done : List TreeMap → Ending
  Failed : VertexFault → Ending

-- how a vertex ends by the graph and the local trees alone: an ending, or Blocked if an input has no tree
pub data Outcome : Type 0 where
  Ended : Ending → Outcome
  Blocked : Outcome

-- how a program ends: with the outputs of its workspace, or with the fault if there is one
abbrev pub ended : Program → Workspace → Option VertexFault → Ending
ended p workspace None = Done (outputs_of p workspace)
ended p workspace (Some f) = Failed f

-- how a vertex ends, given the result of its micro-steps
abbrev pub ending : Program → Left → Ending
ending p left = ended p left.work.own left.fault

-- output i of a vertex, if the vertex is done and has that output
abbrev pub output_in : Option Ending → ℕ → Option TreeMap
output_in (Some (Done trees)) i = slice_get trees i
output_in (Some (Failed f)) i = None
output_in None i = None

-- the list with the item put before it, if the item exists and the list exists
abbrev pub both : {A : Type 0} → Option A → Option (List A) → Option (List A)
both (Some x) (Some xs) = Some (x ∷ xs)
both (Some x) None = None
both None xs = None

-- the items of a list, if none of them is missing
abbrev pub all_there : {A : Type 0} → List (Option A) → Option (List A)
all_there [] = Some []
all_there (o ∷ os) = both o (all_there os)

-- the trees that these edges lead to, if each edge leads to an output of a vertex that is done
unfoldable pub inputs_from : (ℕ → Option Ending) → List Edge → Option (List TreeMap)
inputs_from ending_of edges = all_there (map (λ (e : Edge). output_in (ending_of e.vertex) e.index) edges)

-- the outcome of a vertex, given the trees of its inputs: how its whole program ends, with no instances of caches; Blocked if a tree of an input is missing
abbrev pub outcome_on : Build → Vertex → Option (List TreeMap) → Outcome
outcome_on b v None = Blocked
outcome_on b v (Some trees) = Ended (ending (program_of v) (whole (program_of v).steps (begin b (start_with v trees) [])))

-- how a vertex ended; nothing if its outcome is Blocked
abbrev pub ending_in : Option Outcome → Option Ending
ending_in (Some (Ended e)) = Some e
ending_in (Some Blocked) = None
ending_in None = None

-- the outcome of a vertex, given the outcomes of all vertices with lower numbers; every input of the vertex is an output of one of those vertices
abbrev pub next_outcome : Build → List Outcome → Vertex → Outcome
next_outcome b before v = outcome_on b v (inputs_from (λ k. ending_in (slice_get before k)) v.inputs)

-- the plain outcomes of all vertices, by number
abbrev pub outcomes : Build → List Outcome
outcomes b = by_number (next_outcome b) [] b.graph.vertices

-- the plain outcome of vertex v: what its program makes of the outcomes of its inputs, with no workers and no caches
abbrev pub outcome : Build → ℕ → Option Outcome
outcome b v = slice_get (outcomes b) v

-- whether a vertex is plain (no cache mount is at or before it), given for each vertex with a lower number whether that vertex is plain
abbrev pub next_plain : List Bool → Vertex → Bool
next_plain before v = not (has_cache v) && list_all (λ (e : Edge). unwrap_or (slice_get before e.vertex) false) v.inputs

-- whether no cache mount is at or before vertex v; false if there is no such vertex
abbrev pub is_plain : Build → ℕ → Bool
is_plain b v = unwrap_or (slice_get (by_number next_plain [] b.graph.vertices) v) false
