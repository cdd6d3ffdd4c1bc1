-- The state of the machine, and what can be asked of it: whether a vertex is Ready or blocked, what a worker runs, and which instances a claim takes.
use Rattle.std.specs.Prelude.{◌≡◌, ℕ, zero, suc, ◌+◌, Bool, true, false, ◌&&◌, ◌||◌, List, [], ◌∷◌, ◌++◌, length, map, Option, Some, None}
use Rattle.std.specs.Prelude.{is_some, option_map, unwrap_or, slice_get, nat_le, replicate, if◌then◌else◌}
use Rattle.std.specs.List.{list_any}
use Rattle.llb_cache.specs.declared.key.Key.{Key}
use Rattle.llb_cache.specs.declared.key.Mode.{Mode}
use Rattle.llb_cache.specs.declared.key.Mode.TheVariants.{Shared, Private, Locked}
use Rattle.llb_loader.specs.declared.graph.Edge.{Edge}
use Rattle.llb_loader.specs.declared.graph.Vertex.{Vertex}
use Rattle.llb_tree.specs.Tree.{TreeMap}
use Rattle.llb_events.specs.declared.fault.VertexFault.{VertexFault}
use Rattle.llb_model.specs.ListsFromEarlierItems.{by_number}
use Rattle.llb_model.specs.Caches.{Instance, place, Store, content, trees_at, is_in, Has}
use Rattle.llb_model.specs.Program.{Build, MicroStep, Program, Workspace, Work, Need, Start, start_with, program_at, needs_of, base_in, begin}
use Rattle.llb_model.specs.Outcome.{Ending, Done, Failed, ended, inputs_from}

-- the status of a vertex
pub data Status : Type 0 where
  Waiting : Status
  Running : ℕ → Status
  Settled : Ending → Status

-- what a running worker runs: its vertex, how many micro-steps are done (a micro-step that faults is counted too), the vertex's fault if there is one, the
-- workspace, and the cache instances that the worker holds, in the order of the vertex's needs (`Need` of Program: one for each mount that shows a cache)
pub record Execution : Type 0 where
  pub vertex : ℕ
  pub done : ℕ
  pub fault : Option VertexFault
  pub own : Workspace
  pub places : List Instance

-- the state of a worker
pub data WorkerStatus : Type 0 where
  Idle : WorkerStatus
  Runs : Execution → WorkerStatus

-- the state of the machine: the status of each vertex, what each worker does, and the contents of the caches
pub record State : Type 0 where
  pub statuses : List Status
  pub workers : List WorkerStatus
  pub store : Store

-- what a machine is opened with besides the graph and the local trees: how many workers there are, and the contents of the caches
pub record Opening : Type 0 where
  pub workers : ℕ
  pub store : Store

-- the state at the opening: every vertex waits, every worker is idle, and the store is the one that the board is opened with
abbrev pub opening : Build → Opening → State
opening b o = record { statuses = replicate (length b.graph.vertices) Waiting; workers = replicate o.workers Idle; store = o.store }

-- the instances that a worker holds; none if the worker is idle or does not exist
abbrev pub places_at : Option WorkerStatus → List Instance
places_at (Some (Runs x)) = x.places
places_at (Some Idle) = []
places_at None = []

-- how a vertex with this status ended, if it is settled
abbrev pub ending_of : Option Status → Option Ending
ending_of (Some (Settled e)) = Some e
ending_of (Some (Running w)) = None
ending_of (Some Waiting) = None
ending_of None = None

-- how vertex v ended, if it is settled
abbrev pub ending_at : List Status → ℕ → Option Ending
ending_at statuses v = ending_of (slice_get statuses v)

-- what the work on a vertex with this status begins with; nothing unless the vertex waits and the trees of all its inputs are there
abbrev pub start_from : List Status → Option Status → Option Vertex → Option Start
start_from statuses (Some Waiting) (Some v) = option_map (start_with v) (inputs_from (ending_at statuses) v.inputs)
start_from statuses (Some Waiting) None = None
start_from statuses (Some (Running w)) v = None
start_from statuses (Some (Settled e)) v = None
start_from statuses None v = None

-- what the work on vertex v begins with, if v is Ready, that is, if v waits and the trees of all its inputs are there
abbrev pub ready : Build → List Status → ℕ → Option Start
ready b statuses v = start_from statuses (slice_get statuses v) (slice_get b.graph.vertices v)

-- whether a vertex is Ready
abbrev pub is_ready : Build → List Status → ℕ → Bool
is_ready b statuses v = is_some (ready b statuses v)

-- whether a status is Waiting
abbrev pub is_waiting : Option Status → Bool
is_waiting (Some Waiting) = true
is_waiting (Some (Running w)) = false
is_waiting (Some (Settled e)) = false
is_waiting None = false

-- whether a vertex with this ending is done; false if there is no ending
abbrev pub is_done : Option Ending → Bool
is_done (Some (Done trees)) = true
is_done (Some (Failed f)) = false
is_done None = false

-- whether a vertex with this ending has failed; false if there is no ending
abbrev pub is_failed : Option Ending → Bool
is_failed (Some (Failed f)) = true
is_failed (Some (Done trees)) = false
is_failed None = false

-- whether vertex v has failed or is downstream of a failed vertex; `before` says the same for all vertices before v, so its length is the number of v
abbrev pub next_stopped : List Status → List Bool → Vertex → Bool
next_stopped statuses before v =
    is_failed (ending_at statuses (length before)) || list_any (λ (e : Edge). unwrap_or (slice_get before e.vertex) false) v.inputs

-- for each vertex, by number: whether it has failed or is downstream of one that has
abbrev pub stopped : Build → List Status → List Bool
stopped b statuses = by_number (next_stopped statuses) [] b.graph.vertices

-- whether vertex v has failed or is downstream of one that has
abbrev pub is_stopped : Build → List Status → ℕ → Bool
is_stopped b statuses v = unwrap_or (slice_get (stopped b statuses) v) false

-- whether vertex v is blocked: it waits downstream of a vertex that failed
abbrev pub is_blocked : Build → List Status → ℕ → Bool
is_blocked b statuses v = is_waiting (slice_get statuses v) && is_stopped b statuses v

-- the execution of a worker, if the worker runs one
abbrev pub runs : Option WorkerStatus → Option Execution
runs (Some (Runs x)) = Some x
runs (Some Idle) = None
runs None = None

-- the program of the vertex that an execution works on
abbrev pub program_in : Build → Execution → Program
program_in b x = program_at (slice_get b.graph.vertices x.vertex)

-- the work of an execution in state s: its workspace, and the trees that its cache instances have in s
abbrev pub work_of : State → Execution → Work
work_of s x = record { own = x.own; trees = trees_at s.store x.places }

-- whether an execution is finished: it has a fault, or all its micro-steps are done
abbrev pub is_finished : List MicroStep → Execution → Bool
is_finished steps x = is_some x.fault || nat_le (length steps) x.done

-- the micro-step that comes next; none if the execution is finished
abbrev pub next_step : List MicroStep → Execution → Option MicroStep
next_step steps x = if is_finished steps x then None else slice_get steps x.done

-- how the vertex of a finished execution ends: failed if the execution has a fault, else done with the outputs of its program
abbrev pub ending_from : Program → Execution → Ending
ending_from p x = ended p x.own x.fault

-- ---- the instances that claims take

-- the instances that the running workers hold
abbrev pub held : List WorkerStatus → List Instance
held [] = []
held (Idle ∷ workers) = held workers
held (Runs x ∷ workers) = x.places ++ held workers

-- no running worker holds the instance
abbrev pub IsFree : List WorkerStatus → Instance → Type 0
IsFree workers p = (w : ℕ) (x : Execution) → slice_get workers w ≡ Some (Runs x) → Has x.places p → ⊥

-- a number that is above the number of each of these instances
abbrev pub above : List Instance → ℕ
above [] = 0
above (p ∷ ps) = p.number + 1 + above ps

-- the least number i from n to n + tries - 1 for which instance i of the key is not in the list; n + tries if there is no such number
abbrev pub first_free : List Instance → Key → ℕ → ℕ → ℕ
first_free ps k n zero = n
first_free ps k n (suc tries) = if is_in ps (place k n) then first_free ps k (n + 1) tries else n

-- the number of the instance that a claim takes for a key while the instances `ps` are held: 0; for a private key the least number whose instance is not held
abbrev pub number_for : List Instance → Key → Mode → ℕ
number_for ps k Shared = 0
number_for ps k Locked = 0
number_for ps k Private = first_free ps k 0 (above ps)

-- the instance that a claim takes for a need while these instances are held
abbrev pub place_for : List Instance → Need → Instance
place_for ps n = place n.key (number_for ps n.key n.key.mode)

-- the instances that a claim takes, one for each need
abbrev pub places_for : List Instance → List Need → List Instance
places_for ps needs = map (place_for ps) needs

-- whether a claim of a vertex that needs this key is refused: the key's mode is Locked, and instance 0 of the key is held
abbrev pub is_locked_and_held : List Instance → Key → Mode → Bool
is_locked_and_held ps k Locked = is_in ps (place k 0)
is_locked_and_held ps k Private = false
is_locked_and_held ps k Shared = false

-- the first locked key among these needs whose instance is one of the held instances `ps`; none if there is no such key
abbrev pub held_key : List Instance → List Need → Option Key
held_key ps [] = None
held_key ps (n ∷ needs) = if is_locked_and_held ps n.key n.key.mode then Some n.key else held_key ps needs

-- the trees that a claim begins with, one for each of these instances: the instance's own tree if the instance exists, else the tree of the need's input
abbrev pub first_trees : Store → List TreeMap → List Instance → List Need → List TreeMap
first_trees s inputs [] needs = []
first_trees s inputs (p ∷ ps) [] = []
first_trees s inputs (p ∷ ps) (n ∷ needs) = unwrap_or (content s p) (base_in n.input inputs) ∷ first_trees s inputs ps needs

-- the work before the first micro-step of a vertex whose claim took these instances
abbrev pub begin_at : Build → Store → Start → List Instance → Work
begin_at b s start ps = begin b start (first_trees s start.inputs ps (needs_of start.vertex))

-- the instances with these numbers, each with the key of the need at the same position
abbrev pub places_by : List Need → List ℕ → List Instance
places_by [] numbers = []
places_by (n ∷ needs) [] = []
places_by (n ∷ needs) (i ∷ numbers) = place n.key i ∷ places_by needs numbers
