-- What a worker has while it runs a vertex: an empty tree for each output (so a settle needs no memory), and the vertex's micro-steps and caches.
use Rattle.std.specs.Prelude.{ℕ, List, [], map, replicate, length, Option, Some, None, slice_get}
use Rattle.llb_tree.specs.Tree.{TreeMap, empty_tree}
use Rattle.llb_loader.specs.declared.graph.Vertex.{Vertex}
use Rattle.llb_cache.specs.declared.key.Key.{Key}
use Rattle.llb_ops.specs.declared.exec.Mount.{Mount}
use Rattle.llb_loader.specs.Rules.{kind_mounts}
use Rattle.llb_model.specs.Caches.{Instance}
use Rattle.llb_model.specs.Program.{Build, Need, key_of, mount_of, needs_of, MicroStep, program_at}
use Rattle.llb_model.specs.State.{WorkerStatus, Idle, Runs}
use Rattle.llb_execution.specs.ModelValues.{mounts_in, shown_in}
use Rattle.llb_board.specs.declared.workers.running_workers.Seat.{Seat}
use Rattle.llb_board.specs.declared.workers.running_workers.Execution as own
use Rattle.llb_board.specs.declared.workers.running_workers.Seat.TheVariants as seat

-- what a worker has while it runs a vertex: an empty tree for each output of the vertex, the vertex's micro-steps, how many mounts the vertex has, the
-- numbers of those mounts that show caches, and the keys of these caches
pub record Supplies : Type 0 where
  pub outputs : List TreeMap
  pub steps : List MicroStep
  pub mounts : ℕ
  pub shown : List ℕ
  pub keys : List Key

-- the supplies that a value of the code's type `Execution` holds
abbrev pub supplies_of : own.Execution → Supplies
supplies_of x = record {
  outputs = x.outputs.items;
  steps = x.steps;
  mounts = mounts_in x.view;
  shown = shown_in x.view;
  keys = map (λ (p : Instance). p.key) x.places.items;
}

-- the mounts of a vertex; none if there is no vertex
abbrev pub mounts_at : Option Vertex → List Mount
mounts_at (Some v) = kind_mounts v.op.kind
mounts_at None = []

-- the cache needs of a vertex; none if there is no vertex
abbrev pub needs_at : Option Vertex → List Need
needs_at (Some v) = needs_of v
needs_at None = []

-- the supplies for an execution of this vertex; all empty if there is no vertex
abbrev pub supplies_for : Option Vertex → Supplies
supplies_for o = record {
  outputs = replicate (program_at o).outputs empty_tree;
  steps = (program_at o).steps;
  mounts = length (mounts_at o);
  shown = map mount_of (needs_at o);
  keys = map key_of (needs_at o);
}

-- the supplies that a worker has now, read from the worker's seat (what the worker runs)
abbrev pub ready_made : Seat → Supplies
ready_made seat.Idle = supplies_for None
ready_made (seat.Runs l x) = supplies_of x

-- the supplies that a worker must have for what it runs
abbrev pub needed : Build → WorkerStatus → Supplies
needed b Idle = supplies_for None
needed b (Runs x) = supplies_for (slice_get b.graph.vertices x.vertex)
