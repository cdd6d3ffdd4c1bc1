-- The trees that a worker works on now, and the trees of caches; callers read them with `Board::worked_on` and `Board::cached`.
use Rattle.std.specs.Prelude.{ℕ, List, [], Option, Some, None, slice_get}
use Rattle.std.specs.Map.{keys_of}
use Rattle.llb_cache.specs.declared.key.Key.{Key}
use Rattle.llb_cache.specs.Caches.{Row}
use Rattle.llb_tree.specs.Tree.{TreeMap}
use Rattle.llb_model.specs.Caches.{Store, content, place, trees_at}
use Rattle.llb_model.specs.State.{State, Execution, runs}
use Rattle.llb_execution.specs.WorkspaceTrees.{trees_with}

-- the trees that an execution works on if the caches have these contents; none if nothing runs
abbrev pub worked_by : Store → Option Execution → List TreeMap
worked_by s None = []
worked_by s (Some x) = trees_with x.own (trees_at s x.places)

-- tree i of those that worker w works on; none if w is idle, or there is no such worker or tree
abbrev pub worked_on : State → ℕ → ℕ → Option TreeMap
worked_on s w i = slice_get (worked_by s.store (runs (slice_get s.workers w))) i

-- the tree of instance i of a key; none if the key or the instance does not exist
abbrev pub cached_by : Store → ℕ → Option Key → Option TreeMap
cached_by s i None = None
cached_by s i (Some key) = content s (place key i)

-- the tree of instance i of the key in row k of these rows; none if there is no such row or instance
abbrev pub cached_at : List Row → Store → ℕ → ℕ → Option TreeMap
cached_at rows s k i = cached_by s i (slice_get (keys_of rows) k)
