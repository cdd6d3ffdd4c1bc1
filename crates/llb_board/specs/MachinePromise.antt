-- The promise of the whole machine for a board: `Headline` is the promise, and the definitions before it say what its clauses mean.
use Rattle.std.specs.Prelude.{◌≡◌, ◌≢◌, ℕ, Some, option_map, slice_get}
use Rattle.llb_cache.specs.declared.key.Mode.TheVariants.{Locked}
use Rattle.llb_tree.specs.Tree.{TreeMap}
use Rattle.llb_model.specs.Caches.{Instance, content, Has, IsExclusive}
use Rattle.llb_model.specs.WholeRunLaws.{with_content, with_content_after}
use Rattle.llb_model.specs.State.{Execution, Runs, State}
use Rattle.llb_events.specs.declared.event.Event.{Event}
use Rattle.llb_model.specs.Table.{Reply, worker_of, table}
use Rattle.llb_model.specs.ClaimOrder.{at_first, order, claims_in, StandsIn}
use Rattle.llb_board.specs.BoardValue.{BoardValue, Replays, replies_in}
use Rattle.llb_board.specs.Laws.{SettledArePlain}

-- worker w is running and holds instance p
pub record HoldsInstance (b : BoardValue) (w : ℕ) (p : Instance) : Type 0 where
  pub execution : Execution
  pub runs : slice_get b.state.workers w ≡ Some (Runs execution)
  pub has : Has execution.places p

-- two running workers that hold instances of one locked key are the same worker
abbrev pub LockedOnce : BoardValue → Type 0
LockedOnce b = (w u : ℕ) (p q : Instance) → HoldsInstance b w p → HoldsInstance b u q → p.key ≡ q.key → p.key.mode ≡ Locked → w ≡ u

-- no two workers hold the same instance of a locked or a private key
abbrev pub HeldOnce : BoardValue → Type 0
HeldOnce b = (w u : ℕ) (p : Instance) → HoldsInstance b w p → HoldsInstance b u p → IsExclusive p.key.mode → w ≡ u

-- if a running worker holds an instance of a locked or a private key, no event of another worker changes the tree of this instance
abbrev pub OthersLeave : BoardValue → Type 0
OthersLeave b = (w : ℕ) (p : Instance) → HoldsInstance b w p → IsExclusive p.key.mode → (e : Event) (t : State) (r : Reply) → worker_of e ≢ w
    → table b.build b.state e ≡ Some (t, r)
    → content t.store p ≡ content b.state.store p

-- no event of another worker reads the tree of a locked or private instance that w holds: with another tree, the reply and the effect on all else are the same
abbrev pub OthersIgnore : BoardValue → Type 0
OthersIgnore b = (w : ℕ) (p : Instance) → HoldsInstance b w p → IsExclusive p.key.mode → (e : Event) (tree : TreeMap) → worker_of e ≢ w
    → table b.build (with_content p tree b.state) e ≡ option_map (with_content_after p tree) (table b.build b.state e)

-- settled vertices and instances that no worker holds are as if the claimed vertices had run one after another, in claim order, each to its end or its cancel
abbrev pub StandsInClaimOrder : BoardValue → Type 0
StandsInClaimOrder b = StandsIn b.state (order b.build (at_first b.build b.opening.store) (claims_in (replies_in b)))

-- what holds of every board
pub record Headline (b : BoardValue) : Type 0 where
  -- by the table, the record's events lead from the opening state to the board's state, with a reply for each event, in whatever order the workers did them
  pub replays : Replays b
  -- no two running workers hold the same locked cache at once, nor the same instance of a private cache
  pub locked_once : LockedOnce b
  pub held_once : HeldOnce b
  -- if a running worker holds an instance of a locked or a private key, no event of another worker changes or reads the tree of this instance
  pub others_leave : OthersLeave b
  pub others_ignore : OthersIgnore b
  -- every settled vertex with no cache mount at or before it has its plain outcome
  pub plain : SettledArePlain b
