-- What a driver (code that does the events of all workers on one thread) does to a board, and in which state it leaves a board that it runs to the end.
use Rattle.std.specs.Prelude.{◌≡◌, ℕ, ◌<◌, true, List, [], ◌∷◌, ◌++◌, length, drop, slice_index, Option, Some, None, ⊤}
use Rattle.llb_model.specs.Program.{Build}
use Rattle.llb_model.specs.State.{State, Opening, opening}
use Rattle.llb_events.specs.declared.event.Event.{Event}
use Rattle.llb_events.specs.declared.event.Event.TheVariants.{Claim, Step, Settle, Cancel}
use Rattle.llb_model.specs.Table.{Reply, table}
use Rattle.llb_model.specs.Run.{run, events_by, is_complete}
use Rattle.llb_model.specs.ClaimOrder.{at_first, order, claims_in}
use Rattle.llb_model.specs.WholeRunLaws.{AreChosen}
use Rattle.llb_board.specs.BoardValue.{BoardValue}

-- `new` is the board `old` after event e: the table grants e, and e is appended to the record
pub record Takes (old : BoardValue) (e : Event) (new : BoardValue) : Type 0 where
  pub build : new.build ≡ old.build
  pub opening : new.opening ≡ old.opening
  pub first : new.first ≡ old.first
  pub reply : Reply
  pub given : table old.build old.state e ≡ Some (new.state, reply)
  pub events : new.events ≡ old.events ++ e ∷ []

-- `new` is the board `old` after events that are granted one after another and recorded; each is the event that `chosen` of llb_model returns before it
pub record Goes (old new : BoardValue) : Type 0 where
  pub build : new.build ≡ old.build
  pub opening : new.opening ≡ old.opening
  pub first : new.first ≡ old.first
  pub more : List Event
  pub replies : List Reply
  pub leads : run old.build old.state more ≡ Some (new.state, replies)
  pub chosen : AreChosen old.build old.state more
  pub events : new.events ≡ old.events ++ more

-- The events, each of which `chosen` of llb_model returns for the state before it, lead from an opening to a complete state. In that state each vertex and each
-- instance of a cache is as if the vertices had been run one after another in the order of their claims, each with all its micro-steps.
pub record EndsInClaimOrder (b : Build) (o : Opening) (es : List Event) (s : State) : Type 0 where
  pub replies : List Reply
  pub leads : run b (opening b o) es ≡ Some (s, replies)
  pub chosen : AreChosen b (opening b o) es
  pub complete : is_complete b s ≡ true
  pub statuses : s.statuses ≡ (order b (at_first b o.store) (claims_in replies)).statuses
  pub store : s.store ≡ (order b (at_first b o.store) (claims_in replies)).store

-- `made` has, for each worker number below 64, how many events of that worker the record of `new` has after the events of `old`
abbrev pub MadeBy : BoardValue → BoardValue → List ℕ → Type 0
MadeBy old new made = (w : ℕ) → w < 64 → slice_index made w ≡ events_by w (drop (length old.events) new.events)

-- the event is a claim or a step, which may be refused for want of memory; a settle and a cancel need no memory
abbrev pub TakesMemory : Option Event → Type 0
TakesMemory (Some (Claim w v)) = ⊤
TakesMemory (Some (Step w)) = ⊤
TakesMemory (Some (Settle w)) = ⊥
TakesMemory (Some (Cancel w)) = ⊥
TakesMemory None = ⊥

-- what is known of a refused event: a settle or a cancel is refused by the table; of a claim or a step nothing is known, since memory may be the cause
abbrev pub IsLeft : BoardValue → Event → Type 0
IsLeft b (Claim w v) = ⊤
IsLeft b (Step w) = ⊤
IsLeft b (Settle w) = table b.build b.state (Settle w) ≡ None
IsLeft b (Cancel w) = table b.build b.state (Cancel w) ≡ None
