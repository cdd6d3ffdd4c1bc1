-- A landing consists of all steps that a worker still has to do on its vertex, and then its settle. This file also has the state after a landing.
use Rattle.std.specs.Prelude.{◌≡◌, ℕ, zero, suc, ◌+◌, ◌||◌, Bool, true, false, List, [], ◌∷◌, ◌++◌, length, Some, is_some, nat_le}
use Rattle.std.specs.Prelude.{slice_get, slice_set, replicate}
use Rattle.llb_tree.specs.Tree.{TreeMap}
use Rattle.llb_model.specs.Caches.{Hold, Distinct, put_all}
use Rattle.llb_model.specs.Program.{Build, MicroStep, Left, go_on}
use Rattle.llb_model.specs.Outcome.{ending}
use Rattle.llb_model.specs.State.{Settled, Execution, Idle, Runs, State, program_in}
use Rattle.llb_events.specs.declared.event.Event.{Event}
use Rattle.llb_events.specs.declared.event.Event.TheVariants.{Step, Settle}
use Rattle.llb_model.specs.Table.{Reply, settle_reply}
use Rattle.llb_model.specs.Run.{run}

-- ---- the events of a landing

-- n steps of worker w
abbrev pub steps_by : ℕ → ℕ → List Event
steps_by w n = replicate n (Step w)

-- n steps of worker w, and then its settle
abbrev pub landing : ℕ → ℕ → List Event
landing w n = steps_by w n ++ Settle w ∷ []

-- ---- which micro-steps remain

-- the result of n further micro-steps, from number k up, after the result `left`
abbrev pub further : List MicroStep → ℕ → Left → ℕ → Left
further steps k left zero = left
further steps k left (suc n) = further steps (k + 1) (go_on steps k left) n

-- whether no further micro-step can be done: there was a fault, or no micro-step has number k
abbrev pub is_over : List MicroStep → ℕ → Left → Bool
is_over steps k left = is_some left.fault || nat_le (length steps) k

-- n further micro-steps can be done, from number k up
abbrev pub AreThere : List MicroStep → ℕ → Left → ℕ → Type 0
AreThere steps k left zero = Unit {0}
AreThere steps k left (suc n) = (is_over steps k left ≡ false) × AreThere steps (k + 1) (go_on steps k left) n

-- exactly n further micro-steps can be done, from number k up
pub record AreLeft (steps : List MicroStep) (k : ℕ) (left : Left) (n : ℕ) : Type 0 where
  pub there : AreThere steps k left n
  pub over : is_over steps (k + n) (further steps k left n) ≡ true

-- the result so far of a worker's micro-steps, if the instances that the worker holds have these trees
abbrev pub left_so_far : Execution → List TreeMap → Left
left_so_far x trees = record { work = record { own = x.own; trees = trees }; fault = x.fault }

-- ---- the state after these events

-- a worker's execution after n further micro-steps, whose result is `left`
abbrev pub with_steps : Execution → ℕ → Left → Execution
with_steps x n left = record x { done = x.done + n; fault = left.fault; own = left.work.own }

-- the state after n steps of worker w, which runs x; `left` is the result of the steps
abbrev pub after_steps : State → ℕ → Execution → ℕ → Left → State
after_steps s w x n left = record s { workers = slice_set s.workers w (Runs (with_steps x n left)); store = put_all s.store x.places left.work.trees }

-- the state after worker w has settled its vertex, whose micro-steps had this result
abbrev pub landed : Build → State → ℕ → Execution → Left → State
landed b s w x left = record {
  statuses = slice_set s.statuses x.vertex (Settled (ending (program_in b x) left));
  workers = slice_set s.workers w Idle;
  store = put_all s.store x.places left.work.trees;
}

-- if a worker can do n further micro-steps, n steps of the worker are granted, and their effect is that of these micro-steps on the worker's result so far
abbrev pub StepsAsBlock : Build → Type 0
StepsAsBlock b = (s : State) (w : ℕ) (x : Execution) (trees : List TreeMap) (n : ℕ) → slice_get s.workers w ≡ Some (Runs x)
    → Distinct x.places → Hold s.store x.places trees
    → AreThere (program_in b x).steps x.done (left_so_far x trees) n
    → (rs : List Reply) × (run b s (steps_by w n) ≡ Some (after_steps s w x n (further (program_in b x).steps x.done (left_so_far x trees) n), rs))

-- the events of a landing have the same effect as doing the micro-steps on a copy of the worker's workspace and trees, and settling with their result
abbrev pub LandsAsBlock : Build → Type 0
LandsAsBlock b = (s : State) (w : ℕ) (x : Execution) (trees : List TreeMap) (n : ℕ) → slice_get s.workers w ≡ Some (Runs x)
    → Distinct x.places → Hold s.store x.places trees
    → AreLeft (program_in b x).steps x.done (left_so_far x trees) n
    → (rs : List Reply) × (run b s (landing w n)
    ≡ Some (
      landed b s w x (further (program_in b x).steps x.done (left_so_far x trees) n),
      rs ++ settle_reply x.vertex (ending (program_in b x) (further (program_in b x).steps x.done (left_so_far x trees) n)) ∷ [],
    ))
