-- What is seen of a worker, and a search over the workers, one after another.
use Rattle.std.proofs.Common.{◌≡◌, ℕ, zero, suc, ◌+◌, ◌≤◌, List, [], ◌∷◌, length, drop, refl, sym, ap, ◌∙◌, drop-cons, add-one, arith}
use Rattle.std.specs.Prelude.{Bool, Option, Some, None, option_map, slice_get, if◌then◌else◌}
use Rattle.std.proofs.lemmas.List.{drop_all}
use Rattle.std.proofs.lemmas.Option.{slice_get_within, get_or_from_slice_get}
use Rattle.llb_model.specs.Program.{Build}
use Rattle.llb_model.specs.State.{WorkerStatus, Idle, Runs, Execution, is_finished, program_in}
use Rattle.llb_events.specs.declared.event.Event.TheVariants.{Step, Settle}
use Rattle.llb_model.specs.Run.{next_of}
use Rattle.llb_board.specs.Statuses.{look_of}
use Rattle.llb_board.specs.declared.status.WorkerStatus as seen
use Rattle.llb_board.specs.declared.status.WorkerStatus.TheVariants as at
use Rattle.llb_model.proofs.ConstructorEqualities.{inside_some}

-- ---- what is seen of a worker

finished_in : Bool → seen.WorkerStatus → Bool
finished_in other (at.Runs v d f) = f
finished_in other at.Idle = other

-- a worker that is seen to run runs something
pub runs_at : (b : Build) (o : Option WorkerStatus) (v d : ℕ) (f : Bool) → option_map (look_of b) o ≡ Some (at.Runs v d f)
    → (x : Execution) × (o ≡ Some (Runs x)) × (is_finished (program_in b x).steps x ≡ f)
unfolding finished_in
runs_at b None v d f is = absurd cc
runs_at b (Some Idle) v d f is = absurd cc
runs_at b (Some (Runs x)) v d f is = (x, refl, ap (finished_in f) (inside_some is))

-- a worker that is seen to be idle is idle
pub idle_at : (b : Build) (o : Option WorkerStatus) → option_map (look_of b) o ≡ Some at.Idle → o ≡ Some Idle
idle_at b None is = absurd cc
idle_at b (Some Idle) is = refl
idle_at b (Some (Runs x)) is = absurd cc

-- a worker that is not seen is not there
pub none_at : (b : Build) (o : Option WorkerStatus) → option_map (look_of b) o ≡ None → o ≡ None
none_at b None is = refl
none_at b (Some a) is = absurd cc

-- ---- the search

-- the workers that are left begin with this one
next_drop : (b : Build) (ws : List WorkerStatus) (w : ℕ) (a : WorkerStatus) → slice_get ws w ≡ Some a → next_of b w (drop w ws)
    ≡ next_of b w (a ∷ drop (w + 1) ws)
next_drop b ws w a at =
    ap (next_of b w) (drop-cons ws w a (slice_get_within ws w a at) ∙ (λ i. get_or_from_slice_get ws w a a at i ∷ drop (sym (add-one w) i) ws))

-- past an idle worker, the next event of all is that of the workers that are left
pub next_idle : (b : Build) (ws : List WorkerStatus) (w : ℕ) → next_of b w (drop w ws) ≡ next_of b 0 ws → slice_get ws w ≡ Some Idle
    → next_of b (w + 1) (drop (w + 1) ws) ≡ next_of b 0 ws
next_idle b ws w here at = sym (next_drop b ws w Idle at) ∙ here

-- the first running worker has the next event: its settle where it is finished, else its step
pub next_runs : (b : Build) (ws : List WorkerStatus) (w : ℕ) (x : Execution) → next_of b w (drop w ws) ≡ next_of b 0 ws → slice_get ws w ≡ Some (Runs x)
    → next_of b 0 ws ≡ Some (if is_finished (program_in b x).steps x then Settle w else Step w)
next_runs b ws w x here at = sym here ∙ next_drop b ws w (Runs x) at

past : (ws : List WorkerStatus) (w : ℕ) → slice_get ws w ≡ None → length ws ≤ w
past [] w at = omega arith
past (a ∷ ws) zero at = absurd cc
past (a ∷ ws) (suc w) at = omega (arith, past ws w at)

-- past the last worker there is none
pub next_none : (b : Build) (ws : List WorkerStatus) (w : ℕ) → next_of b w (drop w ws) ≡ next_of b 0 ws → slice_get ws w ≡ None → None ≡ next_of b 0 ws
next_none b ws w here at = sym (ap (next_of b w) (drop_all w ws (past ws w at))) ∙ here
