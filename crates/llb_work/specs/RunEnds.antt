-- What a run returns.
use Rattle.std.specs.Prelude.{◌≡◌, ℕ, ◌<◌, ◌&&◌, ◌⊎◌, nat_lt, List, length, Bool, true, false, Option, Some, None, IsTrue}
use Rattle.llb_board.specs.BoardValue.{BoardValue}
use Rattle.llb_work.specs.LockSharingWorkers.{GoesOn, CancelsNothing, Counts, IsAfter, AreIdle}
use Rattle.llb_work.specs.declared.thread_scope.CrewEnd.{CrewEnd}
use Rattle.llb_work.specs.declared.run_end.RunFault.{RunFault}
use Rattle.llb_work.specs.declared.run_end.RunFault.TheVariants.{Memory, Stopped, Thread, Foreign}
use Rattle.llb_work.specs.declared.early_end.Noted.{Noted}
use Rattle.llb_work.specs.declared.early_end.Noted.TheVariants as noted

-- whether the fault is 154 `Foreign`: the copy of the opening board under the lock differs from the board passed to the run
abbrev pub is_foreign : Option RunFault → Bool
is_foreign None = false
is_foreign (Some Memory) = false
is_foreign (Some Stopped) = false
is_foreign (Some Thread) = false
is_foreign (Some (Foreign b)) = true

-- granted events lead from the given board to the returned board, and the workers' counts add up to the number of these events
abbrev pub Leads : BoardValue → List ℕ → BoardValue → Type 0
Leads given made found = GoesOn given found × Counts made given found

-- no worker runs anything on the returned board; or memory was refused before a thread was started, and the returned board is the given one
abbrev pub EndsIdle : BoardValue → Option RunFault → BoardValue → Type 0
EndsIdle given fault found = AreIdle found.state ⊎ ((fault ≡ Some Memory) × (found ≡ given))

-- the gate may stop some worker of the board at some vertex of its graph
abbrev pub StopsSomewhere : (ℕ → ℕ → Bool) → BoardValue → Type 0
StopsSomewhere may_stop b = (w : ℕ) × (v : ℕ) × (w < length b.state.workers) × (v < length b.build.graph.vertices) × IsTrue (may_stop w v)

-- whether worker w and vertex v exist on the board
abbrev pub is_of : BoardValue → ℕ → ℕ → Bool
is_of b w v = nat_lt w (length b.state.workers) && nat_lt v (length b.build.graph.vertices)

-- whether a run can end with this note: a stop of worker w at vertex v only if the board has both and the gate may stop w at v; any other note, or none, always
abbrev pub may_be : (ℕ → ℕ → Bool) → BoardValue → Option Noted → Bool
may_be may_stop b None = true
may_be may_stop b (Some noted.Memory) = true
may_be may_stop b (Some noted.Thread) = true
may_be may_stop b (Some (noted.Stopped w v)) = may_stop w v && is_of b w v

-- if the fault is 152 `Stopped`, and `may_be` holds for what was noted, then the gate may stop some worker of the given board at some vertex
abbrev pub StopsAsNoted : Option Noted → Option RunFault → Type 0
StopsAsNoted noted fault = (may_stop : ℕ → ℕ → Bool) (given : BoardValue) → may_be may_stop given noted ≡ true → fault ≡ Some Stopped
    → StopsSomewhere may_stop given

-- for each w and v: if the gate may stop worker w at vertex v (`by_gate`), then such a stop may be noted as the reason for which the run ends (`by_note`)
abbrev pub AllowsStops : (ℕ → ℕ → Bool) → (ℕ → ℕ → Bool) → Type 0
AllowsStops by_gate by_note = (w v : ℕ) → IsTrue (by_gate w v) → by_note w v ≡ true

-- What the threads leave: `start`, the copy of the given board that was kept under the lock; the given board after further granted events, with counts of these
-- events; and the fault that was noted first, if any. If nothing is noted, no cancel was appended.
pub record AreLeft (may_stop : ℕ → ℕ → Bool) (given : BoardValue) (left : CrewEnd) : Type 0 where
  pub start : left.start ≡ given
  pub after : IsAfter given left.board
  pub made : Counts left.made given left.board
  pub stops : may_be may_stop given left.noted ≡ true
  pub uncancelled : left.noted ≡ None → CancelsNothing given left.board
