-- Whole runs: the table applied to a list of events, one after another; the chosen event, which a run on one thread does next; and when a run is complete.
use Rattle.std.specs.Prelude.{◌≡◌, ℕ, zero, suc, ◌+◌, ◌<◌, ◌==◌, Bool, true, false, ◌||◌, ◌&&◌, List, [], ◌∷◌, length, count_by, Option}
use Rattle.std.specs.Prelude.{Some, None, option_map, slice_get, if◌then◌else◌}
use Rattle.llb_model.specs.Program.{Build}
use Rattle.llb_model.specs.Outcome.{Outcome, Ended, Blocked}
use Rattle.llb_model.specs.State.{Status, Waiting, Running, Settled, WorkerStatus, Idle, Runs, State, is_ready, is_blocked, is_finished, program_in}
use Rattle.llb_events.specs.declared.event.Event.{Event}
use Rattle.llb_events.specs.declared.event.Event.TheVariants.{Claim, Step, Settle, Cancel}
use Rattle.llb_model.specs.Table.{Reply, worker_of, table}

-- the state after a run and all its replies, given the first event's result and a function `go` that runs the other events; `None` if an event is refused
abbrev pub after : Option (State × Reply) → (State → Option (State × List Reply)) → Option (State × List Reply)
after None go = None
after (Some (s, r)) go = option_map (λ (t : State × List Reply). (t.0, r ∷ t.1)) (go s)

-- the state after a list of events, and their replies, if each of them is granted
unfoldable pub run : Build → State → List Event → Option (State × List Reply)
run b s [] = Some (s, [])
run b s (e ∷ es) = after (table b s e) (λ t. run b t es)

-- how many of the events are events of worker w
abbrev pub events_by : ℕ → List Event → ℕ
events_by w es = count_by (λ e. worker_of e == w) es

-- the next event of the running worker with the lowest number: a settle if its execution is finished, else a step; the workers of the list are numbered from w
abbrev pub next_of : Build → ℕ → List WorkerStatus → Option Event
next_of b w [] = None
next_of b w (Idle ∷ workers) = next_of b (w + 1) workers
next_of b w (Runs x ∷ workers) = Some (if is_finished (program_in b x).steps x then Settle w else Step w)

-- the least of the n numbers v, v + 1 and so on that passes a test; none if no number does
abbrev pub least : (ℕ → Bool) → ℕ → ℕ → Option ℕ
least test v zero = None
least test v (suc n) = if test v then Some v else least test (v + 1) n

-- worker 0's claim of the Ready vertex with the least number, if any vertex is Ready
abbrev pub next_claim : Build → State → Option Event
next_claim b s = option_map (λ v. Claim 0 v) (least (is_ready b s.statuses) 0 (length b.graph.vertices))

-- the first event if there is one, else `other`
abbrev pub or_else : Option Event → Option Event → Option Event
or_else (Some e) other = Some e
or_else None other = other

-- the chosen event: the next event of the running worker with the lowest number or, if none runs, worker 0's claim of the Ready vertex with the lowest number
abbrev pub chosen : Build → State → Option Event
chosen b s = or_else (next_of b 0 s.workers) (next_claim b s)

-- whether a status is Settled; false if there is no status
abbrev pub is_settled : Option Status → Bool
is_settled (Some (Settled e)) = true
is_settled (Some (Running w)) = false
is_settled (Some Waiting) = false
is_settled None = false

-- whether each of the n numbers v, v + 1 and so on passes a test
abbrev pub each : (ℕ → Bool) → ℕ → ℕ → Bool
each test v zero = true
each test v (suc n) = test v && each test (v + 1) n

-- whether a run is complete: every vertex is done, failed or blocked
abbrev pub is_complete : Build → State → Bool
is_complete b s = each (λ v. is_settled (slice_get s.statuses v) || is_blocked b s.statuses v) 0 (length b.graph.vertices)

-- the vertices of the claims among these events, in order
abbrev pub claims_of : List Event → List ℕ
claims_of [] = []
claims_of (Claim w v ∷ es) = v ∷ claims_of es
claims_of (Step w ∷ es) = claims_of es
claims_of (Settle w ∷ es) = claims_of es
claims_of (Cancel w ∷ es) = claims_of es

-- each number of the list is above n
abbrev pub AllAbove : ℕ → List ℕ → Type 0
AllAbove n [] = Unit {0}
AllAbove n (m ∷ ms) = (n < m) × AllAbove n ms

-- each number of the list is above all numbers before it
abbrev pub AreAscending : List ℕ → Type 0
AreAscending [] = Unit {0}
AreAscending (n ∷ ns) = AllAbove n ns × AreAscending ns

-- the status of a vertex in a complete run: the vertex has ended with its plain outcome, or it waits and its plain outcome is Blocked
abbrev pub StandsPlainly : Option Status → Option Outcome → Type 0
StandsPlainly (Some (Settled e)) o = o ≡ Some (Ended e)
StandsPlainly (Some Waiting) o = o ≡ Some Blocked
StandsPlainly (Some (Running w)) o = ⊥
StandsPlainly None o = ⊥
