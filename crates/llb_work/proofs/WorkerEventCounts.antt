-- The counts of a record's events by worker: each event that a board has is that of one of its workers.
use Rattle.std.proofs.Common.{◌≡◌, ℕ, ◌+◌, ◌<◌, ◌≤◌, ◌==◌, Bool, List, [], ◌∷◌, length, take, drop, set, get_or, get_or-set_same}
use Rattle.std.proofs.Common.{get_or-set_other, Some, inl, inr, sym, subst, ◌∙◌, arith}
use Rattle.std.proofs.lemmas.Bool.{cases_eq, eq-eqb, ne_eqb}
use Rattle.std.proofs.lemmas.List.Elements.{All-nil, All-cons, All-drop, All-weaker, All-get_or}
use Rattle.std.proofs.lemmas.List.Sums.{count_by_more_yes, count_by_more_no, sum_by-set}
use Rattle.std.proofs.lemmas.List.{length-set}
use Rattle.std.proofs.lemmas.Option.{slice_get_within}
use Rattle.std.specs.Prelude.{slice_index, sum}
use Rattle.std.specs.List.{All, count_by}
use Rattle.llb_model.specs.Program.{Build}
use Rattle.llb_model.specs.State.{State, Idle, Runs, opening}
use Rattle.llb_events.specs.declared.event.Event.{Event}
use Rattle.llb_events.specs.declared.event.Event.TheVariants.{Claim, Step, Settle, Cancel}
use Rattle.llb_model.specs.Table.{Reply, worker_of, table}
use Rattle.llb_model.specs.Run.{run}
use Rattle.llb_model.proofs.GrantedEvents.{Answer, claim_is, step_is, settle_is, cancel_is, workers_stay}
use Rattle.llb_model.proofs.RunExtension.{run_first}
use Rattle.llb_board.specs.BoardValue.{BoardValue, Replays}
use Rattle.llb_work.proofs.WorkersAndVertices.{workers_same}

-- ---- the workers of events

-- an event of a worker with a number below n
abbrev IsBelow : ℕ → Event → Type 0
IsBelow n e = worker_of e < n

-- an event that is granted is that of a worker
granted_worker : (b : Build) (s : State) (e : Event) (a : Answer) → table b s e ≡ Some a → IsBelow (length s.workers) e
granted_worker b s (Claim w v) a given = slice_get_within s.workers w Idle (claim_is b s w v a given).idle
granted_worker b s (Step w) a given = let is = step_is b s w a given in slice_get_within s.workers w (Runs is.x) is.there
granted_worker b s (Settle w) a given = let is = settle_is b s w a given in slice_get_within s.workers w (Runs is.x) is.there
granted_worker b s (Cancel w) a given = let is = cancel_is b s w a given in slice_get_within s.workers w (Runs is.x) is.there

run_by_workers : (b : Build) (s t : State) (es : List Event) (rs : List Reply) → run b s es ≡ Some (t, rs) → All (IsBelow (length s.workers)) es
run_by_workers b s t [] rs leads = All-nil (IsBelow (length s.workers))
run_by_workers b s t (e ∷ es) rs leads =
    let first = run_first b s e es t rs leads in
    let rest = run_by_workers b first.a.0 t es first.rest first.goes_on in
    All-cons (IsBelow (length s.workers)) e es (granted_worker b s e first.a first.given)
    (subst (λ n. All (IsBelow n) es) (workers_stay b s e first.a first.given) rest)

-- the events of a board after the first `before` ones are those of workers with numbers below 64
pub by_workers : (b : BoardValue) (before : ℕ) → Replays b → length b.state.workers ≤ 64 → All (λ e. worker_of e < 64) (drop before b.events)
by_workers b before replays few =
    let first : State = opening b.build b.opening in
    let same = workers_same b.build first b.state b.events replays.replies replays.leads in
    let all = run_by_workers b.build first b.state b.events replays.replies replays.leads in
    All-drop (IsBelow 64) before b.events (All-weaker (IsBelow (length first.workers)) (IsBelow 64) (λ e low. omega (arith, low, same, few)) b.events all)

-- ---- each worker's events

abbrev pub of_worker : ℕ → Event → Bool
of_worker w e = worker_of e == w

-- the counts of the first i events, added to what the counts were
pub record Counted (old made : List ℕ) (es : List Event) (i : ℕ) : Type 0 where
  pub places : length made ≡ 64
  pub each : (w : ℕ) → w < 64 → slice_index made w ≡ slice_index old w + count_by (of_worker w) (take i es)
  pub all : sum made ≡ sum old + i

-- one more event adds one to the count of its worker, and nothing to the other counts
pub counted_more : (old made : List ℕ) (es : List Event) (i u : ℕ) (d : Event) → i < length es → All (λ e. worker_of e < 64) es
    → u ≡ worker_of (get_or es i d) → Counted old made es i
    → Counted old (set made u (slice_index made u + 1)) es (i + 1)
counted_more old made es i u d fits workers is so_far = record { places = length-set made u next ∙ so_far.places; each = each; all = all }
  where
    next : ℕ
    next = slice_index made u + 1

    low : u < 64
    low = omega (arith, is, All-get_or (IsBelow 64) es i d fits workers)

    all : sum (set made u next) ≡ sum old + (i + 1)
    all = omega (arith, sum_by-set (λ n. n) made u next 0 (omega (arith, low, so_far.places)), so_far.all)

    each : (w : ℕ) → w < 64 → slice_index (set made u next) w ≡ slice_index old w + count_by (of_worker w) (take (i + 1) es)
    each w lt = elim (cases_eq w u) [
      | inl same ↦
          let here : slice_index (set made u next) u ≡ next = get_or-set_same made u next 0 (omega (arith, so_far.places, low)) in
          let more = count_by_more_yes (of_worker u) es i d fits (eq-eqb _ _ (sym is)) in
          subst (λ v. slice_index (set made u next) v ≡ slice_index old v + count_by (of_worker v) (take (i + 1) es)) (sym same)
          (omega (arith, here, more, so_far.each u low))
      | inr apart ↦
          let there : slice_index (set made u next) w ≡ slice_index made w = get_or-set_other made u w next 0 apart in
          let same = count_by_more_no (of_worker w) es i d fits (ne_eqb _ _ (λ e. apart (sym e ∙ sym is))) in
          omega (arith, there, same, so_far.each w lt)
    ]
