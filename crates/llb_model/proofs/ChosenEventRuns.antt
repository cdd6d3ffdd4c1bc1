-- A run by chosen events: each is granted, and its claims ascend.
use Rattle.std.proofs.Common.{◌≡◌, ◌≢◌, ℕ, zero, suc, ◌+◌, ◌<◌, ◌≤◌, Bool, true, false, ◌||◌, ◌&&◌, cond, List, [], ◌∷◌, ◌++◌, length, Option}
use Rattle.std.proofs.Common.{Some, None, is_some, option_map, ◌⊎◌, inl, inr, refl, sym, ap, subst, ◌∙◌, arith}
use Rattle.std.specs.Prelude.{slice_get, slice_set}
use Rattle.std.proofs.lemmas.Bool.{cases_order}
use Rattle.std.proofs.Math.Bool.{or-true}
use Rattle.std.proofs.lemmas.List.{append-nil}
use Rattle.llb_cache.specs.declared.key.Key.{Key}
use Rattle.llb_cache.specs.declared.key.Mode.{Mode}
use Rattle.llb_cache.specs.declared.key.Mode.TheVariants.{Shared, Private, Locked}
use Rattle.llb_loader.specs.Graph.{LeadsBelow, IsGraph}
use Rattle.llb_loader.specs.declared.graph.Edge.{Edge}
use Rattle.llb_model.specs.Caches.{Store}
use Rattle.llb_model.specs.Program.{Build, Need, Start, needs_of, step_on}
use Rattle.llb_model.specs.State.{Status, Waiting, Running, Settled, Execution, WorkerStatus, Idle, Runs, State, ending_of, ending_at, ready}
use Rattle.llb_model.specs.State.{is_ready, is_waiting, is_failed, program_in, work_of, is_finished, ending_from, held, is_locked_and_held, held_key}
use Rattle.llb_model.specs.State.{is_stopped}
use Rattle.llb_events.specs.declared.event.Event.{Event}
use Rattle.llb_events.specs.declared.event.Event.TheVariants.{Claim, Step, Settle, Cancel}
use Rattle.llb_model.specs.Table.{Reply, claim_at, step_by, settle_with, after_end, table}
use Rattle.llb_model.specs.Run.{next_of, least, next_claim, or_else, chosen, is_settled, claims_of, AllAbove, AreAscending}
use Rattle.llb_model.specs.EventBounds.{still_to_come}
use Rattle.llb_model.specs.ConsistentStates.{IsConsistent}
use Rattle.llb_model.proofs.Lists.{inside, eq_or, get_set_same, get_set_other, get_within, Each_of, any_true, true_any, some_as}
use Rattle.llb_model.proofs.ProgramPrefixes.{unfinished_some}
use Rattle.llb_model.proofs.GrantedEvents.{Answer, claim_places, claim_is, step_is, settle_is, cancel_is, ready_is, ready_as, claim_granted, step_granted}
use Rattle.llb_model.proofs.GrantedEvents.{settle_granted}
use Rattle.llb_model.proofs.Outcomes.{each_below}
use Rattle.llb_model.proofs.RemainingEvents.{event_room}
use Rattle.llb_model.proofs.StoppedVertices.{stopped_is, stopped_there, any_stopped, stopped_cases, ready_not_stopped}
use Rattle.llb_model.proofs.ReadyVertices.{ready_waits}
use Rattle.llb_model.proofs.RunCompletion.{is_over, nothing_runs, over_by, least_some, IsLeast, progress, over_not_ready}

-- ---- the chosen event

-- the next event of a running worker
pub record IsNextOf (b : Build) (s : State) (e : Event) : Type 0 where
  pub worker : ℕ
  pub execution : Execution
  pub there : slice_get s.workers worker ≡ Some (Runs execution)
  pub is : e ≡ cond (is_finished (program_in b execution).steps execution) (Settle worker) (Step worker)

-- the claim of the least Ready vertex, where nothing runs
pub record IsChosenClaim (b : Build) (s : State) (v : ℕ) : Type 0 where
  pub idle : (u : ℕ) (x : Execution) → slice_get s.workers u ≢ Some (Runs x)
  pub least : IsLeast (is_ready b s.statuses) 0 (length b.graph.vertices) v

next_is : (b : Build) (ws : List WorkerStatus) (w : ℕ) (e : Event) → next_of b w ws ≡ Some e
    → (u : ℕ) × (x : Execution) × (slice_get ws u ≡ Some (Runs x)) × (e ≡ cond (is_finished (program_in b x).steps x) (Settle (w + u)) (Step (w + u)))
next_is b [] w e is = absurd cc
next_is b (Idle ∷ ws) w e is =
    let n = next_is b ws (w + 1) e is in
    (suc n.0, n.1, n.2, n.3 ∙ ap (λ k. cond (is_finished (program_in b n.1).steps n.1) (Settle k) (Step k)) (omega arith))
next_is b (Runs x ∷ ws) w e is = (
  0,
  x,
  refl,
  (let h : cond (is_finished (program_in b x).steps x) (Settle w) (Step w) ≡ e = cc in sym h)
      ∙ ap (λ k. cond (is_finished (program_in b x).steps x) (Settle k) (Step k)) (omega arith),
)

chosen_claim : (o : Option ℕ) (e : Event) → option_map {U = Event} (λ v. Claim 0 v) o ≡ Some e → (v : ℕ) × (o ≡ Some v) × (e ≡ Claim 0 v)
chosen_claim None e is = absurd cc
chosen_claim (Some v) e is = (v, refl, sym (inside is))

-- a chosen event is the next one of a running worker, or worker 0 claims the least Ready vertex while none runs
pub chosen_is : (b : Build) (s : State) (e : Event) → chosen b s ≡ Some e → IsNextOf b s e ⊎ ((v : ℕ) × (e ≡ Claim 0 v) × IsChosenClaim b s v)
chosen_is b s e is = by_next (next_of b 0 s.workers) refl is
  where
    by_next : (o : Option Event) → next_of b 0 s.workers ≡ o → or_else o (next_claim b s) ≡ Some e
        → IsNextOf b s e ⊎ ((v : ℕ) × (e ≡ Claim 0 v) × IsChosenClaim b s v)
    by_next (Some f) next is =
        let n = next_is b s.workers 0 e (next ∙ is) in
        inl (record {
          worker = n.0;
          execution = n.1;
          there = n.2;
          is = n.3
              ∙ ap (λ k. cond (is_finished (program_in b n.1).steps n.1) (Settle k) (Step k)) (omega arith);
        })
    by_next None next is =
        let c = chosen_claim (least (is_ready b s.statuses) 0 (length b.graph.vertices)) e is in
        inr (c.0, c.2, record { idle = nothing_runs b s.workers 0 next; least = least_some (is_ready b s.statuses) 0 (length b.graph.vertices) c.0 c.1 })

-- a cancel is never chosen
pub chosen_goes_on : (b : Build) (s : State) (e : Event) → chosen b s ≡ Some e → (w : ℕ) → e ≢ Cancel w
chosen_goes_on b s e is w same = elim (chosen_is b s e is) [
  | inl n ↦ by_test (is_finished (program_in b n.execution).steps n.execution) n.worker (sym same ∙ n.is)
  | inr c ↦ let h : Cancel w ≡ Claim 0 c.0 = sym same ∙ c.1 in cc
]
  where
    by_test : (fin : Bool) (u : ℕ) → Cancel w ≡ cond fin (Settle u) (Step u) → ⊥
    by_test true u e = cc
    by_test false u e = cc

-- so with each event that a driver does fewer events are still to come
pub chosen_comes_nearer : (b : Build) (s : State) (e : Event) (a : Answer) → chosen b s ≡ Some e → table b s e ≡ Some a
    → still_to_come b a.0 + 1 ≤ still_to_come b s
chosen_comes_nearer b s e a is given = event_room b s e a (chosen_goes_on b s e is) given

-- ---- what is chosen is granted

pub record IsGranted (b : Build) (s : State) (e : Event) : Type 0 where
  pub later : State
  pub reply : Reply
  pub given : table b s e ≡ Some (later, reply)

granted_with : (b : Build) (s : State) (e : Event) (a : Answer) → table b s e ≡ Some a → IsGranted b s e
granted_with b s e a given = record { later = a.0; reply = a.1; given = given }

next_granted : (b : Build) (s : State) (e : Event) → IsNextOf b s e → IsGranted b s e
next_granted b s e n = subst (IsGranted b s) (sym n.is) (by_test (is_finished (program_in b n.execution).steps n.execution) refl)
  where
    by_test : (t : Bool) → is_finished (program_in b n.execution).steps n.execution ≡ t → IsGranted b s (cond t (Settle n.worker) (Step n.worker))
    by_test true fin =
        granted_with b s (Settle n.worker) (settle_with s n.worker n.execution.vertex (ending_from (program_in b n.execution) n.execution))
        (settle_granted b s n.worker n.execution n.there fin)
    by_test false fin =
        let m = unfinished_some (program_in b n.execution).steps n.execution fin in
        granted_with b s (Step n.worker) (step_by s n.worker n.execution m.0 (step_on n.execution.done (Some m.0) (work_of s n.execution)))
        (step_granted b s n.worker n.execution m.0 n.there m.1)

-- where nothing runs, nothing is held
none_held : (ws : List WorkerStatus) → ((u : ℕ) (x : Execution) → slice_get ws u ≢ Some (Runs x)) → held ws ≡ []
none_held [] none = refl
none_held (Idle ∷ ws) none = none_held ws (λ u x. none (suc u) x)
none_held (Runs x ∷ ws) none = absurd (none 0 x refl)

none_locked_and_held : (needs : List Need) → held_key [] needs ≡ None
none_locked_and_held [] = refl
none_locked_and_held (n ∷ needs) = ap (λ t. cond t (Some n.key) (held_key [] needs)) (open_key n.key n.key.mode) ∙ none_locked_and_held needs
  where
    open_key : (k : Key) (m : Mode) → is_locked_and_held [] k m ≡ false
    open_key k Shared = refl
    open_key k Private = refl
    open_key k Locked = refl

first_claim : (b : Build) (s : State) (v : ℕ) (a : WorkerStatus) → slice_get s.workers 0 ≡ Some a → IsChosenClaim b s v → IsGranted b s (Claim 0 v)
first_claim b s v (Runs x) there c = absurd (c.idle 0 x there)
first_claim b s v Idle there c = by_start (ready b s.statuses v) refl c.least.passes
  where
    by_start : (o : Option Start) → ready b s.statuses v ≡ o → is_some o ≡ true → IsGranted b s (Claim 0 v)
    by_start None is some = absurd cc
    by_start (Some start) is some =
        granted_with b s (Claim 0 v) (claim_at b s 0 v start (claim_places s start))
        (claim_granted b s 0 v start there (ready_is b s.statuses v start is)
        (ap (λ ps. held_key ps (needs_of start.vertex)) (none_held s.workers c.idle) ∙ none_locked_and_held (needs_of start.vertex)))

-- the event that is chosen is granted, where there is a worker
pub chosen_granted : (b : Build) (s : State) (e : Event) (a : WorkerStatus) → slice_get s.workers 0 ≡ Some a → chosen b s ≡ Some e → IsGranted b s e
chosen_granted b s e a there is = elim (chosen_is b s e is) [
  | inl n ↦ next_granted b s e n
  | inr c ↦ subst (IsGranted b s) (sym c.1) (first_claim b s c.0 a there c.2)
]

-- ---- claims that ascend

-- a claimed vertex waits no more, and all below it are over
pub record IsPast (b : Build) (s : State) (u : ℕ) : Type 0 where
  pub claimed_once : is_waiting (slice_get s.statuses u) ≡ false
  pub below : (k : ℕ) → k < u → is_over b s k ≡ true

pub record Ascends (b : Build) (s : State) (es : List Event) : Type 0 where
  pub ascending : AreAscending (claims_of es)
  pub past : Each_of (IsPast b s) (claims_of es)

-- ---- what stays

module _ (b : Build) (graph : IsGraph b.graph) where
  -- more failures stop more
  StopsMore : List Status → List Status → ℕ → Type 0
  StopsMore before later n = (k : ℕ) → k < n → is_stopped b before k ≡ true → is_stopped b later k ≡ true

  stops_more : (before later : List Status) → ((j : ℕ) → is_failed (ending_at before j) ≡ true → is_failed (ending_at later j) ≡ true)
      → (n : ℕ) → StopsMore before later n
  unfolding StopsMore
  stops_more before later more zero k lt stop = absurd (omega arith)
  stops_more before later more (suc n) k lt stop =
      let v = get_within b.graph.vertices k (stopped_there b before k stop) in
      stopped_is b graph later k v.0 v.1 ∙ elim (stopped_cases b graph before k v.0 v.1 stop) [
        | inl h ↦ ap (λ t. t || any_stopped b later v.0.inputs) (more k h)
        | inr h ↦
            let stops = some_as (λ (e : Edge). is_stopped b before e.vertex ≡ true) (LeadsBelow b.graph.vertices k)
            (λ (e : Edge). is_stopped b later e.vertex ≡ true) v.0.inputs
            (any_true (λ (e : Edge). is_stopped b before e.vertex) v.0.inputs h) (each_below b.graph graph k v.0 v.1)
            (λ e stop leads. stops_more before later more n e.vertex (let low = leads.lower in omega (arith, low)) stop) in
            ap (λ t. is_failed (ending_at later k) || t) (true_any (λ (e : Edge). is_stopped b later e.vertex) v.0.inputs stops)
            ∙ or-true (is_failed (ending_at later k))
      ]

  -- a vertex keeps its status, or is not one that waits and stays stopped
  record Keeps (s t : State) : Type 0 where
    failures : (j : ℕ) → is_failed (ending_at s.statuses j) ≡ true → is_failed (ending_at t.statuses j) ≡ true
    over : (k : ℕ) → is_over b s k ≡ true → slice_get t.statuses k ≡ slice_get s.statuses k

  over_stays : (s t : State) → Keeps s t → (k : ℕ) → is_over b s k ≡ true → is_over b t k ≡ true
  unfolding StopsMore
  over_stays s t keeps k over = by_status (slice_get s.statuses k) refl over
    where
      same : slice_get t.statuses k ≡ slice_get s.statuses k
      same = keeps.over k over

      by_status : (o : Option Status) → slice_get s.statuses k ≡ o → (is_settled o || (is_waiting o && is_stopped b s.statuses k)) ≡ true → is_over b t k ≡ true
      by_status None is e = absurd cc
      by_status (Some (Running w)) is e = absurd cc
      by_status (Some (Settled x)) is e = ap (λ o. is_settled o || (is_waiting o && is_stopped b t.statuses k)) (same ∙ is)
      by_status (Some Waiting) is e =
          ap (λ o. is_settled o || (is_waiting o && is_stopped b t.statuses k)) (same ∙ is)
          ∙ stops_more s.statuses t.statuses keeps.failures (suc k) k (omega arith) e

  -- a status that is written where nothing was over
  written : (s : State) (v : ℕ) (old new : Status) → slice_get s.statuses v ≡ Some old → is_failed (ending_of (Some old)) ≡ false → is_over b s v ≡ false
      → (ws : List WorkerStatus) (store : Store) → Keeps s (record { statuses = slice_set s.statuses v new; workers = ws; store = store })
  written s v old new there unfailed open_ ws store = record {
    failures = λ j failed. elim (eq_or j v) [
      | inl h ↦ absurd (cc (sym (ap (λ o. is_failed (ending_of o)) (ap (slice_get s.statuses) h ∙ there)) ∙ failed, unfailed))
      | inr h ↦ ap (λ o. is_failed (ending_of o)) (get_set_other s.statuses v new j h) ∙ failed
    ];
    over = λ k over. get_set_other s.statuses v new k (λ same. cc (sym (ap (is_over b s) same) ∙ over, open_));
  }

  -- where a worker ends what it runs
  ended : (s : State) (w : ℕ) (x : Execution) (new : Status) → IsConsistent b s → slice_get s.workers w ≡ Some (Runs x) → Keeps s (after_end s w x.vertex new)
  ended s w x new here there =
      let own = here.working w x there in
      written s x.vertex (Running w) new own refl (over_by b graph s here x.vertex (Some (Running w)) own) (after_end s w x.vertex new).workers s.store

  kept : (s : State) (e : Event) (a : Answer) → IsConsistent b s → table b s e ≡ Some a → Keeps s a.0
  kept s (Claim w v) a here given =
      let c = claim_is b s w v a given in
      let clear = ready_not_stopped b graph s here v (ap is_some (ready_as b s.statuses v c.start c.begins)) in
      let unover = over_by b graph s here v (Some Waiting) c.begins.waits ∙ clear in
      let t = (claim_at b s w v c.start (claim_places s c.start)).0 in
      subst (λ (t : Answer). Keeps s t.0) (sym c.gives) (written s v Waiting (Running w) c.begins.waits refl unover t.workers t.store)
  kept s (Step w) a here given =
      let c = step_is b s w a given in
      subst (λ (t : Answer). Keeps s t.0) (sym c.gives) (record { failures = λ j failed. failed; over = λ k over. refl })
  kept s (Settle w) a here given =
      let c = settle_is b s w a given in
      subst (λ (t : Answer). Keeps s t.0) (sym c.gives) (ended s w c.x (Settled (ending_from (program_in b c.x) c.x)) here c.there)
  kept s (Cancel w) a here given =
      let c = cancel_is b s w a given in
      subst (λ (t : Answer). Keeps s t.0) (sym c.gives) (ended s w c.x Waiting here c.there)

  -- what is over stays so after an event
  pub over_after : (s t : State) (e : Event) (r : Reply) → IsConsistent b s → table b s e ≡ Some (t, r) → (k : ℕ) → is_over b s k ≡ true → is_over b t k ≡ true
  over_after s t e r here given k over = over_stays s t (kept s e (t, r) here given) k over

  -- ---- claims ascend

  pub nothing_claimed : (s : State) → Ascends b s []
  nothing_claimed s = record { ascending = tt; past = tt }

  -- what does not wait does not wait later
  WaitsNoMore : State → State → Type 0
  WaitsNoMore s t = (k : ℕ) → is_waiting (slice_get s.statuses k) ≡ false → is_waiting (slice_get t.statuses k) ≡ false

  -- a status that is written and does not wait
  moved : (s : State) (v : ℕ) (old new : Status) → slice_get s.statuses v ≡ Some old → is_waiting (Some new) ≡ false
      → (k : ℕ) → is_waiting (slice_get s.statuses k) ≡ false → is_waiting (slice_get (slice_set s.statuses v new) k) ≡ false
  moved s v old new there working k stays = elim (eq_or k v) [
    | inl h ↦ ap is_waiting (ap (slice_get (slice_set s.statuses v new)) h ∙ get_set_same s.statuses v new old there) ∙ working
    | inr h ↦ ap is_waiting (get_set_other s.statuses v new k h) ∙ stays
  ]

  -- only a cancel lets a vertex wait again
  claimed_stay : (s : State) (e : Event) (a : Answer) → IsConsistent b s → ((w : ℕ) → e ≢ Cancel w) → table b s e ≡ Some a → WaitsNoMore s a.0
  unfolding WaitsNoMore
  claimed_stay s (Claim w v) a here goes_on given =
      let c = claim_is b s w v a given in
      subst (λ (t : Answer). WaitsNoMore s t.0) (sym c.gives) (moved s v Waiting (Running w) c.begins.waits refl)
  claimed_stay s (Step w) a here goes_on given =
      let c = step_is b s w a given in
      subst (λ (t : Answer). WaitsNoMore s t.0) (sym c.gives) (λ k stays. stays)
  claimed_stay s (Settle w) a here goes_on given =
      let c = settle_is b s w a given in
      subst (λ (t : Answer). WaitsNoMore s t.0) (sym c.gives)
      (moved s c.x.vertex (Running w) (Settled (ending_from (program_in b c.x) c.x)) (here.working w c.x c.there) refl)
  claimed_stay s (Cancel w) a here goes_on given = absurd (goes_on w refl)

  still_past : (s t : State) → Keeps s t → WaitsNoMore s t → (us : List ℕ) → Each_of (IsPast b s) us → Each_of (IsPast b t) us
  unfolding WaitsNoMore
  still_past s t keeps stay [] past = tt
  still_past s t keeps stay (u ∷ us) past = (
    record { claimed_once = stay u past.0.claimed_once; below = λ k lt. over_stays s t keeps k (past.0.below k lt) },
    still_past s t keeps stay us past.1,
  )

  claims_append : (es fs : List Event) → claims_of (es ++ fs) ≡ claims_of es ++ claims_of fs
  claims_append [] fs = refl
  claims_append (Claim w v ∷ es) fs = ap (λ us. v ∷ us) (claims_append es fs)
  claims_append (Step w ∷ es) fs = claims_append es fs
  claims_append (Settle w ∷ es) fs = claims_append es fs
  claims_append (Cancel w ∷ es) fs = claims_append es fs

  each_append : (P : ℕ → Type 0) (us : List ℕ) (v : ℕ) → Each_of P us → P v → Each_of P (us ++ v ∷ [])
  each_append P [] v each p = (p, tt)
  each_append P (u ∷ us) v each p = (each.0, each_append P us v each.1 p)

  above_append : (n : ℕ) (us : List ℕ) (v : ℕ) → AllAbove n us → n < v → AllAbove n (us ++ v ∷ [])
  above_append n [] v all lt = (lt, tt)
  above_append n (u ∷ us) v all lt = (all.0, above_append n us v all.1 lt)

  ascending_append : (us : List ℕ) (v : ℕ) → AreAscending us → Each_of (λ u. u < v) us → AreAscending (us ++ v ∷ [])
  ascending_append [] v up below = (tt, tt)
  ascending_append (u ∷ us) v up below = (above_append u us v up.0 below.0, ascending_append us v up.1 below.1)

  all_below : (s : State) → IsConsistent b s → (v : ℕ) → is_ready b s.statuses v ≡ true → (us : List ℕ) → Each_of (IsPast b s) us → Each_of (λ u. u < v) us
  all_below s here v is [] past = tt
  all_below s here v is (u ∷ us) past = (
    elim (cases_order u v) [ inl same ↦ absurd (waits same) | inr h ↦ elim h [ inl lt ↦ lt | inr gt ↦ absurd (over gt) ] ],
    all_below s here v is us past.1,
  )
    where
      over : v < u → ⊥
      over gt = cc (over_not_ready b graph s here v (past.0.below v gt), is)

      waits : u ≡ v → ⊥
      waits same =
          let w : is_waiting (slice_get s.statuses u) ≡ true = ap (λ n. is_waiting (slice_get s.statuses n)) same
          ∙ ap is_waiting (ready_waits b s.statuses v is) in
          cc (w, past.0.claimed_once)

  claim_moves : (s : State) (v : ℕ) (a : Answer) → table b s (Claim 0 v) ≡ Some a → is_waiting (slice_get a.0.statuses v) ≡ false
  claim_moves s v a given =
      let c = claim_is b s 0 v a given in
      ap (λ (x : Answer). is_waiting (slice_get x.0.statuses v)) c.gives ∙ ap is_waiting (get_set_same s.statuses v (Running 0) Waiting c.begins.waits)

  -- after the event that a driver chooses, the claims still ascend
  pub alone_step : (s t : State) (e : Event) (r : Reply) (es : List Event) → IsConsistent b s → chosen b s ≡ Some e
      → table b s e ≡ Some (t, r) → Ascends b s es → Ascends b t (es ++ e ∷ [])
  alone_step s t e r es here is given up = elim (chosen_is b s e is) [ inl n ↦ no_claim n | inr c ↦ one_more c.0 c.1 c.2 ]
    where
      keeps : Keeps s t
      keeps = kept s e (t, r) here given

      stay : WaitsNoMore s t
      stay = claimed_stay s e (t, r) here (chosen_goes_on b s e is) given

      same_claims : claims_of (e ∷ []) ≡ [] → Ascends b t (es ++ e ∷ [])
      same_claims none =
          let all : claims_of (es ++ e ∷ []) ≡ claims_of es = claims_append es (e ∷ []) ∙ ap (λ us. claims_of es ++ us) none ∙ append-nil (claims_of es) in
          record {
            ascending = subst AreAscending (sym all) up.ascending;
            past = subst (Each_of (IsPast b t)) (sym all) (still_past s t keeps stay (claims_of es) up.past);
          }

      quiet : (t : Bool) (w : ℕ) → claims_of (cond t (Settle w) (Step w) ∷ []) ≡ []
      quiet true w = refl
      quiet false w = refl

      no_claim : IsNextOf b s e → Ascends b t (es ++ e ∷ [])
      no_claim n = same_claims (ap (λ f. claims_of (f ∷ [])) n.is ∙ quiet (is_finished (program_in b n.execution).steps n.execution) n.worker)

      now_claimed : (v : ℕ) → e ≡ Claim 0 v → is_waiting (slice_get t.statuses v) ≡ false
      now_claimed v same = claim_moves s v (t, r) (ap (table b s) (sym same) ∙ given)

      one_more : (v : ℕ) → e ≡ Claim 0 v → IsChosenClaim b s v → Ascends b t (es ++ e ∷ [])
      one_more v same c =
          let all : claims_of (es ++ e ∷ []) ≡ claims_of es ++ v ∷ [] = claims_append es (e ∷ []) ∙ ap (λ f. claims_of es ++ claims_of (f ∷ [])) same in
          let below = all_below s here v c.least.passes (claims_of es) up.past in
          let over = progress b graph s here v (omega (arith, c.least.high)) (λ k w lt runs_. let x =
          here.running k w runs_ in c.idle w x.0 x.1) (λ k lt. c.least.below k (omega arith) lt) in
          record {
            ascending = subst AreAscending (sym all) (ascending_append (claims_of es) v up.ascending below);
            past = subst (Each_of (IsPast b t)) (sym all) (each_append (IsPast b t) (claims_of es) v (still_past s t keeps stay (claims_of es) up.past)
                (record { claimed_once = now_claimed v same; below = λ k lt. over_stays s t keeps k (over k lt) }));
          }
