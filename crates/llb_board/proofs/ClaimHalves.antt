-- A claim in two halves: what it begins is the table's, and with a lease of it the table's claim is done.
use Rattle.std.proofs.Common.{◌≡◌, ◌≢◌, ℕ, ◌<◌, List, map, length, Option, Some, None, refl, sym, ap, subst, ◌∙◌, arith}
use Rattle.std.specs.Prelude.{true, Result, Ok, Err, AllPairs, IfOk, IfErr, option_map, slice_get, slice_set}
use Rattle.std.proofs.lemmas.Option.{slice_get_within}
use Rattle.llb_cache.specs.declared.key.Key.{Key}
use Rattle.llb_cache.specs.declared.lease_needs.Need as cache_need
use Rattle.llb_cache.specs.Caches.{CachesValue, Leases, leases, AreApart, AreThere}
use Rattle.llb_loader.specs.declared.graph.Vertex.{Vertex}
use Rattle.llb_loader.specs.Graph.{IsGraph}
use Rattle.llb_model.specs.Caches.{Distinct, put_all}
use Rattle.llb_model.specs.TwoCacheModels.{store_of, HoldsAs, places_taken, written, rows_after}
use Rattle.llb_model.specs.Outcome.{inputs_from}
use Rattle.llb_model.specs.Program.{Build, Need, Start, key_of, needs_of, start_with}
use Rattle.llb_model.specs.State.{Status, WorkerStatus, Idle, Runs, State, Running, Execution, ending_at, begin_at, start_from, held, held_key, places_for}
use Rattle.llb_model.specs.State.{first_trees, places_at}
use Rattle.llb_model.specs.Table.{Job, Reply, Claimed, claim_start, claim_at, claim_unless, claimed, claim_grant, or_not_ready, execution_on, job_on}
use Rattle.llb_model.proofs.TwoModelsClaims.{makes_alike}
use Rattle.llb_model.proofs.TwoModelsLeases.{leased_holds_as}
use Rattle.llb_model.proofs.Lists.{get_set_same, length_map}
use Rattle.llb_model.proofs.DistinctCacheKeys.{graph_distinct}
use Rattle.llb_events.specs.Faults.{GivesClaim, claim_memory, claim_may_want}
use Rattle.llb_events.specs.declared.refusal.ClaimFault.{ClaimFault}
use Rattle.llb_board.specs.CacheNeeds.{first_held_key, unless_held}
use Rattle.llb_board.specs.OptionalLeases.{lease_if}
use Rattle.llb_board.specs.RunningWorkerSupplies.{supplies_of, supplies_for}
use Rattle.llb_board.specs.WorkerRules.{Begun, begun, begun_at}
use Rattle.llb_board.specs.Vertices.{VerticesValue, with_status}
use Rattle.llb_board.specs.WorkerModelValues.{at_of, leased_by, execution_of}
use Rattle.llb_board.specs.Workers.{WorkersValue, BegunValue, IsBegunAt, IsBegunOn, Fits, state_in, claim_in, reply_of, rule_of}
use Rattle.llb_board.specs.declared.workers.running_workers.Seat.{Seat}
use Rattle.llb_board.specs.declared.workers.running_workers.Seat.TheVariants as seat
use Rattle.llb_board.specs.declared.workers.running_workers.Execution as own
use Rattle.llb_board.proofs.GrantsAndRefusals.{CanClaim, Leased, Granted, granted_of, leased_as_held, held_is_fault, open_is, places_alike, begun_is}
use Rattle.llb_board.proofs.GrantsAndRefusals.{needs_asked}
use Rattle.llb_board.proofs.RunningWorkersAndLeases.{Crew, crew_set}
use Rattle.llb_board.proofs.SuppliesAtStartAndEnd.{leased_claimed, made_for, supplies_claimed}
use Rattle.llb_board.proofs.Lists.{map_set}
use Rattle.llb_board.proofs.LeaseCounts.{few_leases}
use Rattle.llb_board.proofs.NeedsByMount.{asked_differ}
use Rattle.llb_model.proofs.TwoModelsRowWrites.{written_made}
use Rattle.llb_board.proofs.TableStepOfWorker.{seen_of}
use Rattle.llb_model.proofs.ConstructorEqualities.{runs_inside}

-- ---- refusals

-- a claim that can't begin is refused for the cause that keeps it from beginning
pub refused_start : (b : Build) (s : State) (w v : ℕ) (r : Result Start ClaimFault) (e : ClaimFault) → r ≡ Err e
    → reply_of (claimed b s w v r) ≡ Err e
refused_start b s w v (Ok start) e is = absurd cc
refused_start b s w v (Err cause) e is = by_fault is
  where
    by_fault : ◌≡◌ {A = Result Start ClaimFault} (Err cause) (Err e) → ◌≡◌ {A = Result Reply ClaimFault} (Err cause) (Err e)
    by_fault is = cc

-- a claim of a vertex that needs a key that is held is refused for it
pub refused_held : (b : Build) (s : State) (w v : ℕ) (x : Vertex) (c : CachesValue) (e : ClaimFault) → CanClaim b s w v x → HoldsAs c.out s.workers
    → unless_held (needs_of x) (first_held_key c.out (needs_of x)) ≡ Err e → reply_of (claim_grant b s w v) ≡ Err e
refused_held b s w v x c e can same is =
    let h = held_is_fault (needs_of x) (first_held_key c.out (needs_of x)) e is in
    ap (λ r. reply_of r) can.grants
    ∙ ap (λ o. reply_of (claim_unless b s w v (start_with x can.trees) o))
    (sym (leased_as_held c s.workers can.trees x same) ∙ h.1)
    ∙ ap (λ f. Err f) (sym h.2)

-- a claim may need memory where the check of its keys may need memory
pub wants_as : (b : Build) (s : State) (w v : ℕ) (x : Vertex) (c : CachesValue) → CanClaim b s w v x → HoldsAs c.out s.workers
    → claim_may_want (claim_grant b s w v) ≡ claim_may_want (unless_held (needs_of x) (first_held_key c.out (needs_of x)))
wants_as b s w v x c can same =
    ap (λ r. claim_may_want r) can.grants ∙ by_key (held_key (held s.workers) (needs_of x))
    ∙ ap (λ o. claim_may_want (unless_held (needs_of x) o)) (sym (leased_as_held c s.workers can.trees x same))
  where
    by_key : (o : Option Key)
        → claim_may_want (claim_unless b s w v (start_with x can.trees) o)
        ≡ claim_may_want (unless_held (needs_of x) o)
    by_key None = refl
    by_key (Some k) = refl

-- ---- what is begun

claimed_inside : {x y : Job} → ◌≡◌ {A = Reply} (Claimed x) (Claimed y) → x ≡ y
claimed_inside e = cc

start_is : (b : Build) (s : State) (w v : ℕ) (x : Vertex) (can : CanClaim b s w v x)
    → claim_start s.statuses v (slice_get s.workers w) (Some x) ≡ Ok (start_with x can.trees)
start_is b s w v x can =
    ap (λ o. claim_start s.statuses v o (Some x)) can.idle
    ∙ ap (λ o. or_not_ready (start_from s.statuses o (Some x))) can.waits
    ∙ ap (λ o. or_not_ready (option_map (start_with x) o)) can.inputs

-- what is begun where no key is held is the table's
module _ (vs : VerticesValue) (ws : WorkersValue) (out : Leases) (w v : ℕ) (x : Vertex) (can : CanClaim vs.build (state_in vs ws) w v x)
    (leased : Leased (record { rows = ws.rows; out = out }) ws.workers) (ns : List Need)
    (admitted : unless_held (needs_of x) (first_held_key out (needs_of x)) ≡ Ok ns) (g : BegunValue)
    (begins : begun vs.build (record { rows = ws.rows; out = out }) w v x (inputs_from (ending_at vs.statuses) x.inputs) ≡ Ok (rule_of g)) where
  at_places : begun_at vs.build (record { rows = ws.rows; out = out }) w v x can.trees (places_for (held ws.workers) (needs_of x)) ≡ rule_of g
  at_places =
      ap (begun_at vs.build (record { rows = ws.rows; out = out }) w v x can.trees)
      (sym (places_alike (record { rows = ws.rows; out = out }) ws.workers can.trees (needs_of x) leased))
      ∙ begun_is vs.build (record { rows = ws.rows; out = out }) w v x can.trees (inputs_from (ending_at vs.statuses) x.inputs) (rule_of g) can.inputs begins

  pub free : held_key (held ws.workers) (needs_of x) ≡ None
  free =
      sym (leased_as_held (record { rows = ws.rows; out = out }) ws.workers can.trees x leased.same)
      ∙ (open_is (needs_of x) ns (first_held_key out (needs_of x)) admitted).0

  same_job : job_on w v x
      (begin_at vs.build (store_of ws.rows) (start_with x can.trees) (places_for (held ws.workers) (needs_of x)))
      (places_for (held ws.workers) (needs_of x))
      ≡ g.job
  same_job = claimed_inside (ap (λ (r : Begun). r.reply) at_places)

  pub worker_is : g.job.worker ≡ w
  worker_is = ap (λ (j : Job). j.worker) (sym same_job)

  pub vertex_is : g.job.vertex ≡ v
  vertex_is = ap (λ (j : Job). j.vertex) (sym same_job)

  grants : claim_at vs.build (state_in vs ws) w v (start_with x can.trees) (places_for (held ws.workers) (needs_of x))
      ≡ (
        record {
          statuses = slice_set vs.statuses v (Running w);
          workers = slice_set ws.workers w (Runs g.execution);
          store = put_all (store_of ws.rows) g.execution.places g.job.work.trees;
        },
        Claimed g.job,
      )
  grants = λ i. (
    record {
      statuses = slice_set vs.statuses v (Running w);
      workers = slice_set ws.workers w (Runs (at_places i).execution);
      store = put_all (store_of ws.rows) (at_places i).execution.places (same_job i).work.trees;
    },
    Claimed (same_job i),
  )

  pub replies : reply_of (claim_in vs ws w v) ≡ Ok (Claimed g.job)
  replies =
      ap (λ r. reply_of r) can.grants
      ∙ ap (λ o. reply_of (claim_unless vs.build (state_in vs ws) w v (start_with x can.trees) o)) free
      ∙ ap (λ (a : State × Reply). Ok a.1) grants

  pub begun_on : g.supplies ≡ supplies_for (Some x) → IsBegunOn vs ws g
  begun_on supplied =
      subst (λ (p : ℕ × ℕ). IsBegunAt vs ws p.0 p.1 g) (λ i. (sym worker_is i, sym vertex_is i)) (record {
        vertex = x;
        inputs = can.trees;
        there = can.there;
        starts = start_is vs.build (state_in vs ws) w v x can;
        free = free;
        grants = grants;
        supplied = supplied;
        asks = needs_asked vs.build (record { rows = ws.rows; out = out }) w v x can.trees (inputs_from (ending_at vs.statuses) x.inputs) (rule_of g)
            can.inputs begins;
      })

-- the first half of a claim returns what is begun, or a fault
module _ (vs : VerticesValue) (ws : WorkersValue) (out : Leases) (w v : ℕ) (x : Vertex) (can : CanClaim vs.build (state_in vs ws) w v x)
    (leased : Leased (record { rows = ws.rows; out = out }) ws.workers) (ns : List Need)
    (admitted : unless_held (needs_of x) (first_held_key out (needs_of x)) ≡ Ok ns) where
  begun_ok : (e : ClaimFault)
      → begun vs.build (record { rows = ws.rows; out = out }) w v x (inputs_from (ending_at vs.statuses) x.inputs) ≡ Err e → ⊥
  begun_ok e is = apart (ap (begun vs.build (record { rows = ws.rows; out = out }) w v x) (sym can.inputs) ∙ is)
    where
      apart : {g : Begun} → ◌≡◌ {A = Result Begun ClaimFault} (Ok g) (Err e) → ⊥
      apart is = cc

  pub begin_gives : (r : Result BegunValue ClaimFault)
      → GivesClaim rule_of r (begun vs.build (record { rows = ws.rows; out = out }) w v x (inputs_from (ending_at vs.statuses) x.inputs))
      → GivesClaim (λ g. Claimed g.job) r (reply_of (claim_in vs ws w v))
  begin_gives (Ok g) begins = replies vs ws out w v x can leased ns admitted g begins
  begin_gives (Err e) begins = λ known. absurd (begun_ok e (begins known))

  pub begin_last : (r : Result BegunValue ClaimFault) → IfErr r (λ e. claim_memory e ≡ true → claim_may_want (claim_in vs ws w v) ≡ true)
  begin_last (Ok g) = tt
  begin_last (Err e) = λ memory.
      wants_as vs.build (state_in vs ws) w v x (record { rows = ws.rows; out = out }) can leased.same ∙ ap claim_may_want admitted

  pub begin_on : (r : Result BegunValue ClaimFault)
      → GivesClaim rule_of r (begun vs.build (record { rows = ws.rows; out = out }) w v x (inputs_from (ending_at vs.statuses) x.inputs))
      → IfOk r (λ g. g.supplies ≡ supplies_for (Some x)) → IfOk r (λ g. IsBegunOn vs ws g)
  begin_on (Ok g) begins supplied = begun_on vs ws out w v x can leased ns admitted g begins supplied
  begin_on (Err e) begins supplied = tt

  pub begin_at_them : (r : Result BegunValue ClaimFault)
      → GivesClaim rule_of r (begun vs.build (record { rows = ws.rows; out = out }) w v x (inputs_from (ending_at vs.statuses) x.inputs))
      → IfOk r (λ g. (g.job.worker ≡ w) × (g.job.vertex ≡ v))
  begin_at_them (Ok g) begins =
      (worker_is vs ws out w v x can leased ns admitted g begins, vertex_is vs ws out w v x can leased ns admitted g begins)
  begin_at_them (Err e) begins = tt

-- ---- the second half: what was begun is started with a lease

idle_of : (S : List Status) (v : ℕ) (o : Option WorkerStatus) (x : Vertex) (start : Start) → claim_start S v o (Some x) ≡ Ok start → o ≡ Some Idle
idle_of S v None x start is = absurd cc
idle_of S v (Some (Runs y)) x start is = absurd cc
idle_of S v (Some Idle) x start is = refl

module _ (vs : VerticesValue) (ds : List Seat) (c : CachesValue) (w v : ℕ) (g : BegunValue) (on : IsBegunAt vs (seen_of ds c.rows) w v g)
    (crew : Crew ds c.out) (apart : AreApart c.out) (there : AreThere c.rows c.out) (graph : IsGraph vs.build.graph) where
  idle : slice_get (map at_of ds) w ≡ Some Idle
  idle = idle_of vs.statuses v (slice_get (map at_of ds) w) on.vertex (start_with on.vertex on.inputs) on.starts

  distinct : Distinct (map key_of (needs_of on.vertex))
  distinct = graph_distinct vs.build graph v on.vertex on.there

  holds : HoldsAs c.out (map at_of ds)
  holds = leased_holds_as c.out (map at_of ds) (map leased_by ds) crew.leased

  -- the worker has a seat
  pub low_seat : w < length ds
  low_seat = omega (arith, slice_get_within (map at_of ds) w Idle idle, length_map at_of ds)

  -- the keys that are leased differ, and fewer leases are out than can be
  pub differ : AllPairs (λ (n m : cache_need.Need). n.key ≢ m.key) g.needs
  differ = subst (AllPairs (λ (n m : cache_need.Need). n.key ≢ m.key)) (sym on.asks) (asked_differ on.inputs (needs_of on.vertex) distinct)

  pub few : leases c.out < 65536
  few = let few = few_leases c.out (map at_of ds) (map leased_by ds) crew.leased in omega (arith, few, crew.few)

  -- where the lease is taken, the worker runs what was begun
  module _ (l : Option ℕ) (own : own.Execution) (new : CachesValue) (same : execution_of own ≡ g.execution) (supplies : supplies_of own ≡ g.supplies)
      (leases : lease_if c g.needs ≡ Ok (l, new)) where
    lease : Granted c on.vertex on.inputs l new
    lease = granted_of c new on.vertex on.inputs l g.needs on.asks leases

    begun_first : ◌≡◌ {A = Execution}
        (execution_on v (begin_at vs.build (store_of c.rows) (start_with on.vertex on.inputs) (places_for (held (map at_of ds)) (needs_of on.vertex)))
        (places_for (held (map at_of ds)) (needs_of on.vertex)))
        g.execution
    begun_first =
        runs_inside
        (sym (get_set_same (map at_of ds) w _ Idle idle) ∙ ap (λ (a : State × Reply). slice_get a.0.workers w) on.grants
        ∙ get_set_same (map at_of ds) w (Runs g.execution) Idle idle)

    places : places_for (held (map at_of ds)) (needs_of on.vertex) ≡ g.execution.places
    places = ap (λ (e : Execution). e.places) begun_first

    made : store_of new.rows
        ≡ put_all (store_of c.rows) (places_for (held (map at_of ds)) (needs_of on.vertex))
        (first_trees (store_of c.rows) on.inputs (places_for (held (map at_of ds)) (needs_of on.vertex)) (needs_of on.vertex))
    made = ap store_of lease.rows ∙ makes_alike c.rows c.out (map at_of ds) on.inputs (needs_of on.vertex) holds apart there distinct

    store : store_of new.rows ≡ put_all (store_of c.rows) g.execution.places g.job.work.trees
    store = made ∙ ap (λ (a : State × Reply). a.0.store) on.grants

    workers : map at_of (slice_set ds w (seat.Runs l own)) ≡ slice_set (map at_of ds) w (Runs g.execution)
    workers = map_set at_of ds w (seat.Runs l own) ∙ ap (λ e. slice_set (map at_of ds) w (Runs e)) same

    -- the table grants the claim, and this is the state after it
    pub start_grants : claim_grant vs.build (state_in vs (seen_of ds c.rows)) w v
        ≡ Ok (state_in (with_status v (Running w) vs) (seen_of (slice_set ds w (seat.Runs l own)) new.rows), Claimed g.job)
    start_grants =
        ap (λ o. claimed vs.build (state_in vs (seen_of ds c.rows)) w v (claim_start vs.statuses v (slice_get (map at_of ds) w) o)) on.there
        ∙ ap (claimed vs.build (state_in vs (seen_of ds c.rows)) w v) on.starts
        ∙ ap (claim_unless vs.build (state_in vs (seen_of ds c.rows)) w v (start_with on.vertex on.inputs)) on.free
        ∙ ap (λ (a : State × Reply). Ok a) on.grants
        ∙ (λ i. Ok (
          record { statuses = slice_set vs.statuses v (Running w); workers = sym workers i; store = sym store i },
          Claimed g.job,
        ))

    -- the instances of the worker are the ones that are written or made
    pub start_rows : new.rows
        ≡ rows_after c.rows (state_in (with_status v (Running w) vs) (seen_of (slice_set ds w (seat.Runs l own)) new.rows)) w
    start_rows =
        lease.rows
        ∙ sym (written_made c.rows c.out (map at_of ds) on.inputs (needs_of on.vertex) holds apart there distinct)
        ∙ (λ i. written (sym made i) c.rows (places_for (held (map at_of ds)) (needs_of on.vertex)))
        ∙ ap (written (store_of new.rows) c.rows) (places
        ∙ sym (ap (λ ws. places_at (slice_get ws w)) workers ∙ ap places_at (get_set_same (map at_of ds) w (Runs g.execution) Idle idle)))

    pub start_crew : Crew (slice_set ds w (seat.Runs l own)) new.out
    start_crew =
        let taken = places_alike c (map at_of ds) on.inputs (needs_of on.vertex) (record { same = holds; apart = apart; there = there }) in
        crew_set ds w (seat.Runs l own) c.out new.out crew
        (leased_claimed c.out ds w l own
        (places_taken c.out (needs_of on.vertex)) new.out crew.leased idle
        (ap (λ (e : Execution). e.places) same ∙ sym places ∙ sym taken) lease.leased)

    pub start_fits : Fits vs.build (seen_of ds c.rows) → Fits vs.build (seen_of (slice_set ds w (seat.Runs l own)) new.rows)
    start_fits fits =
        let vertex : own.vertex ≡ v = ap (λ (e : Execution). e.vertex) (same ∙ sym begun_first) in
        supplies_claimed vs.build ds w l own fits (supplies ∙ on.supplied ∙ made_for vs.build on.vertex v own.vertex on.there vertex)
