-- A landing: the board after the steps that an outcome counts, and the block of these and of the settle.
use Rattle.std.proofs.Common.{◌≡◌, ℕ, zero, suc, ◌+◌, ◌<◌, ◌≤◌, List, [], ◌∷◌, ◌++◌, map, length, inl, inr, refl, sym, ap, subst, ◌∙◌, arith}
use Rattle.std.proofs.Common.{length-append}
use Rattle.std.specs.Prelude.{Bool, true, false, Some, option_map, Result, Ok, Err, is_ok, is_some, slice_get, slice_set, fold}
use Rattle.std.specs.Prelude.{if◌then◌else◌}
use Rattle.std.specs.Bool.{OnFalse}
use Rattle.std.proofs.lemmas.List.{length-replicate, append_assoc}
use Rattle.std.proofs.lemmas.List.Sums.{fold-append}
use Rattle.std.proofs.lemmas.Option.{slice_get_within}
use Rattle.llb_cache.specs.Caches.{Row, trees_of}
use Rattle.llb_loader.specs.Graph.{IsGraph}
use Rattle.llb_tree.specs.Tree.{TreeMap}
use Rattle.llb_model.specs.Table.{HasSettled}
use Rattle.llb_model.specs.Caches.{Instance, Store, Has, Hold, Distinct, put_all, trees_at}
use Rattle.llb_model.specs.WholeRunLaws.{HasDistinctNeeds}
use Rattle.llb_model.specs.Program.{Build, Left, Need, key_of, needs_of, step_on}
use Rattle.llb_model.specs.State.{State, Running, WorkerStatus, Idle, Runs, Execution, opening, program_in, is_finished, ending_from, held, places_for}
use Rattle.llb_model.specs.State.{work_of, begin_at, places_at}
use Rattle.llb_model.specs.TwoCacheModels.{store_of, put_each, written, rows_after}
use Rattle.llb_model.specs.Landing.{steps_by, further, AreThere, AreLeft, left_so_far, with_steps, after_steps}
use Rattle.llb_events.specs.declared.refusal.SettleFault.TheVariants.{NotFinished}
use Rattle.llb_events.specs.declared.event.Event.{Event}
use Rattle.llb_events.specs.declared.event.Event.TheVariants.{Claim, Step, Settle, Cancel}
use Rattle.llb_model.specs.Table.{Reply, Job, settle_with, settled, settle_grant, table, execution_on, with_step}
use Rattle.llb_model.specs.Run.{run}
use Rattle.llb_model.specs.EventBounds.{cancels_in}
use Rattle.llb_model.proofs.Lists.{get_set_same, get_within, got_within, got_set, got_replicate, length_set}
use Rattle.llb_model.proofs.StoreWrites.{hold_all, hold_trees, hold_length}
use Rattle.llb_model.proofs.ProgramPrefixes.{go_keeps}
use Rattle.llb_model.proofs.TwoModelsClaims.{writes_alike}
use Rattle.llb_model.proofs.TwoModelsContents.{shows_instances}
use Rattle.llb_model.proofs.DistinctCacheKeys.{graph_distinct}
use Rattle.llb_model.proofs.HeldInstances.{held_are_there}
use Rattle.llb_model.proofs.GrantedEvents.{Answer, claim_places, claim_is, step_is, settle_is, cancel_is}
use Rattle.llb_model.proofs.Cancels.{steps_no_cancel, steps_counts, steps_roomy, record_fits}
use Rattle.llb_model.proofs.RunExtension.{run_none, run_one, run_on, run_keeps}
use Rattle.llb_model.proofs.Landing.{first_step, steps_as_block, after_again, further_keeps}
use Rattle.llb_events.specs.Faults.{GivesSettle}
use Rattle.llb_events.specs.declared.event.Settled.{Settled}
use Rattle.llb_events.specs.declared.refusal.SettleFault.{SettleFault}
use Rattle.llb_execution.specs.Jobs.{OutcomeValue, IsOutcome, begun_on}
use Rattle.llb_board.specs.Jobs.{job_now, IsRunOf}
use Rattle.llb_board.specs.Vertices.{VerticesValue}
use Rattle.llb_board.specs.Workers.{WorkersValue, Fits, state_in, RunsJob, steps_left}
use Rattle.llb_model.proofs.TwoModelsOverwrites.{AreKeysApart, AreWithin, each_within, each_again, each_there}
use Rattle.llb_model.proofs.TwoModelsRowWrites.{written_each}
use Rattle.llb_board.specs.BoardValue.{BoardValue, Replays, seen, opening_with, kept_next, kept_along, after_event, recorded}
use Rattle.llb_board.specs.BoardInvariant.{IsBoard}
use Rattle.llb_board.specs.History.{Space}
use Rattle.llb_board.specs.EventResults.{settle_of}
use Rattle.llb_board.specs.Landing.{CanLand, IsThrough, Lands}
use Rattle.llb_board.proofs.RulesGrantedByTable.{settle_done}
use Rattle.llb_board.proofs.InvariantPreservation.{kept_more}
use Rattle.llb_board.proofs.RecordedRunStates.{consistent, reached}
use Rattle.llb_model.proofs.ConstructorEqualities.{inside_ok}

-- ---- the lists of instances after the steps

rows_steps : (b : Build) (s : State) (rows : List Row) (w : ℕ) (x : Execution) (trees : List TreeMap) (n : ℕ) → s.store ≡ store_of rows
    → slice_get s.workers w ≡ Some (Runs x)
    → Distinct x.places → AreKeysApart x.places → AreWithin rows x.places → Hold s.store x.places trees
    → AreThere (program_in b x).steps x.done (left_so_far x trees) n
    → kept_along b s rows (steps_by w n)
    ≡ Some (
      after_steps s w x n (further (program_in b x).steps x.done (left_so_far x trees) n),
      put_each rows x.places
          (further (program_in b x).steps x.done (left_so_far x trees) n).work.trees,
    )
rows_steps b s rows w x trees zero store runs apart keys within hold steps =
    let none = run_none b s (after_steps s w x 0 (left_so_far x trees)) (steps_as_block b s w x trees 0 runs apart hold steps).0
    (steps_as_block b s w x trees 0 runs apart hold steps).1 in
    λ i. Some (none.0 i, sym (each_there rows x.places trees within (subst (λ (st : Store). Hold st x.places trees) store hold)) i)
rows_steps b s rows w x trees (suc n) store runs apart keys within hold steps =
    let ps = x.places in
    let one = first_step b s w x trees runs hold steps.0 in
    let y = with_steps x 1 one.left in
    let t = after_steps s w x 1 one.left in
    let news = one.left.work.trees in
    let count : length news ≡ length ps
    = ap (λ (l : Left). length l.work.trees) one.is ∙ go_keeps (program_in b x).steps x.done (left_so_far x trees) ∙ hold_length s.store ps trees hold in
    let there = get_set_same s.workers w (Runs y) (Runs x) runs in
    let next : kept_next b (Some (s, rows)) (Step w) ≡ Some (t, put_each rows ps news)
    = ap (option_map (λ (a : State × Reply). (a.0, rows_after rows a.0 w))) one.grants
    ∙ ap (λ r. Some (t, r)) (ap (λ o. written t.store rows (places_at o)) there ∙ ap (λ st. written (put_all st ps news) rows ps) store
    ∙ written_each rows ps news apart count within) in
    let last = further (program_in b x).steps (x.done + 1) one.left n in
    let lasts : length last.work.trees ≡ length ps = further_keeps (program_in b x).steps (x.done + 1) one.left n ∙ count in
    ap (λ o. fold (kept_next b) o (steps_by w n)) next
    ∙ rows_steps b t (put_each rows ps news) w y news n (ap (λ st. put_all st ps news) store
    ∙ sym (writes_alike rows ps news within)) there apart keys (each_within rows ps news ps within)
    (hold_all s.store ps news apart count) (subst (λ (l : Left). AreThere (program_in b x).steps (x.done + 1) l n) (sym one.is) steps.1)
    ∙ (λ i. Some (after_again s w x one.left n last apart lasts i, each_again rows ps news last.work.trees keys within count lasts i))
    ∙ ap (λ (l : Left). Some (after_steps s w x (suc n) l, put_each rows ps l.work.trees))
    (ap (λ (l : Left). further (program_in b x).steps (x.done + 1) l n) one.is)

settled_if : Build → State → ℕ → Execution → Bool → Result (State × Reply) SettleFault
settled_if b s w x f = if f then Ok (settle_with s w x.vertex (ending_from (program_in b x) x)) else Err NotFinished

settles_if : (b : Build) (s : State) (w : ℕ) (x : Execution) → slice_get s.workers w ≡ Some (Runs x) → is_finished (program_in b x).steps x ≡ true
    → is_ok (settle_grant b s w) ≡ true
unfolding settled_if
settles_if b s w x at fin = ap (λ o. is_ok (settled b s w o)) at ∙ ap (λ f. is_ok (settled_if b s w x f)) fin

-- ---- the keys of a worker's instances

record AreApart (s : State) : Type 0 where
  each : (w : ℕ) (x : Execution) → slice_get s.workers w ≡ Some (Runs x) → AreKeysApart x.places

has_key : (ps : List Instance) (ns : List Need) (p : Instance) → Has (places_for ps ns) p → Has (map key_of ns) p.key
has_key ps [] p there = absurd there
has_key ps (n ∷ ns) p (inl h) = inl (ap (λ (q : Instance). q.key) h)
has_key ps (n ∷ ns) p (inr h) = inr (has_key ps ns p h)

keys_apart : (ps : List Instance) (ns : List Need) → Distinct (map key_of ns) → AreKeysApart (places_for ps ns)
keys_apart ps [] apart = tt
keys_apart ps (n ∷ ns) apart =
    (λ q there same. apart.0 (subst (Has (map key_of ns)) (sym same) (has_key ps ns q there)), keys_apart ps ns apart.1)

apart_set : (ws : List WorkerStatus) (w : ℕ) (z : WorkerStatus) → ((u : ℕ) (x : Execution) → slice_get ws u ≡ Some (Runs x) → AreKeysApart x.places)
    → ((x : Execution) → z ≡ Runs x → AreKeysApart x.places) → (u : ℕ) (x : Execution) → slice_get (slice_set ws w z) u ≡ Some (Runs x)
    → AreKeysApart x.places
apart_set ws w z old new u x there = elim (got_set ws w z u (Runs x) there) [ inl h ↦ new x (sym (h.1)) | inr h ↦ old u x h.1 ]

runs_inside : {x y : Execution} → Runs x ≡ Runs y → x ≡ y
runs_inside e = cc

event_apart : (b : Build) → HasDistinctNeeds b → (s : State) (e : Event) (a : Answer) → AreApart s → table b s e ≡ Some a → AreApart a.0
event_apart b differ s (Claim w v) a f given =
    let c = claim_is b s w v a given in
    let ps = claim_places s c.start in
    let apart = keys_apart (held s.workers) (needs_of c.start.vertex) (differ v c.start.vertex c.begins.there) in
    subst (λ (t : Answer). AreApart t.0) (sym c.gives) (record {
      each = apart_set s.workers w (Runs (execution_on v (begin_at b s.store c.start ps) ps)) f.each
          (λ x is. subst (λ (y : Execution). AreKeysApart y.places) (runs_inside is) apart);
    })
event_apart b differ s (Step w) a f given =
    let c = step_is b s w a given in
    let left = step_on c.x.done (Some c.step) (work_of s c.x) in
    subst (λ (t : Answer). AreApart t.0) (sym c.gives) (record {
      each = apart_set s.workers w (Runs (with_step c.x left)) f.each
          (λ x is. subst (λ (y : Execution). AreKeysApart y.places) (runs_inside is) (f.each w c.x c.there));
    })
event_apart b differ s (Settle w) a f given =
    let c = settle_is b s w a given in
    subst (λ (t : Answer). AreApart t.0) (sym c.gives) (record { each = apart_set s.workers w Idle f.each (λ x is. absurd cc) })
event_apart b differ s (Cancel w) a f given =
    let c = cancel_is b s w a given in
    subst (λ (t : Answer). AreApart t.0) (sym c.gives) (record { each = apart_set s.workers w Idle f.each (λ x is. absurd cc) })

-- no two instances of a running worker have one key, as no two needs of a vertex have
held_keys : (b : BoardValue) → IsGraph b.build.graph → Replays b → (w : ℕ) (x : Execution) → slice_get b.state.workers w ≡ Some (Runs x) → AreKeysApart x.places
held_keys b graph here w x there =
    let f = run_keeps b.build AreApart (event_apart b.build (graph_distinct b.build graph)) (opening b.build b.opening) b.state b.events here.replies
    (record { each = λ w x there. absurd (let h : Runs x ≡ Idle = got_replicate b.opening.workers Idle w (Runs x) there in cc) }) here.leads in
    f.each w x there

-- instances that hold trees are there
within_by : (rows : List Row) (ps : List Instance) (ts : List TreeMap) → Hold (store_of rows) ps ts → AreWithin rows ps
within_by rows [] ts hold p there = absurd there
within_by rows (q ∷ ps) [] hold p there = absurd hold
within_by rows (q ∷ ps) (t ∷ ts) hold p (inl h) =
    subst (λ (r : Instance). r.number < length (trees_of rows r.key)) (sym h)
    (slice_get_within (trees_of rows q.key) q.number t (sym (shows_instances rows q) ∙ hold.0))
within_by rows (q ∷ ps) (t ∷ ts) hold p (inr h) = within_by rows ps ts hold.1 p h

-- ---- the board after the steps

module _ (vs : VerticesValue) (first : List Row) (ws us : WorkersValue) (es : List Event) (space : Space) (w : ℕ) (x : Execution) (o : OutcomeValue)
    (kept : IsBoard (seen vs first ws es) ws space) (graph : IsGraph vs.build.graph)
    (runs : slice_get ws.workers w ≡ Some (Runs x))
    (can : IsRunOf vs.build (store_of ws.rows) w x o.job) (is : IsOutcome o.job o.count o.left)
    (workers : us.workers ≡ slice_set ws.workers w (steps_left o (slice_get ws.workers w)))
    (put : us.rows ≡ put_each ws.rows (places_at (slice_get ws.workers w)) o.left.work.trees) where
  abbrev b : Build
  b = vs.build

  keys : AreKeysApart x.places
  keys = held_keys (seen vs first ws es) graph kept.replays w x runs

  ready : Distinct x.places × ((trees : List TreeMap) × Hold (store_of ws.rows) x.places trees)
  ready = held_are_there vs.build (graph_distinct vs.build graph) (state_in vs ws) (reached (seen vs first ws es) kept.replays) w x runs

  within : AreWithin ws.rows x.places
  within = within_by ws.rows x.places ready.1.0 ready.1.1

  abbrev trees : List TreeMap
  trees = trees_at (store_of ws.rows) x.places

  hold : Hold (store_of ws.rows) x.places (trees_at (store_of ws.rows) x.places)
  hold = subst (Hold (store_of ws.rows) x.places) (sym (hold_trees (store_of ws.rows) x.places ready.1.0 ready.1.1)) ready.1.1

  now : IsOutcome (job_now vs.build (store_of ws.rows) w x) o.count o.left
  now = subst (λ (j : Job). IsOutcome j o.count o.left) can.same is

  begun : begun_on (job_now vs.build (store_of ws.rows) w x) ≡ left_so_far x (trees_at (store_of ws.rows) x.places)
  begun = λ i. record { work = record { own = x.own; trees = trees_at (store_of ws.rows) x.places }; fault = sym can.clean i }

  abbrev last : Left
  last = further (program_in vs.build x).steps x.done (left_so_far x (trees_at (store_of ws.rows) x.places)) o.count

  all : AreLeft (program_in vs.build x).steps x.done (left_so_far x (trees_at (store_of ws.rows) x.places)) o.count
  all = subst (λ (f : Left). AreLeft (program_in vs.build x).steps x.done f o.count) begun now.all

  leaves : o.left ≡ last
  leaves = now.leaves ∙ ap (λ (f : Left). further (program_in vs.build x).steps x.done f o.count) begun

  abbrev pub after : Execution
  after = record x { done = x.done + o.count; fault = o.left.fault; own = o.left.work.own }

  workers_are : us.workers ≡ slice_set ws.workers w (Runs after)
  workers_are = workers ∙ ap (λ a. slice_set ws.workers w (steps_left o a)) runs

  rows_are : us.rows ≡ put_each ws.rows x.places o.left.work.trees
  rows_are = put ∙ ap (λ a. put_each ws.rows (places_at a) o.left.work.trees) runs

  state_is : state_in vs us ≡ after_steps (state_in vs ws) w x o.count o.left
  state_is = λ i. record {
    statuses = vs.statuses;
    workers = workers_are i;
    store = (ap store_of rows_are ∙ writes_alike ws.rows x.places o.left.work.trees within) i;
  }

  steps : (rs : List Reply) × (run vs.build (state_in vs ws) (steps_by w o.count) ≡ Some (state_in vs us, rs))
  steps =
      let block = steps_as_block vs.build (state_in vs ws) w x (trees_at (store_of ws.rows) x.places) o.count runs ready.0 hold all.there
      in (
        block.0,
        block.1
            ∙ ap (λ (f : Left). Some (after_steps (state_in vs ws) w x o.count f, block.0)) (sym leaves)
            ∙ ap (λ (s : State). Some (s, block.0)) (sym state_is),
      )

  rows : kept_along vs.build (state_in vs ws) ws.rows (steps_by w o.count) ≡ Some (state_in vs us, us.rows)
  rows =
      rows_steps vs.build (state_in vs ws) ws.rows w x (trees_at (store_of ws.rows) x.places) o.count refl runs ready.0 keys within
      hold all.there
      ∙ ap (λ (f : Left). Some (after_steps (state_in vs ws) w x o.count f, put_each ws.rows x.places f.work.trees)) (sym leaves)
      ∙ (λ i. Some (sym state_is i, sym rows_are i))

  same : length us.workers ≡ length ws.workers
  same = ap length workers_are ∙ length_set ws.workers w (Runs after)

  leads : run vs.build (opening vs.build (opening_with (length ws.workers) first)) (es ++ steps_by w o.count)
      ≡ Some (state_in vs us, kept.replays.replies ++ steps.0)
  leads = run_on vs.build (opening vs.build (opening_with (length ws.workers) first)) (state_in vs ws) (state_in vs us) es (steps_by w o.count)
      kept.replays.replies steps.0
      kept.replays.leads steps.1

  quiet : (v : ℕ) → cancels_in v steps.0 ≡ 0
  quiet = steps_no_cancel vs.build w o.count (state_in vs ws) (state_in vs us) steps.0 steps.1

  -- the board keeps its invariant
  pub keeps : Fits vs.build us → IsBoard (seen vs first us (es ++ steps_by w o.count)) us space
  keeps fits = record {
    replays = record {
      replies = kept.replays.replies ++ steps.0;
      leads = ap (λ n. run vs.build (opening vs.build (opening_with n first)) (es ++ steps_by w o.count)) same ∙ leads;
      keeps = ap (λ n. kept_along vs.build (opening vs.build (opening_with n first)) first (es ++ steps_by w o.count)) same
          ∙ fold-append (kept_next vs.build) (Some (opening vs.build (opening_with (length ws.workers) first), first)) es (steps_by w o.count)
          ∙ ap (λ k. fold (kept_next vs.build) k (steps_by w o.count)) kept.replays.keeps
          ∙ rows;
    };
    room = steps_roomy vs.build (state_in vs ws) (state_in vs us) kept.replays.replies steps.0 space.room quiet refl kept.room;
    counted = kept.counted ∙ sym (steps_counts vs.build kept.replays.replies steps.0 quiet);
    fits = fits;
  }

  -- there is room for the steps
  pub room : length es + o.count ≤ space.room
  room =
      let fits = record_fits vs.build (opening_with (length ws.workers) first) (state_in vs us) (es ++ steps_by w o.count) (kept.replays.replies ++ steps.0)
      space.room
      leads
      (steps_roomy vs.build (state_in vs ws) (state_in vs us) kept.replays.replies steps.0 space.room quiet refl kept.room) in
      let count : length (steps_by w o.count) ≡ o.count = length-replicate o.count (Step w) in
      omega (arith, fits, length-append es (steps_by w o.count), count)

  -- the steps are done, and what the worker runs is finished
  pub through : IsThrough (seen vs first ws es) w o.count (seen vs first us (es ++ steps_by w o.count))
  through = record {
    steps = record {
      replies = steps.0;
      runs = steps.1;
      rows = rows;
      recorded = λ i. record {
        build = vs.build;
        opening = opening_with (same i) first;
        first = first;
        state = state_in vs us;
        rows = us.rows;
        events = es ++ steps_by w o.count;
      };
    };
    finished = settles_if vs.build (state_in vs us) w after
        (ap (λ (l : List WorkerStatus). slice_get l w) workers_are ∙ get_set_same ws.workers w (Runs after) (Runs x) runs)
        (ap (λ (f : Left). is_finished (program_in vs.build x).steps (with_steps x o.count f)) leaves ∙ all.over);
  }

-- a worker whose outcome can land runs its job
pub runs_job : (vs : VerticesValue) (first : List Row) (ws : WorkersValue) (es : List Event) (w : ℕ) (job : Job) → CanLand (seen vs first ws es) w job
    → RunsJob vs ws w job
runs_job vs first ws es w job can = record { x = can.x; runs = can.runs; own = can.own }

-- the vertex that a worker runs is there
pub runs_vertex : (b : BoardValue) → Replays b → (w : ℕ) (x : Execution) → slice_get b.state.workers w ≡ Some (Runs x)
    → is_some (slice_get b.build.graph.vertices x.vertex) ≡ true
runs_vertex b here w x runs =
    let c = consistent b here in
    let low = got_within b.state.statuses x.vertex (Running w) (c.working w x runs) in
    let count = c.count in
    ap is_some (get_within b.build.graph.vertices x.vertex (omega (arith, low, count))).1

-- ---- the block

-- a settle after the steps completes the landing
pub settles : (b n m : BoardValue) (w : ℕ) (o : OutcomeValue) (reply : Reply) → CanLand b w o.job → IsThrough b w o.count n → settle_of n w ≡ Ok (m, reply)
    → Lands b w o m reply
settles b n m w o reply can through is = by_grant (settle_grant n.build n.state w) refl is
  where
    by_grant : (r : Result (State × Reply) SettleFault) → settle_grant n.build n.state w ≡ r → recorded n (Settle w) r ≡ Ok (m, reply)
        → Lands b w o m reply
    by_grant (Err cause) grants is = absurd cc
    by_grant (Ok (t, q)) grants is =
        let steps = through.steps in
        let same : ◌≡◌ {A = BoardValue × Reply} (after_event n (Settle w) t, q) (m, reply) = inside_ok is in
        let given : table b.build n.state (Settle w) ≡ Some (t, q)
        = ap (λ (c : Build). table c n.state (Settle w)) (sym (ap (λ (k : BoardValue). k.build) steps.recorded))
        ∙ settle_done n.build n.state w (t, q) grants in
        record {
          can = can;
          replies = steps.replies;
          runs = run_on b.build b.state n.state t (steps_by w o.count) (Settle w ∷ []) steps.replies (q ∷ []) steps.runs
              (run_one b.build n.state t (Settle w) q given)
              ∙ (λ i. Some ((same i).0.state, steps.replies ++ (same i).1 ∷ []));
          rows = kept_more b.build b.state b.rows n.rows n.state t (steps_by w o.count) (Settle w) q steps.rows given
              ∙ (λ i. Some ((same i).0.state, (same i).0.rows));
          recorded = sym (ap (λ (a : BoardValue × Reply). a.0) same)
              ∙ (λ i. record {
                build = (steps.recorded i).build;
                opening = (steps.recorded i).opening;
                first = (steps.recorded i).first;
                state = t;
                rows = rows_after n.rows t w;
                events = (steps.recorded i).events ++ Settle w ∷ [];
              })
              ∙ (λ i. record b { state = (same i).0.state; rows = (same i).0.rows; events = append_assoc b.events (steps_by w o.count) (Settle w ∷ []) i });
        }

-- the settle after the steps is not refused
pub not_refused : (b n : BoardValue) (w count : ℕ) (e : SettleFault) → IsThrough b w count n → settle_of n w ≡ Err e → ⊥
not_refused b n w count e through is = by_grant (settle_grant n.build n.state w) through.finished is
  where
    by_grant : (r : Result (State × Reply) SettleFault) → is_ok r ≡ true → recorded n (Settle w) r ≡ Err e → ⊥
    by_grant (Ok a) ok is = cc
    by_grant (Err cause) ok is = cc

-- since it is not refused, the settle after the steps is granted
pub is_settled : (b n m : BoardValue) (w count : ℕ) (r : Result Settled SettleFault) → IsThrough b w count n
    → GivesSettle (λ s. (m, HasSettled s)) r (settle_of n w) → is_ok r ≡ true
is_settled b n m w count (Ok s) through gives = refl
is_settled b n m w count (Err e) through gives = absurd (not_refused b n w count e through (gives refl))

-- the steps and what the settle returns are the landing of the outcome
pub lands : (b n m : BoardValue) (w : ℕ) (o : OutcomeValue) (r : Result Settled SettleFault) (s : Settled) → r ≡ Ok s → CanLand b w o.job
    → IsThrough b w o.count n → GivesSettle (λ s. (m, HasSettled s)) r (settle_of n w) → Lands b w o m (HasSettled s)
lands b n m w o r s is can through gives =
    settles b n m w o (HasSettled s) can through
    (subst (λ (q : Result Settled SettleFault). GivesSettle (λ s. (m, HasSettled s)) q (settle_of n w)) is gives)

-- a fact that holds if a test fails, for a test that has failed
pub on_false : (b : Bool) (P : Type 0) → OnFalse b P → b ≡ false → P
on_false true P h is = absurd cc
on_false false P h is = h
