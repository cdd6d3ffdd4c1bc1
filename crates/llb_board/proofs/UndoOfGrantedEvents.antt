-- An event that is granted, and the board before it: the event's undo leads back there, and can be done.
use Rattle.std.proofs.Common.{◌≡◌, ℕ, ◌+◌, ◌-◌, Bool, ◌||◌, List, [], ◌∷◌, ◌++◌, map, length, Option, Some, None, is_some, refl, sym, ap}
use Rattle.std.proofs.Common.{subst, unwrap_or, ◌∙◌, arith}
use Rattle.std.specs.Prelude.{Result, Ok, Err, slice_get, slice_set, nat_le, if◌then◌else◌}
use Rattle.llb_cache.specs.Caches.{Row}
use Rattle.llb_cache.specs.declared.key.Key.{Key}
use Rattle.llb_cache.specs.LeaseAdditions.{growth_at, unmade}
use Rattle.llb_loader.specs.Graph.{IsGraph}
use Rattle.llb_tree.specs.Tree.{empty_tree}
use Rattle.llb_execution.specs.SavedWorkspaces.{saved_of}
use Rattle.llb_execution.specs.ModelValues.{mounts_in}
use Rattle.llb_execution.proofs.RestoredWorkspaces.{puts_back}
use Rattle.llb_events.specs.declared.fault.VertexFault.{VertexFault}
use Rattle.llb_model.specs.Caches.{Instance, Hold, Distinct, content, put_all, trees_at}
use Rattle.llb_model.specs.Program.{Build, MicroStep, needs_of, step_on}
use Rattle.llb_model.specs.State.{Status, Waiting, Running, Settled, Execution, Idle, Runs, State, program_in, work_of, next_step, ending_from}
use Rattle.llb_model.specs.State.{held, places_for, begin_at, first_trees, places_at}
use Rattle.llb_events.specs.declared.event.Event.{Event}
use Rattle.llb_events.specs.declared.event.Event.TheVariants.{Claim, Step, Settle, Cancel}
use Rattle.llb_model.specs.Table.{worker_of, with_step, step_by, after_end, table}
use Rattle.llb_model.specs.TwoCacheModels.{store_of, put_each, written, rows_after}
use Rattle.llb_model.proofs.ClaimedInstances.{places_distinct, places_length, first_length}
use Rattle.llb_model.proofs.GrantedEvents.{Answer, IsStep, claim_places, claim_is, step_is, settle_is, cancel_is}
use Rattle.llb_model.proofs.Lists.{get_set_same, length_set, length_map}
use Rattle.llb_model.proofs.DistinctCacheKeys.{graph_distinct}
use Rattle.llb_model.proofs.ProgramPrefixes.{step_keeps}
use Rattle.llb_model.proofs.StoreWrites.{hold_all}
use Rattle.llb_model.proofs.HeldInstances.{held_are_there}
use Rattle.llb_board.specs.Faults.{faulted}
use Rattle.llb_board.specs.declared.fault.WalkFault.{WalkFault}
use Rattle.llb_board.specs.declared.fault.WalkFault.TheVariants as walk
use Rattle.llb_board.specs.OptionalLeases.{lent_of}
use Rattle.llb_board.specs.RunningWorkerSupplies.{needs_at}
use Rattle.llb_board.specs.WorkersKeptForUndo.{Back, Unclaim, Unstep, Resume, Displaced, walk_in, end_of, workers_before, with_view_back, step_before}
use Rattle.llb_board.specs.WorkersKeptForUndo.{rows_before}
use Rattle.llb_board.specs.WorkersKeptForUndo.{taken_at, MarksClaim, MarksStep, MarksEnd, MarksIn}
use Rattle.llb_board.specs.Vertices.{VerticesValue}
use Rattle.llb_board.specs.Workers.{WorkersValue}
use Rattle.llb_board.specs.declared.workers.undoing.End.{End}
use Rattle.llb_board.specs.declared.workers.undoing.End.TheVariants as end
use Rattle.llb_board.proofs.Lists.{set_back, front_again}
use Rattle.llb_model.proofs.TwoModelsOverwrites.{AreKeysApart}
use Rattle.llb_model.proofs.TwoModelsUndo.{keys_apart, keys_for, unwritten, unstepped}
use Rattle.llb_board.specs.BoardValue.{BoardValue, Replays, seen, after_event, recorded}
use Rattle.llb_board.specs.UndoableEvents.{told_as, walk_of, statuses_before, undone, event_before, IsLast, StandsBehind, CanUndo}
use Rattle.llb_board.specs.declared.board.undoable_event.Reply as replied
use Rattle.llb_board.proofs.RulesGrantedByTable.{claim_done, step_done, settle_done, cancel_done}
use Rattle.llb_board.proofs.RecordedRunStates.{consistent, reached}
use Rattle.llb_board.proofs.UndoCorrectness.{distinct_needs}
use Rattle.llb_model.proofs.ConstructorEqualities.{runs_inside}

-- ---- what `walk` returns

told_inside : {x y : BoardValue × replied.Reply} → ◌≡◌ {A = Result (BoardValue × replied.Reply) WalkFault} (Ok x) (Ok y) → x ≡ y
told_inside e = cc

-- an event that is granted, with what it gives
pub record Granted (b n : BoardValue) (e : Event) : Type 0 where
  pub answer : Answer
  pub grants : table b.build b.state e ≡ Some answer
  pub is : n ≡ after_event b e answer.0

told_of : {F : Type 0} (b n : BoardValue) (e : Event) (wrap : F → WalkFault) (answer : Result Answer F) (r : replied.Reply)
    → ((a : Answer) → answer ≡ Ok a → table b.build b.state e ≡ Some a)
    → told_as wrap (recorded b e answer) ≡ Ok (n, r) → Granted b n e
told_of b n e wrap (Ok (s, reply)) r done is = record { answer = (s, reply); grants = done (s, reply) refl; is = ap (λ p. p.0) (sym (told_inside is)) }
told_of b n e wrap (Err cause) r done is = absurd cc

pub granted : (b n : BoardValue) (e : Event) (r : replied.Reply) → walk_of b e ≡ Ok (n, r) → Granted b n e
granted b n (Claim w v) r is = told_of b n (Claim w v) walk.Claim _ r (claim_done b.build b.state w v) is
granted b n (Step w) r is = told_of b n (Step w) walk.Step _ r (step_done b.build b.state w) is
granted b n (Settle w) r is = told_of b n (Settle w) walk.Settle _ r (settle_done b.build b.state w) is
granted b n (Cancel w) r is = told_of b n (Cancel w) walk.Cancel _ r (cancel_done b.build b.state w) is

-- ---- back to the board before

-- the parts of the board are those before the event
record LeadsBack (u : Displaced) (b : BoardValue) (e : Event) (s : State) : Type 0 where
  statuses : statuses_before u.back s.statuses ≡ b.state.statuses
  workers : workers_before u.back s.workers ≡ b.state.workers
  store : store_of b.rows ≡ b.state.store
  rows : rows_before u.back s.workers (rows_after b.rows s (worker_of e)) ≡ b.rows

leads_back : (u : Displaced) (b : BoardValue) (e : Event) (s : State) → LeadsBack u b e s → undone u (after_event b e s) ≡ b
leads_back u b e s to =
    let store = ap store_of to.rows ∙ to.store in
    λ i. record {
      build = b.build;
      opening = b.opening;
      first = b.first;
      state = record { statuses = to.statuses i; workers = to.workers i; store = store i };
      rows = to.rows i;
      events = front_again b.events e i;
    }

-- an event that is granted is the last of the record after it
last_of : (u : Displaced) (b : BoardValue) (k : Back) (a : Answer) → table b.build b.state (event_before k) ≡ Some a → u.back ≡ k
    → undone u (after_event b (event_before k) a.0) ≡ b → IsLast u (after_event b (event_before k) a.0)
last_of u b k a grants same is = record {
  reply = a.1;
  gives = (λ i. table b.build (is i).state (event_before (same i))) ∙ grants;
  events = λ i. (sym is i).events ++ event_before (sym same i) ∷ [];
}

can_undo : (u : Displaced) (b : BoardValue) (k : Back) (a : Answer) → Replays b → table b.build b.state (event_before k) ≡ Some a
    → undone u (after_event b (event_before k) a.0) ≡ b → u.back ≡ k → StandsBehind k (after_event b (event_before k) a.0)
    → CanUndo u (after_event b (event_before k) a.0)
can_undo u b k a here grants is same stands =
    let n = after_event b (event_before k) a.0 in
    record {
      replays = subst Replays (sym is) here;
      last = last_of u b k a grants same is;
      stands = subst (λ (x : Back). StandsBehind x n) (sym same) stands;
    }

-- what an undo of an event does
pub record Undoes (b : BoardValue) (e : Event) (s : State) (u : Displaced) : Type 0 where
  pub back : undone u (after_event b e s) ≡ b
  pub can : CanUndo u (after_event b e s)

-- ---- of a step, in parts

-- the micro-step of an execution that is known
record StepsBy (b : Build) (s : State) (w : ℕ) (a : Answer) (x : Execution) : Type 0 where
  step : MicroStep
  next : next_step (program_in b x).steps x ≡ Some step
  gives : a ≡ step_by s w x step (step_on x.done (Some step) (work_of s x))

steps_by : (b : Build) (s : State) (w : ℕ) (a : Answer) (x : Execution) → slice_get s.workers w ≡ Some (Runs x) → IsStep b s w a → StepsBy b s w a x
steps_by b s w a x runs c =
    subst (StepsBy b s w a) (runs_inside (sym c.there ∙ runs)) (record { step = c.step; next = c.next; gives = c.gives })

-- an execution with a next micro-step has not faulted
clean_by : (fault : Option VertexFault) (past : Bool) (o : Option MicroStep) (m : MicroStep) → (if (is_some fault || past) then None else o) ≡ Some m
    → fault ≡ None
clean_by None past o m e = refl
clean_by (Some f) past o m e = absurd cc

clean : (steps : List MicroStep) (x : Execution) (m : MicroStep) → next_step steps x ≡ Some m → x.fault ≡ None
clean steps x m e = clean_by x.fault (nat_le (length steps) x.done) (slice_get steps x.done) m e

view_back : (s : State) (x : Execution) (m : MicroStep) → x.fault ≡ None → with_view_back (saved_of x.own) (with_step x (step_on x.done (Some m) (work_of s
    x))) ≡ x
view_back s x m none =
    let n : x.done + 1 - 1 ≡ x.done = omega arith in
    λ i. record {
      vertex = x.vertex;
      done = n i;
      fault = sym none i;
      own = puts_back x.own x.done (Some m) (trees_at s.store x.places) i;
      places = x.places;
    }

-- ---- of a settle or a cancel, in parts

-- the worker leaves the vertex, which has another state then
record LeavesBy (s : State) (w : ℕ) (a : Answer) (x : Execution) : Type 0 where
  status : Status
  gives : a.0 ≡ after_end s w x.vertex status

leaves_by : (b : Build) (s : State) (e : End) (w : ℕ) (a : Answer) (x : Execution) → slice_get s.workers w ≡ Some (Runs x)
    → table b s (end_of e w) ≡ Some a → LeavesBy s w a x
leaves_by b s end.Settle w a x runs given =
    let c = settle_is b s w a given in
    subst (LeavesBy s w a) (runs_inside (sym c.there ∙ runs))
    (record { status = Settled (ending_from (program_in b c.x) c.x); gives = ap (λ (t : Answer). t.0) c.gives })
leaves_by b s end.Cancel w a x runs given =
    let c = cancel_is b s w a given in
    subst (LeavesBy s w a) (runs_inside (sym c.there ∙ runs)) (record { status = Waiting; gives = ap (λ (t : Answer). t.0) c.gives })

worker_ends : (e : End) (w : ℕ) → worker_of (end_of e w) ≡ w
worker_ends end.Settle w = refl
worker_ends end.Cancel w = refl

-- ---- the board before

module _ (vs : VerticesValue) (first : List Row) (ws : WorkersValue) (es : List Event) (graph : IsGraph vs.build.graph) where
  abbrev b : BoardValue
  b = seen vs first ws es

  -- ---- of a claim

  claim_back : (w v : ℕ) (a : Answer) (u : Displaced) → Replays b → table b.build b.state (Claim w v) ≡ Some a → MarksClaim vs ws w v u
      → Undoes b (Claim w v) a.0 u
  claim_back w v a u here grants marks =
      let c = claim_is b.build b.state w v a grants in
      let s = b.state in
      let needs = needs_of c.start.vertex in
      let ps = claim_places s c.start in
      let work = begin_at b.build s.store c.start ps in
      let z : Execution = record { vertex = v; done = 0; fault = None; own = work.own; places = ps } in
      let k = Unclaim w v (map (growth_at b.rows) (taken_at vs ws v)) in
      let differ = graph_distinct b.build graph v c.start.vertex c.begins.there in
      let count = places_length (held s.workers) needs in
      let taken : taken_at vs ws v ≡ ps = ap (λ o. places_for (held s.workers) (needs_at o)) c.begins.there in
      let runs : slice_get a.0.workers w ≡ Some (Runs z)
      = ap (λ (t : Answer). slice_get t.0.workers w) c.gives ∙ get_set_same s.workers w (Runs z) Idle c.idle in
      let firsts = first_trees (store_of b.rows) c.start.inputs ps needs in
      let apart : AreKeysApart ps = keys_apart ps (subst (λ (ks : List Key). Distinct ks) (sym (keys_for (held s.workers) needs)) differ) in
      let hold : Hold (put_all (store_of b.rows) ps firsts) ps firsts =
      hold_all (store_of b.rows) ps firsts (places_distinct (held s.workers) needs differ) (first_length (store_of b.rows) c.start.inputs ps needs count) in
      let rows : rows_before k a.0.workers (rows_after b.rows a.0 w) ≡ b.rows =
      ap (λ o. unmade (written a.0.store b.rows (places_at o)) (places_at o) (map (growth_at b.rows) (taken_at vs ws v))) runs
      ∙ ap (λ (qs : List Instance). unmade (written a.0.store b.rows ps) ps (map (growth_at b.rows) qs)) taken
      ∙ ap (λ (t : Answer). unmade (written t.0.store b.rows ps) ps (map (growth_at b.rows) ps)) c.gives
      ∙ unwritten (put_all (store_of b.rows) ps firsts) b.rows c.start.inputs ps needs apart count hold in
      let is = leads_back u b (Claim w v) a.0 (record {
        statuses = ap (λ k. statuses_before k a.0.statuses) marks.back
            ∙ ap (λ (t : Answer). slice_set t.0.statuses v Waiting) c.gives ∙ set_back s.statuses v (Running w) Waiting c.begins.waits;
        workers = ap (λ k. workers_before k a.0.workers) marks.back
            ∙ ap (λ (t : Answer). slice_set t.0.workers w Idle) c.gives ∙ set_back s.workers w (Runs z) Idle c.idle;
        store = refl;
        rows = ap (λ k. rows_before k a.0.workers (rows_after b.rows a.0 w)) marks.back ∙ rows;
      }) in
      record {
        back = is;
        can = can_undo u b k a here grants is marks.back
            (record { runs = ap (λ (t : Answer). slice_get t.0.statuses v) c.gives ∙ get_set_same s.statuses v (Running w) Waiting c.begins.waits });
      }

  -- ---- of a step

  step_back : (w : ℕ) (a : Answer) (u : Displaced) → Replays b → table b.build b.state (Step w) ≡ Some a → MarksStep vs ws w u → Undoes b (Step w) a.0 u
  step_back w a u here grants marks =
      let s = b.state in
      let x = marks.x in
      let c = steps_by b.build s w a x marks.runs (step_is b.build s w a grants) in
      let left = step_on x.done (Some c.step) (work_of s x) in
      let z = with_step x left in
      let saved = saved_of x.own in
      let was = trees_at (store_of b.rows) x.places in
      let k = Unstep w saved was in
      let runs : slice_get a.0.workers w ≡ Some (Runs z) = ap (λ (t : Answer). slice_get t.0.workers w) c.gives
      ∙ get_set_same s.workers w (Runs z) (Runs x) marks.runs in
      let again : step_before saved (slice_get a.0.workers w) ≡ Runs x
      = ap (step_before saved) runs ∙ ap (λ y. Runs y) (view_back s x c.step (clean (program_in b.build x).steps x c.step c.next)) in
      let there = held_are_there b.build (graph_distinct b.build graph) s (reached b here) w x marks.runs in
      let apart : AreKeysApart x.places = keys_apart x.places (subst (λ (ks : List Key). Distinct ks) (sym marks.keys)
      (distinct_needs b.build (graph_distinct b.build graph) x.vertex (slice_get b.build.graph.vertices x.vertex) refl)) in
      let count : length left.work.trees ≡ length x.places
      = step_keeps x.done (Some c.step) (work_of s x) ∙ length_map (λ p. unwrap_or (content s.store p) empty_tree) x.places in
      let rows : rows_before k a.0.workers (rows_after b.rows a.0 w) ≡ b.rows =
      ap (λ o. put_each (written a.0.store b.rows (places_at o)) (places_at o) was) runs
      ∙ ap (λ (t : Answer). put_each (written t.0.store b.rows x.places) x.places was) c.gives
      ∙ unstepped b.rows x.places left.work.trees there.1.0 there.0 apart count there.1.1 in
      let is = leads_back u b (Step w) a.0 (record {
        statuses = ap (λ k. statuses_before k a.0.statuses) marks.back ∙ ap (λ (t : Answer). t.0.statuses) c.gives;
        workers = ap (λ k. workers_before k a.0.workers) marks.back
            ∙ ap (slice_set a.0.workers w) again ∙ ap (λ (t : Answer). slice_set t.0.workers w (Runs x)) c.gives
            ∙ set_back s.workers w (Runs z) (Runs x) marks.runs;
        store = refl;
        rows = ap (λ k. rows_before k a.0.workers (rows_after b.rows a.0 w)) marks.back ∙ rows;
      }) in
      record {
        back = is;
        can = can_undo u b k a here grants is marks.back
            (record {
              x = z;
              runs = runs;
              mounts = ap mounts_in (puts_back x.own x.done (Some c.step) (trees_at s.store x.places)) ∙ marks.mounts;
              count = length_map (λ p. unwrap_or (content (store_of b.rows) p) empty_tree) x.places;
              keys = marks.keys;
            });
      }

  -- ---- of a settle or a cancel

  end_back : (e : End) (w : ℕ) (a : Answer) (u : Displaced) → Replays b → table b.build b.state (end_of e w) ≡ Some a → MarksEnd vs ws e w u
      → Undoes b (end_of e w) a.0 u
  end_back e w a u here grants marks =
      let s = b.state in
      let x = marks.left.execution in
      let c = leaves_by b.build s e w a x marks.runs grants in
      let ran = (consistent b here).working w x marks.runs in
      let k = Resume e w marks.left (lent_of x.places (length s.workers + 1)) in
      let idle : slice_get a.0.workers w ≡ Some Idle = ap (λ (t : State). slice_get t.workers w) c.gives ∙ get_set_same s.workers w Idle (Runs x) marks.runs in
      let many : length a.0.workers ≡ length s.workers = ap (λ (t : State). length t.workers) c.gives ∙ length_set s.workers w Idle in
      let is = leads_back u b (end_of e w) a.0 (record {
        statuses = ap (λ k. statuses_before k a.0.statuses) marks.back
            ∙ ap (λ (t : State). slice_set t.statuses x.vertex (Running w)) c.gives ∙ set_back s.statuses x.vertex c.status (Running w) ran;
        workers = ap (λ k. workers_before k a.0.workers) marks.back
            ∙ ap (λ (t : State). slice_set t.workers w (Runs x)) c.gives ∙ set_back s.workers w Idle (Runs x) marks.runs;
        store = refl;
        rows = ap (λ k. rows_before k a.0.workers (rows_after b.rows a.0 (worker_of (end_of e w)))) marks.back
            ∙ ap (λ v. rows_after b.rows a.0 v) (worker_ends e w) ∙ ap (λ o. written a.0.store b.rows (places_at o)) idle;
      }) in
      record {
        back = is;
        can = can_undo u b k a here grants is marks.back (record {
          idle = idle;
          supplies = marks.supplies;
          keys = marks.keys;
          ready = ap (λ n. lent_of x.places (n + 1)) (sym many);
        });
      }

  -- ---- of any event

  undoes : (e : Event) (a : Answer) (u : Displaced) → Replays b → table b.build b.state e ≡ Some a → MarksIn vs ws e u → Undoes b e a.0 u
  undoes (Claim w v) a u here grants marks = claim_back w v a u here grants marks
  undoes (Step w) a u here grants marks = step_back w a u here grants marks
  undoes (Settle w) a u here grants marks = end_back end.Settle w a u here grants marks
  undoes (Cancel w) a u here grants marks = end_back end.Cancel w a u here grants marks

  -- what was kept before a granted event leads back from the board after it to the one before
  pub walk_back : (n : BoardValue) (e : Event) (r : replied.Reply) (u : Displaced) → Replays b → walk_of b e ≡ Ok (n, r) → MarksIn vs ws e u → undone u n ≡ b
  walk_back n e r u here is marks =
      let g = granted b n e r is in
      ap (undone u) g.is ∙ (undoes e g.answer u here g.grants marks).back

  -- a granted event can be undone: the board before replays its record, and worker and vertex are as the event left them
  pub walk_can : (n : BoardValue) (e : Event) (r : replied.Reply) (u : Displaced) → Replays b → walk_of b e ≡ Ok (n, r) → MarksIn vs ws e u → CanUndo u n
  walk_can n e r u here is marks =
      let g = granted b n e r is in
      subst (CanUndo u) (sym g.is) (undoes e g.answer u here g.grants marks).can

-- an event of which what to put back is refused is refused itself
pub walk_refused : (vs : VerticesValue) (first : List Row) (ws : WorkersValue) (es : List Event) (e : Event) (f : WalkFault) → walk_in vs ws e ≡ Err f
    → walk_of (seen vs first ws es) e ≡ Err f
walk_refused vs first ws es e f is = go e is
  where
    told_err : {F : Type 0} (e : Event) (wrap : F → WalkFault) (r : Result Answer F) → faulted wrap r ≡ Err f
        → told_as wrap (recorded (seen vs first ws es) e r) ≡ Err f
    told_err e wrap (Ok a) is = absurd cc
    told_err e wrap (Err cause) is = let same : ◌≡◌ {A = WalkFault} (wrap cause) f = cc in ap (λ x. Err x) same

    go : (e : Event) → walk_in vs ws e ≡ Err f → walk_of (seen vs first ws es) e ≡ Err f
    go (Claim w v) is = told_err (Claim w v) walk.Claim _ is
    go (Step w) is = told_err (Step w) walk.Step _ is
    go (Settle w) is = told_err (Settle w) walk.Settle _ is
    go (Cancel w) is = told_err (Cancel w) walk.Cancel _ is
