-- An event is taken back: the board does what the definitions say, and keeps its invariant.
use Rattle.std.proofs.Common.{◌≡◌, ℕ, ◌+◌, ◌<◌, List, [], ◌∷◌, ◌++◌, map, length, Option, Some, None, refl, sym, ap, subst, ◌∙◌, arith}
use Rattle.std.specs.Prelude.{slice_get, slice_set}
use Rattle.std.proofs.lemmas.Option.{slice_get_within}
use Rattle.llb_cache.specs.Caches.{Row}
use Rattle.llb_cache.specs.declared.key.Key.{Key}
use Rattle.llb_tree.specs.Tree.{TreeMap}
use Rattle.llb_execution.specs.SavedWorkspaces.{Saved, put_back}
use Rattle.llb_execution.specs.ModelValues.{mounts_in}
use Rattle.llb_execution.proofs.MicroStepResults.{seen_so}
use Rattle.llb_loader.specs.Graph.{IsGraph}
use Rattle.llb_loader.specs.declared.graph.Vertex.{Vertex}
use Rattle.llb_model.specs.Table.{cancel_reply, Reply, with_step, table}
use Rattle.llb_model.specs.Caches.{Instance, Distinct, trees_at}
use Rattle.llb_model.specs.TwoCacheModels.{store_of}
use Rattle.llb_model.specs.WholeRunLaws.{HasDistinctNeeds}
use Rattle.llb_model.specs.Program.{Build, key_of, program_at, step_on}
use Rattle.llb_model.specs.EventBounds.{events_of, cancel_counts}
use Rattle.llb_model.specs.Run.{run}
use Rattle.llb_model.specs.State.{State, opening, Status, Running, Execution, WorkerStatus, Idle, Runs, work_of}
use Rattle.llb_events.specs.declared.event.Event.{Event}
use Rattle.llb_events.specs.declared.event.Event.TheVariants.{Claim, Step, Settle, Cancel}
use Rattle.llb_model.proofs.Cancels.{event_returns}
use Rattle.llb_model.proofs.GrantedEvents.{Answer, step_is, cancel_is}
use Rattle.llb_model.proofs.Lists.{inside, get_set_same, length_set, length_map}
use Rattle.llb_model.proofs.DistinctCacheKeys.{graph_distinct}
use Rattle.llb_model.proofs.RecordRoomBalance.{IsRoomy}
use Rattle.llb_model.proofs.RunExtension.{run_more}
use Rattle.llb_model.proofs.ExclusiveHolders.{held_once}
use Rattle.llb_model.proofs.HeldInstances.{held_are_there}
use Rattle.llb_board.specs.RunningWorkerSupplies.{Supplies, needed, needs_at, supplies_for}
use Rattle.llb_board.specs.WorkersKeptForUndo.{Back, Unclaim, Unstep, Resume, Displaced, workers_before, with_view_back, step_before, rows_before}
use Rattle.llb_board.specs.WorkersKeptForUndo.{supplies_before}
use Rattle.llb_board.specs.WorkersKeptForUndo.{change_in, IsBehind, CanPutBack}
use Rattle.llb_board.specs.Vertices.{VerticesValue, IsWhole}
use Rattle.llb_board.specs.Workers.{WorkersValue}
use Rattle.llb_board.specs.declared.workers.undoing.End.TheVariants as end
use Rattle.llb_board.proofs.Lists.{map_set, set_same, get_map}
use Rattle.llb_board.proofs.CachesOfViews.{few_needs}
use Rattle.llb_model.proofs.TwoModelsUndo.{within_held}
use Rattle.llb_board.specs.BoardValue.{BoardValue, Replays, opening_with, seen}
use Rattle.llb_board.specs.BoardInvariant.{IsBoard}
use Rattle.llb_board.specs.History.{Space, front, last_of, space_back}
use Rattle.llb_board.specs.UndoableEvents.{statuses_before, undone, event_before, CanUndo}
use Rattle.llb_board.proofs.InvariantPreservation.{waits_whole, runs_whole, has_vertex}
use Rattle.llb_board.proofs.LastRecordedEvent.{last_is}
use Rattle.llb_board.proofs.RecordedRunStates.{consistent, reached}
use Rattle.llb_board.proofs.RecordRoomAndCancels.{SpaceBefore, space_stayed, space_unclaimed, space_uncancelled}
use Rattle.llb_model.proofs.ConstructorEqualities.{runs_inside}

-- ---- the workers as the event left them

-- a view that is put back has as many mounts, since the micro-step that is taken back kept them
unstepped_mounts : (b : BoardValue) (w : ℕ) (saved : Saved) (ts : List TreeMap) (x : Execution) → CanUndo (record { back = Unstep w saved ts }) b
    → slice_get b.state.workers w ≡ Some (Runs x)
    → mounts_in (put_back saved x.own) ≡ mounts_in x.own
unstepped_mounts b w saved ts x can runs =
    let s = (undone (record { back = Unstep w saved ts }) b).state in
    let c = step_is b.build s w _ can.last.gives in
    let y = with_view_back saved x in
    let before : slice_get s.workers w ≡ Some (Runs y)
    = get_set_same b.state.workers w (step_before saved (slice_get b.state.workers w)) (Runs x) runs ∙ ap (λ a. Some (step_before saved a)) runs in
    let is : c.x ≡ y = runs_inside (sym c.there ∙ before) in
    let left = step_on c.x.done (Some c.step) (work_of s c.x) in
    let after : slice_get b.state.workers w ≡ Some (Runs (with_step c.x left))
    = ap (λ (a : Answer). slice_get a.0.workers w) c.gives ∙ get_set_same s.workers w (Runs (with_step c.x left)) (Runs c.x) c.there in
    let own : x ≡ with_step c.x left = runs_inside (sym runs ∙ after) in
    sym (ap (λ (z : Execution). mounts_in z.own) own ∙ (seen_so c.x.done c.step c.x.own (trees_at s.store c.x.places)).mounts
    ∙ ap (λ (z : Execution). mounts_in z.own) is)

-- the keys of a vertex's needs differ
pub distinct_needs : (b : Build) → HasDistinctNeeds b → (v : ℕ) (o : Option Vertex) → slice_get b.graph.vertices v ≡ o → Distinct (map key_of (needs_at o))
distinct_needs b differ v None at = tt
distinct_needs b differ v (Some y) at = differ v y at

behind : (b : BoardValue) (k : Back) → IsGraph b.build.graph → Replays b → CanUndo (record { back = k }) b → IsBehind k b.state.workers
behind b (Unclaim w v gs) graph here can =
    let r = (consistent b here).running v w can.stands.runs in
    slice_get_within b.state.workers w (Runs r.0) r.1
behind b (Unstep w saved ts) graph here can = record {
  x = can.stands.x;
  runs = can.stands.runs;
  mounts = unstepped_mounts b w saved ts can.stands.x can can.stands.runs;
  count = can.stands.count;
  few =
      let v = slice_get b.build.graph.vertices can.stands.x.vertex in
      let many : length can.stands.x.places ≡ length (needs_at v)
      = sym (length_map (λ (p : Instance). p.key) can.stands.x.places) ∙ ap length can.stands.keys ∙ length_map key_of (needs_at v) in
      omega (arith, can.stands.count, many, few_needs b.build.graph can.stands.x.vertex graph);
}
behind b (Resume e w left lent) graph here can = record {
  idle = can.stands.idle;
  keys = subst (λ (ks : List Key). Distinct ks) (sym (can.stands.keys ∙ ap (λ (s : Supplies). s.keys) can.stands.supplies))
      (distinct_needs b.build (graph_distinct b.build graph) left.execution.vertex (slice_get b.build.graph.vertices left.execution.vertex) refl);
  ready = can.stands.ready;
}

-- what an event displaced can be put back: the workers before it hold instances that are there, and exclusively where their keys say so
pub can_put_back : (vs : VerticesValue) (first : List Row) (ws : WorkersValue) (es : List Event) (u : Displaced) → IsGraph vs.build.graph
    → Replays (seen vs first ws es) → CanUndo u (seen vs first ws es) → CanPutBack u ws
can_put_back vs first ws es u graph here can =
    let n = undone u (seen vs first ws es) in
    let at = reached n can.replays in
    record {
      behind = behind (seen vs first ws es) u.back graph here can;
      there = λ w x p runs has.
          let held = held_are_there vs.build (graph_distinct vs.build graph) n.state at w x runs in
          within_held n.rows x.places held.1.0 held.1.1 p has;
      once = λ w v x y p. held_once vs.build n.state at w v x y p;
    }

-- ---- the vertex that has another status

change_inside : {v u : ℕ} {s t : Status} → ◌≡◌ {A = Option (ℕ × Status)} (Some (v, s)) (Some (u, t)) → (v ≡ u) × (s ≡ t)
change_inside e = (ap (λ (p : ℕ × Status). p.0) (inside e), ap (λ (p : ℕ × Status). p.1) (inside e))

pub changed : (k : Back) (statuses : List Status) (v : ℕ) (s : Status) → Some (v, s) ≡ change_in k → statuses_before k statuses ≡ slice_set statuses v s
changed (Unclaim w u gs) statuses v s is = let h = change_inside (sym is) in λ i. slice_set statuses (h.0 i) (h.1 i)
changed (Unstep w saved ts) statuses v s is = absurd cc
changed (Resume e w left lent) statuses v s is = let h = change_inside (sym is) in λ i. slice_set statuses (h.0 i) (h.1 i)

pub unchanged : (k : Back) (statuses : List Status) → None ≡ change_in k → statuses_before k statuses ≡ statuses
unchanged (Unclaim w u gs) statuses is = absurd cc
unchanged (Unstep w saved ts) statuses is = refl
unchanged (Resume e w left lent) statuses is = absurd cc

-- the status that a vertex gets back has no trees
pub change_whole : (k : Back) (o : Option Vertex) (v : ℕ) (s : Status) → Some (v, s) ≡ change_in k → IsWhole o s
change_whole (Unclaim w u gs) o v s is = subst (IsWhole o) (change_inside (sym is)).1 (waits_whole o)
change_whole (Unstep w saved ts) o v s is = absurd cc
change_whole (Resume e w left lent) o v s is = subst (IsWhole o) (change_inside (sym is)).1 (runs_whole o w)

-- the vertex that gets a former status back is a vertex of the graph
pub change_low : (b : BoardValue) (k : Back) (v : ℕ) (s : Status) → CanUndo (record { back = k }) b → Some (v, s) ≡ change_in k
    → v < length b.state.statuses
change_low b (Unclaim w u gs) v s can is =
    let same = (change_inside (sym is)).0 in
    subst (λ n. n < length b.state.statuses) same (slice_get_within b.state.statuses u (Running w) can.stands.runs)
change_low b (Unstep w saved ts) v s can is = absurd cc
change_low b (Resume e w left lent) v s can is =
    let same = (change_inside (sym is)).0 in
    let m = undone (record { back = Resume e w left lent }) b in
    let runs : slice_get m.state.workers w ≡ Some (Runs left.execution) = get_set_same b.state.workers w (Runs left.execution) Idle can.stands.idle in
    let ran = (consistent m can.replays).working w left.execution runs in
    let low = slice_get_within m.state.statuses left.execution.vertex (Running w) ran in
    let count = length_set b.state.statuses left.execution.vertex (Running w) in
    subst (λ n. n < length b.state.statuses) same (omega (arith, low, count))

-- ---- the statuses and the workers after an undo

pub as_many : (k : Back) (workers : List WorkerStatus) → length (workers_before k workers) ≡ length workers
as_many (Unclaim w v gs) workers = length_set workers w Idle
as_many (Unstep w saved ts) workers = length_set workers w (step_before saved (slice_get workers w))
as_many (Resume e w left lent) workers = length_set workers w (Runs left.execution)

-- what an undo leaves of the statuses and of the workers
pub record Leaves (vs : VerticesValue) (ws us : WorkersValue) (old : List Status) (u : Displaced) : Type 0 where
  pub statuses : old ≡ statuses_before u.back vs.statuses
  pub workers : us.workers ≡ workers_before u.back ws.workers
  pub rows : us.rows ≡ rows_before u.back ws.workers ws.rows
  pub supplies : us.supplies ≡ supplies_before u.back ws.supplies

-- a board after an undo is seen as the board that `undone` defines
pub undone_is : (vs : VerticesValue) (first : List Row) (ws us : WorkersValue) (es : List Event) (old : List Status) (u : Displaced) → Leaves vs ws us old u
    → seen (record vs { statuses = old }) first us (front es) ≡ undone u (seen vs first ws es)
undone_is vs first ws us es old u leaves =
    let many : length us.workers ≡ length ws.workers = ap length leaves.workers ∙ as_many u.back ws.workers in
    let store = ap store_of leaves.rows in
    λ i. record {
      build = vs.build;
      opening = opening_with (many i) first;
      first = first;
      state = record { statuses = leaves.statuses i; workers = leaves.workers i; store = store i };
      rows = leaves.rows i;
      events = front es;
    }

-- each worker has the supplies of its vertex
fits_before : (b : BoardValue) (k : Back) (supplies : List Supplies) → CanUndo (record { back = k }) b
    → supplies ≡ map (needed b.build) b.state.workers
    → supplies_before k supplies ≡ map (needed b.build) (workers_before k b.state.workers)
fits_before b (Unclaim w v gs) supplies can fits =
    ap (λ l. slice_set l w (supplies_for None)) fits ∙ sym (map_set (needed b.build) b.state.workers w Idle)
fits_before b (Unstep w saved ts) supplies can fits =
    let ws = b.state.workers in
    let x = can.stands.x in
    fits
    ∙ sym (set_same (map (needed b.build) ws) w (needed b.build (Runs x)) (get_map (needed b.build) ws w (Runs x) can.stands.runs))
    ∙ sym (map_set (needed b.build) ws w (Runs (with_view_back saved x)))
    ∙ ap (λ a. map (needed b.build) (slice_set ws w (step_before saved a))) (sym can.stands.runs)
fits_before b (Resume e w left lent) supplies can fits =
    (λ i. slice_set (fits i) w (can.stands.supplies i)) ∙ sym (map_set (needed b.build) b.state.workers w (Runs left.execution))

-- ---- the record before

-- a record that can be taken back: what it was, with its last event, and the room and the counts by its replies
pub record EndsWith (b : BoardValue) (space : Space) (u : Displaced) : Type 0 where
  pub replies : List Reply
  pub leads : run b.build (opening b.build b.opening) (front b.events) ≡ Some ((undone u b).state, replies)
  pub reply : Reply
  pub gives : table b.build (undone u b).state (event_before u.back) ≡ Some (b.state, reply)
  pub counted : space.cancels ≡ cancel_counts b.build (replies ++ reply ∷ [])
  pub roomy : IsRoomy b.build b.state (replies ++ reply ∷ []) space.room

replies_inside : {s t : State} {rs qs : List Reply} → ◌≡◌ {A = Option (State × List Reply)} (Some (s, rs)) (Some (t, qs)) → rs ≡ qs
replies_inside e = ap (λ (a : State × List Reply). a.1) (inside e)

pub ends_with : (b : BoardValue) (ws : WorkersValue) (space : Space) (u : Displaced) → IsBoard b ws space → CanUndo u b → EndsWith b space u
ends_with b ws space u kept can =
    let o = opening b.build b.opening in
    let rs = can.replays.replies in
    let r = can.last.reply in
    let all : run b.build o b.events ≡ Some (b.state, rs ++ r ∷ [])
    = ap (run b.build o) can.last.events
    ∙ run_more b.build o (undone u b).state b.state (front b.events) rs (event_before u.back) r can.replays.leads can.last.gives in
    let same : kept.replays.replies ≡ rs ++ r ∷ [] = replies_inside (sym kept.replays.leads ∙ all) in
    record {
      replies = rs;
      leads = can.replays.leads;
      reply = r;
      gives = can.last.gives;
      counted = kept.counted ∙ ap (cancel_counts b.build) same;
      roomy = subst (λ qs. IsRoomy b.build b.state qs space.room) same kept.room;
    }

-- the room and the counts before the event, where a vertex has another status than before
pub space_changed : (b : BoardValue) (space : Space) (k : Back) (v n : ℕ) (s : Status) → Replays b
    → (ends : EndsWith b space (record { back = k })) → CanUndo (record { back = k }) b
    → Some (v, s) ≡ change_in k → n ≡ length (program_at (slice_get b.build.graph.vertices v)).steps
    → SpaceBefore b.build ends.replies (event_before k) space (space_back (last_of b.events) v (n + 2) space)
space_changed b space (Unclaim w u gs) v n s here ends can is counts =
    let same = (change_inside (sym is)).0 in
    let x = has_vertex b here u (Running w) can.stands.runs in
    let many : n + 2 ≡ events_of x.0
    = ap (λ m. m + 2) counts ∙ ap (λ m. length (program_at (slice_get b.build.graph.vertices m)).steps + 2) (sym same)
    ∙ ap (λ (y : Option Vertex). length (program_at y).steps + 2) x.1 in
    subst (λ e. SpaceBefore b.build ends.replies (Claim w u) space (space_back e v (n + 2) space))
    (sym (last_is b.events _ (Claim w u) can.last.events))
    (subst (λ m. SpaceBefore b.build ends.replies (Claim w u) space (space_back (Some (Claim w u)) m (n + 2) space)) same
    (space_unclaimed b.build _ w u (n + 2) x.0 _ ends.replies space x.1 many ends.gives ends.counted))
space_changed b space (Unstep w saved ts) v n s here ends can is counts = absurd cc
space_changed b space (Resume end.Settle w left lent) v n s here ends can is counts =
    subst (λ e. SpaceBefore b.build ends.replies (Settle w) space (space_back e v (n + 2) space))
    (sym (last_is b.events _ (Settle w) can.last.events))
    (space_stayed b.build _ (Settle w) _ ends.replies space (λ u e. cc) refl ends.gives ends.counted)
space_changed b space (Resume end.Cancel w left lent) v n s here ends can is counts =
    let same = (change_inside (sym is)).0 in
    let m = undone (record { back = Resume end.Cancel w left lent }) b in
    let x = left.execution in
    let runs : slice_get m.state.workers w ≡ Some (Runs x) = get_set_same b.state.workers w (Runs x) Idle can.stands.idle in
    let y = has_vertex m can.replays x.vertex (Running w) ((consistent m can.replays).working w x runs) in
    let c = cancel_is b.build m.state w _ ends.gives in
    let ran : c.x ≡ x = runs_inside (sym c.there ∙ runs) in
    let reply : ends.reply ≡ cancel_reply x.vertex x.done = ap (λ (t : Answer). t.1) c.gives ∙ (λ i. cancel_reply (ran i).vertex (ran i).done) in
    subst (λ e. SpaceBefore b.build ends.replies (Cancel w) space (space_back e v (n + 2) space))
    (sym (last_is b.events _ (Cancel w) can.last.events))
    (subst (λ m. SpaceBefore b.build ends.replies (Cancel w) space (space_back (Some (Cancel w)) m (n + 2) space)) same
    (space_uncancelled b.build w x.vertex x.done y.0 ends.replies space y.1
    (subst (λ r. space.cancels ≡ cancel_counts b.build (ends.replies ++ r ∷ [])) reply ends.counted)))

-- the room and the counts before the event, where no vertex has another status than before
pub space_unchanged : (b : BoardValue) (space : Space) (k : Back) (v n : ℕ) → (ends : EndsWith b space (record { back = k }))
    → CanUndo (record { back = k }) b
    → None ≡ change_in k
    → SpaceBefore b.build ends.replies (event_before k) space (space_back (last_of b.events) v n space)
space_unchanged b space (Unclaim w u gs) v n ends can is = absurd cc
space_unchanged b space (Unstep w saved ts) v n ends can is =
    subst (λ e. SpaceBefore b.build ends.replies (Step w) space (space_back e v n space)) (sym (last_is b.events _ (Step w) can.last.events))
    (space_stayed b.build _ (Step w) _ ends.replies space (λ u e. cc) refl ends.gives ends.counted)
space_unchanged b space (Resume e w left lent) v n ends can is = absurd cc

-- ---- the invariant

-- what an undo leaves has the board's invariant, if the room and the counts are what they were
pub undo_keeps : (vs : VerticesValue) (first : List Row) (ws us : WorkersValue) (es : List Event) (space more : Space) (old : List Status) (u : Displaced)
    → IsBoard (seen vs first ws es) ws space
    → (can : CanUndo u (seen vs first ws es)) → (ends : EndsWith (seen vs first ws es) space u)
    → SpaceBefore vs.build ends.replies (event_before u.back) space more
    → Leaves vs ws us old u → IsBoard (seen (record vs { statuses = old }) first us (front es)) us more
undo_keeps vs first ws us es space more old u kept can ends before leaves =
    let b = seen vs first ws es in
    let n = undone u b in
    let replays : Replays n = record { replies = ends.replies; leads = ends.leads; keeps = can.replays.keeps } in
    let returned = event_returns vs.build n.state ends.replies space.room (event_before u.back) (b.state, ends.reply)
    (consistent n replays) ends.gives ends.roomy in
    let here : IsBoard n us more = record {
      replays = replays;
      room = subst (IsRoomy vs.build n.state ends.replies) (sym before.room) returned.1;
      counted = before.counted;
      fits = leaves.supplies ∙ fits_before b u.back ws.supplies can kept.fits ∙ ap (map (needed vs.build)) (sym leaves.workers);
    } in
    subst (λ (s : BoardValue). IsBoard s us more) (sym (undone_is vs first ws us es old u leaves)) here
