-- What the board's type keeps, as an event is done.
use Rattle.std.proofs.Common.{◌≡◌, ℕ, ◌+◌, ◌<◌, ◌≤◌, List, [], ◌∷◌, ◌++◌, length, sym, ap, subst, ◌∙◌, arith, get_or}
use Rattle.std.specs.Prelude.{Option, Some, None, Result, Ok, option_map, slice_get, slice_set}
use Rattle.std.proofs.lemmas.List.Sums.{fold-append}
use Rattle.std.proofs.lemmas.Option.{slice_get_within}
use Rattle.llb_cache.specs.Caches.{Row}
use Rattle.llb_loader.specs.declared.graph.Vertex.{Vertex}
use Rattle.llb_model.specs.Program.{Build}
use Rattle.llb_model.specs.TwoCacheModels.{store_of, written, rows_after}
use Rattle.llb_model.specs.State.{Status, Waiting, Running, WorkerStatus, Idle, State, opening, places_at}
use Rattle.llb_events.specs.declared.event.Event.{Event}
use Rattle.llb_model.specs.Table.{Reply, worker_of, after_end, table}
use Rattle.llb_model.specs.Run.{run}
use Rattle.llb_model.specs.EventBounds.{room_taken}
use Rattle.llb_model.proofs.Lists.{get_set_same, get_within, length_set}
use Rattle.llb_model.proofs.GrantedEvents.{Answer}
use Rattle.llb_model.proofs.RunExtension.{run_more}
use Rattle.llb_model.proofs.RecordRoomBalance.{IsRoomy, room_for_event, event_roomy}
use Rattle.llb_model.proofs.Cancels.{counts_length, cancels_few}
use Rattle.llb_board.specs.Vertices.{VerticesValue, IsWhole}
use Rattle.llb_board.specs.Workers.{WorkersValue, Fits, state_in}
use Rattle.llb_board.specs.BoardValue.{BoardValue, Replays, opening_with, seen, kept_next, kept_along, recorded}
use Rattle.llb_board.specs.BoardInvariant.{IsBoard}
use Rattle.llb_board.specs.History.{Space}
use Rattle.llb_board.proofs.RecordedRunStates.{consistent}
use Rattle.llb_board.proofs.RecordRoomAndCancels.{SpaceAfter}

-- the record has room for an event that is granted, together with the room that the event itself reserves
pub has_room : (b : BoardValue) (ws : WorkersValue) (space : Space) (e : Event) (a : Answer) → (kept : IsBoard b ws space)
    → table b.build b.state e ≡ Some a → length b.events < space.room + room_taken b.build kept.replays.replies e
has_room b ws space e a kept granted =
    let place = room_for_event b.build b.opening b.state b.events kept.replays.replies space.room e a kept.replays.leads kept.room granted in
    omega (arith, place)

-- the lists of instances after one event more
pub kept_more : (b : Build) (s : State) (first rows : List Row) (t u : State) (es : List Event) (e : Event) (r : Reply)
    → kept_along b s first es ≡ Some (t, rows)
    → table b t e ≡ Some (u, r) → kept_along b s first (es ++ e ∷ []) ≡ Some (u, rows_after rows u (worker_of e))
kept_more b s first rows t u es e r so_far granted =
    fold-append (kept_next b) (Some (s, first)) es (e ∷ [])
    ∙ ap (λ o. kept_next b o e) so_far
    ∙ ap (option_map (λ (a : State × Reply). (a.0, rows_after rows a.0 (worker_of e)))) granted

-- what an event of worker w has to keep beside the run
pub record Stays (vs : VerticesValue) (ws us : WorkersValue) (w : ℕ) : Type 0 where
  pub count : length us.workers ≡ length ws.workers
  pub rows : us.rows ≡ rows_after ws.rows (state_in vs us) w
  pub fits : Fits vs.build us

-- what a board keeps it keeps after a granted event, where the workers' supplies and the lists of instances are as they should be
pub kept_after : (vs : VerticesValue) (new : List Status) (first : List Row) (ws us : WorkersValue) (es : List Event) (space : Space) (e : Event) (r : Reply)
    → (kept : IsBoard (seen vs first ws es) ws space)
    → table vs.build (state_in vs ws) e ≡ Some (state_in (record vs { statuses = new }) us, r) → Stays (record vs { statuses = new }) ws us (worker_of e)
    → (more : Space) → SpaceAfter vs.build kept.replays.replies e r space more
    → IsBoard (seen (record vs { statuses = new }) first us (es ++ e ∷ [])) us more
kept_after vs new first ws us es space e r kept granted stays more after =
    let b = vs.build in
    let now = state_in vs ws in
    let next = state_in (record vs { statuses = new }) us in
    let o = opening_with (length ws.workers) first in
    let leads : run b (opening b o) (es ++ e ∷ []) ≡ Some (next, kept.replays.replies ++ r ∷ [])
    = run_more b (opening b o) now next es kept.replays.replies e r kept.replays.leads granted in
    let keeps : kept_along b (opening b o) first (es ++ e ∷ []) ≡ Some (next, us.rows)
    = kept_more b (opening b o) first ws.rows now next es e r kept.replays.keeps granted ∙ ap (λ rows. Some (next, rows)) (sym stays.rows) in
    record {
      replays = record {
        replies = kept.replays.replies ++ r ∷ [];
        leads = ap (λ n. run b (opening b (opening_with n first)) (es ++ e ∷ [])) stays.count ∙ leads;
        keeps = ap (λ n. kept_along b (opening b (opening_with n first)) first (es ++ e ∷ [])) stays.count ∙ keeps;
      };
      room = subst (IsRoomy b next (kept.replays.replies ++ r ∷ [])) (sym after.room)
          (event_roomy b now kept.replays.replies space.room e (next, r) (consistent (seen vs first ws es) kept.replays) kept.room granted);
      counted = after.counted;
      fits = stays.fits;
    }

-- what is recorded of an event that is granted
pub recorded_as : {F : Type 0} (vs : VerticesValue) (new : List Status) (first : List Row) (ws us : WorkersValue) (es : List Event) (e : Event)
    (answer : Result Answer F) (r : Reply)
    → answer ≡ Ok (state_in (record vs { statuses = new }) us, r) → length us.workers ≡ length ws.workers
    → us.rows ≡ rows_after ws.rows (state_in (record vs { statuses = new }) us) (worker_of e)
    → recorded (seen vs first ws es) e answer ≡ Ok (seen (record vs { statuses = new }) first us (es ++ e ∷ []), r)
recorded_as vs new first ws us es e answer r is count rows =
    ap (recorded (seen vs first ws es) e) is
    ∙ (λ i. Ok (
      record {
        build = vs.build;
        opening = opening_with (sym count i) first;
        first = first;
        state = state_in (record vs { statuses = new }) us;
        rows = sym rows i;
        events = es ++ e ∷ [];
      },
      r,
    ))

-- ---- a worker leaves a vertex

-- the state after a worker leaves its vertex, which has another status then
pub left_state : (vs : VerticesValue) (ws us : WorkersValue) (w v : ℕ) (t : Status) → us.workers ≡ slice_set ws.workers w Idle → us.rows ≡ ws.rows
    → state_in (record vs { statuses = slice_set vs.statuses v t }) us ≡ after_end (state_in vs ws) w v t
left_state vs ws us w v t workers rows =
    λ i. record { statuses = slice_set vs.statuses v t; workers = workers i; store = store_of (rows i) }

-- a worker that is idle has no instances
pub left_rows : (vs : VerticesValue) (ws us : WorkersValue) (w : ℕ) (x : WorkerStatus) → slice_get ws.workers w ≡ Some x → us.workers
    ≡ slice_set ws.workers w Idle
    → us.rows ≡ ws.rows → us.rows ≡ rows_after ws.rows (state_in vs us) w
left_rows vs ws us w x at workers rows =
    let idle : slice_get us.workers w ≡ Some Idle = ap (λ l. slice_get l w) workers ∙ get_set_same ws.workers w Idle x at in
    rows ∙ sym (ap (λ o. written (store_of us.rows) ws.rows (places_at o)) idle)

pub left_count : (ws us : WorkersValue) (w : ℕ) → us.workers ≡ slice_set ws.workers w Idle → length us.workers ≡ length ws.workers
left_count ws us w workers = ap length workers ∙ length_set ws.workers w Idle

-- ---- the vertex of a worker

-- a status of a board is that of a vertex of its graph
pub has_vertex : (b : BoardValue) → Replays b → (v : ℕ) (s : Status) → slice_get b.state.statuses v ≡ Some s
    → (x : Vertex) × (slice_get b.build.graph.vertices v ≡ Some x)
has_vertex b here v s at =
    let count = (consistent b here).count in
    get_within b.build.graph.vertices v (omega (arith, slice_get_within b.state.statuses v s at, count))

-- a vertex with a status has a count of how often it was cancelled
pub has_count : (b : BoardValue) (ws : WorkersValue) (space : Space) → IsBoard b ws space → (v : ℕ) (s : Status) → slice_get b.state.statuses v ≡ Some s
    → v < length space.cancels
has_count b ws space kept v s at =
    let x = has_vertex b kept.replays v s at in
    omega (
      arith,
      slice_get_within b.build.graph.vertices v x.0 x.1,
      ap length kept.counted,
      counts_length b.build.graph.vertices 0 kept.replays.replies,
    )

pub few_cancels : (b : BoardValue) (ws : WorkersValue) (space : Space) → IsBoard b ws space → (v : ℕ) (s : Status) → slice_get b.state.statuses v ≡ Some s
    → get_or space.cancels v 0 ≤ length b.events
few_cancels b ws space kept v s at =
    let x = has_vertex b kept.replays v s at in
    let same = ap (λ cs. get_or cs v 0) kept.counted in
    omega (arith, same, cancels_few b.build v x.0 x.1 _ _ b.events kept.replays.replies kept.replays.leads)

-- a vertex that waits is whole
pub waits_whole : (o : Option Vertex) → IsWhole o Waiting
waits_whole (Some x) = tt
waits_whole None = tt

pub runs_whole : (o : Option Vertex) (w : ℕ) → IsWhole o (Running w)
runs_whole (Some x) w = tt
runs_whole None w = tt
