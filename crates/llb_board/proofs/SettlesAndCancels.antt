-- A settle or a cancel that is granted: the board does what the table gives, and keeps its invariant.
use Rattle.std.proofs.Common.{◌≡◌, ℕ, ◌+◌, ◌<◌, ◌≤◌, List, [], ◌∷◌, ◌++◌, length, Some, refl, sym, ap, ◌∙◌, arith, get_or}
use Rattle.std.specs.Prelude.{Ok, slice_get, slice_set, if◌then◌else◌}
use Rattle.std.proofs.lemmas.Option.{slice_get_within}
use Rattle.llb_cache.specs.Caches.{Row}
use Rattle.llb_events.specs.declared.event.Settled.TheVariants as ended
use Rattle.llb_model.specs.Table as table
use Rattle.llb_model.specs.Table.{cancel_reply}
use Rattle.llb_model.specs.Outcome.{Ending, Done, Failed}
use Rattle.llb_model.specs.State.{Status, Waiting, Running, Idle, Runs, is_failed}
use Rattle.llb_events.specs.declared.event.Event.{Event}
use Rattle.llb_events.specs.declared.event.Event.TheVariants.{Settle, Cancel}
use Rattle.llb_model.specs.Table.{settle_reply, settle_grant, cancel_grant, after_end}
use Rattle.llb_board.specs.WorkerRules.{left_at, given_up_at}
use Rattle.llb_model.specs.TwoCacheModels.{rows_after}
use Rattle.llb_board.specs.Vertices.{VerticesValue}
use Rattle.llb_board.specs.Workers.{WorkersValue, Fits, state_in}
use Rattle.llb_board.specs.BoardValue.{seen}
use Rattle.llb_board.specs.BoardInvariant.{IsBoard}
use Rattle.llb_board.specs.History.{Space, cancelled}
use Rattle.llb_board.proofs.RulesGrantedByTable.{CanSettle, CanCancel, can_settle, can_cancel, settle_done, cancel_done}
use Rattle.llb_board.proofs.InvariantPreservation.{has_room, kept_after, left_state, left_rows, left_count, has_vertex, has_count, few_cancels}
use Rattle.llb_board.proofs.RecordedRunStates.{consistent}
use Rattle.llb_board.proofs.RecordRoomAndCancels.{space_stays, space_cancelled}

-- the reply to a settle says whether the vertex failed
pub reply_is : (v : ℕ) (e : Ending) → table.settle_done v e ≡ (if is_failed (Some e) then ended.Failed v else ended.Done v)
reply_is v (Done trees) = refl
reply_is v (Failed f) = refl

-- ---- a settle

module _ (vs : VerticesValue) (first : List Row) (ws us : WorkersValue) (es : List Event) (space : Space) (w v : ℕ) (t : Status)
    (kept : IsBoard (seen vs first ws es) ws space) (left : left_at vs.build (slice_get ws.workers w) ≡ Ok (v, t))
    (workers : us.workers ≡ slice_set ws.workers w Idle) (rows : us.rows ≡ ws.rows) where
  -- the worker runs the vertex, is finished, and may settle
  pub ends : CanSettle vs.build (state_in vs ws) w v t
  ends = can_settle vs.build (state_in vs ws) w v t left

  -- the settle is granted
  pub grants : settle_grant vs.build (state_in vs ws) w ≡ Ok (state_in (record vs { statuses = slice_set vs.statuses v t }) us, settle_reply v ends.ending)
  grants =
      ends.grants
      ∙ (λ i. Ok (sym (left_state vs ws us w v t workers rows ∙ ap (after_end (state_in vs ws) w v) ends.is) i, settle_reply v ends.ending))

  -- before it, the vertex is the one that runs on this worker
  pub running : slice_get vs.statuses v ≡ Some (Running w)
  running = ap (slice_get vs.statuses) (sym ends.vertex) ∙ (consistent (seen vs first ws es) kept.replays).working w ends.x ends.there

  pub low : v < length vs.statuses
  low = slice_get_within vs.statuses v (Running w) running

  pub room : length es < space.room
  room =
      let place = has_room (seen vs first ws es) ws space (Settle w) _ kept (settle_done vs.build (state_in vs ws) w _ grants) in
      omega (arith, place)

  pub rows_stay : us.rows ≡ rows_after ws.rows (state_in (record vs { statuses = slice_set vs.statuses v t }) us) w
  rows_stay = left_rows (record vs { statuses = slice_set vs.statuses v t }) ws us w (Runs ends.x) ends.there workers rows

  -- the board keeps its invariant
  pub keeps : Fits vs.build us → IsBoard (seen (record vs { statuses = slice_set vs.statuses v t }) first us (es ++ Settle w ∷ [])) us space
  keeps fits =
      kept_after vs (slice_set vs.statuses v t) first ws us es space (Settle w) (settle_reply v ends.ending) kept
      (settle_done vs.build (state_in vs ws) w _ grants) (record {
        count = left_count ws us w workers;
        rows = rows_stay;
        fits = fits;
      }) space
      (space_stays vs.build (state_in vs ws) (Settle w) (state_in (record vs { statuses = slice_set vs.statuses v t }) us, settle_reply v ends.ending)
      kept.replays.replies space
      (λ u e. cc) refl (settle_done vs.build (state_in vs ws) w _ grants) kept.counted)

-- ---- a cancel

module _ (vs : VerticesValue) (first : List Row) (ws us : WorkersValue) (es : List Event) (space : Space) (w v n : ℕ)
    (kept : IsBoard (seen vs first ws es) ws space) (given : given_up_at (slice_get ws.workers w) ≡ Ok (v, n))
    (workers : us.workers ≡ slice_set ws.workers w Idle) (rows : us.rows ≡ ws.rows) where
  -- the worker runs the vertex, and may give it up
  can : CanCancel (state_in vs ws) w v n
  can = can_cancel (state_in vs ws) w v n given

  -- the cancel is granted
  pub gives : cancel_grant (state_in vs ws) w ≡ Ok (state_in (record vs { statuses = slice_set vs.statuses v Waiting }) us, cancel_reply v n)
  gives = can.grants ∙ (λ i. Ok (sym (left_state vs ws us w v Waiting workers rows) i, cancel_reply v n))

  was_running : slice_get vs.statuses v ≡ Some (Running w)
  was_running = ap (slice_get vs.statuses) (sym can.vertex) ∙ (consistent (seen vs first ws es) kept.replays).working w can.x can.there

  pub low_status : v < length vs.statuses
  low_status = slice_get_within vs.statuses v (Running w) was_running

  pub low_count : v < length space.cancels
  low_count = has_count (seen vs first ws es) ws space kept v (Running w) was_running

  pub few_counts : get_or space.cancels v 0 ≤ length es
  few_counts = few_cancels (seen vs first ws es) ws space kept v (Running w) was_running

  pub room_left : length es < space.room
  room_left =
      let place = has_room (seen vs first ws es) ws space (Cancel w) _ kept (cancel_done vs.build (state_in vs ws) w _ gives) in
      omega (arith, place)

  pub rows_kept : us.rows ≡ rows_after ws.rows (state_in (record vs { statuses = slice_set vs.statuses v Waiting }) us) w
  rows_kept = left_rows (record vs { statuses = slice_set vs.statuses v Waiting }) ws us w (Runs can.x) can.there workers rows

  -- the board keeps its invariant
  pub cancel_keeps : Fits vs.build us
      → IsBoard (seen (record vs { statuses = slice_set vs.statuses v Waiting }) first us (es ++ Cancel w ∷ [])) us (cancelled v space)
  cancel_keeps fits =
      let x = has_vertex (seen vs first ws es) kept.replays v (Running w) was_running in
      kept_after vs (slice_set vs.statuses v Waiting) first ws us es space (Cancel w) (cancel_reply v n) kept
      (cancel_done vs.build (state_in vs ws) w _ gives) (record {
        count = left_count ws us w workers;
        rows = rows_kept;
        fits = fits;
      }) (cancelled v space) (space_cancelled vs.build w v n x.0 kept.replays.replies space x.1 kept.counted)
