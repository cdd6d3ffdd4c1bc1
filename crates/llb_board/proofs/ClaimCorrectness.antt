-- A claim: the board does what the table gives, and keeps its invariant.
use Rattle.std.proofs.Common.{◌≡◌, ℕ, ◌+◌, ◌-◌, ◌<◌, List, [], ◌∷◌, ◌++◌, length, true, Option, Some, refl, sym, ap, ◌∙◌, arith}
use Rattle.std.specs.Prelude.{Result, Ok, Err, slice_get, slice_set}
use Rattle.std.proofs.lemmas.Option.{slice_get_within}
use Rattle.llb_cache.specs.Caches.{Row}
use Rattle.llb_loader.specs.declared.graph.Vertex.{Vertex}
use Rattle.llb_model.specs.Program.{program_at}
use Rattle.llb_model.specs.EventBounds.{events_of}
use Rattle.llb_model.specs.State.{Waiting, Running}
use Rattle.llb_events.specs.declared.event.Event.{Event}
use Rattle.llb_events.specs.declared.event.Event.TheVariants.{Claim}
use Rattle.llb_model.specs.Table.{Reply, claim_grant}
use Rattle.llb_model.proofs.GrantedEvents.{Answer, claim_is}
use Rattle.llb_events.specs.Faults.{claim_may_want}
use Rattle.llb_events.specs.declared.refusal.ClaimFault.{ClaimFault}
use Rattle.llb_model.specs.TwoCacheModels.{rows_after}
use Rattle.llb_board.specs.Vertices.{VerticesValue, with_status}
use Rattle.llb_board.specs.Workers.{WorkersValue, Fits, state_in, reply_of}
use Rattle.llb_board.specs.BoardValue.{BoardValue, seen, recorded}
use Rattle.llb_board.specs.BoardInvariant.{IsBoard}
use Rattle.llb_board.specs.History.{Space, taken_by, claimed, unclaimed}
use Rattle.llb_board.proofs.RulesGrantedByTable.{claim_done}
use Rattle.llb_board.proofs.InvariantPreservation.{has_room, kept_after}
use Rattle.llb_board.proofs.RecordRoomAndCancels.{claim_takes, space_claimed}

-- ---- a claim that is refused

-- a claim that does not begin is not granted
pub refused_as : (n : BoardValue) (e : Event) (r : Result Answer ClaimFault) (f : ClaimFault) → reply_of r ≡ Err f
    → recorded n e r ≡ Err f
refused_as n e (Ok a) f is = absurd cc
refused_as n e (Err cause) f is = ap (λ x. Err x) (inside is)
  where
    inside : {x y : ClaimFault} → ◌≡◌ {A = Result Reply ClaimFault} (Err x) (Err y) → x ≡ y
    inside e = cc

-- where the table's result says that a claim may need memory, so does the result with the recorded board
pub wants_as : (n : BoardValue) (e : Event) (r : Result Answer ClaimFault) → claim_may_want r ≡ true
    → claim_may_want (recorded n e r) ≡ true
wants_as n e (Ok a) is = refl
wants_as n e (Err cause) is = is

-- a claim may need memory where the table grants it
pub granted_wants : (n : BoardValue) (e : Event) (r : Result Answer ClaimFault) (q : Reply) → reply_of r ≡ Ok q
    → claim_may_want (recorded n e r) ≡ true
granted_wants n e (Ok a) q is = refl
granted_wants n e (Err cause) q is = absurd cc

-- room that a claim reserved, and that is given up again, leaves the record's room as it was
pub released : (v n : ℕ) (space : Space) → unclaimed v n (claimed v n space) ≡ space
released v n space =
    let same : (a b : ℕ) → a + b - b ≡ a = λ a b. omega arith in
    λ i. record { room = same space.room (taken_by v n space) i; cancels = space.cancels }

-- ---- a claim that is granted

-- the job that was begun is this worker's, of this vertex
pub granted_at : (vs : VerticesValue) (ws us : WorkersValue) (w v u k : ℕ) (r : Reply) → u ≡ w → k ≡ v
    → claim_grant vs.build (state_in vs ws) u k ≡ Ok (state_in (with_status k (Running u) vs) us, r)
    → claim_grant vs.build (state_in vs ws) w v ≡ Ok (state_in (with_status v (Running w) vs) us, r)
granted_at vs ws us w v u k r one two is =
    (λ i. claim_grant vs.build (state_in vs ws) (sym one i) (sym two i)) ∙ is ∙ (λ i. Ok (state_in (with_status (two i) (Running (one i)) vs) us, r))

pub rows_at : (vs : VerticesValue) (ws us : WorkersValue) (w v u k : ℕ) → u ≡ w → k ≡ v
    → us.rows ≡ rows_after ws.rows (state_in (with_status k (Running u) vs) us) u
    → us.rows ≡ rows_after ws.rows (state_in (with_status v (Running w) vs) us) w
rows_at vs ws us w v u k one two is = is ∙ (λ i. rows_after ws.rows (state_in (with_status (two i) (Running (one i)) vs) us) (one i))

module _ (vs : VerticesValue) (first : List Row) (ws us : WorkersValue) (es : List Event) (space : Space) (w v n : ℕ) (r : Reply)
    (kept : IsBoard (seen vs first ws es) ws space)
    (grants : claim_grant vs.build (state_in vs ws) w v ≡ Ok (state_in (with_status v (Running w) vs) us, r))
    (steps : n ≡ length (program_at (slice_get vs.build.graph.vertices v)).steps) where
  vertex : Vertex
  vertex = (claim_is vs.build (state_in vs ws) w v _ (claim_done vs.build (state_in vs ws) w v _ grants)).start.vertex

  there : slice_get vs.build.graph.vertices v ≡ Some vertex
  unfolding vertex
  there = (claim_is vs.build (state_in vs ws) w v _ (claim_done vs.build (state_in vs ws) w v _ grants)).begins.there

  pub low : v < length vs.statuses
  low =
      slice_get_within vs.statuses v Waiting
      (claim_is vs.build (state_in vs ws) w v _ (claim_done vs.build (state_in vs ws) w v _ grants)).begins.waits

  counts : n + 2 ≡ events_of vertex
  counts = ap (λ m. m + 2) steps ∙ ap (λ (o : Option Vertex). length (program_at o).steps + 2) there

  pub room : length es < (claimed v (n + 2) space).room
  room =
      let place = has_room (seen vs first ws es) ws space (Claim w v) _ kept (claim_done vs.build (state_in vs ws) w v _ grants) in
      let takes = claim_takes vs.build w v (n + 2) vertex kept.replays.replies space there counts kept.counted in
      omega (arith, place, takes)

  -- the board keeps its invariant
  pub keeps : length us.workers ≡ length ws.workers → us.rows ≡ rows_after ws.rows (state_in (with_status v (Running w) vs) us) w → Fits vs.build us
      → IsBoard (seen (with_status v (Running w) vs) first us (es ++ Claim w v ∷ [])) us (claimed v (n + 2) space)
  keeps count rows fits =
      kept_after vs (slice_set vs.statuses v (Running w)) first ws us es space (Claim w v) r kept
      (claim_done vs.build (state_in vs ws) w v _ grants) (record { count = count; rows = rows; fits = fits }) (claimed v (n + 2) space)
      (space_claimed vs.build (state_in vs ws) w v (n + 2) vertex _ kept.replays.replies space there counts
      (claim_done vs.build (state_in vs ws) w v _ grants) kept.counted)
