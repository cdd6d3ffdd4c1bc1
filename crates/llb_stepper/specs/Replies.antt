-- The replies that calls on a board return, and the replies to the events of the board's record.
use Rattle.std.specs.Prelude.{◌≡◌, ℕ, List, [], ◌∷◌, ◌++◌, Some, Ok}
use Rattle.llb_model.specs.Table.{Reply}
use Rattle.llb_model.specs.Landing.{landing}
use Rattle.llb_model.specs.Run.{run}
use Rattle.llb_board.specs.BoardValue.{BoardValue, replies_in}
use Rattle.llb_board.specs.EventResults.{claim_of, step_of, settle_of, cancel_of}

-- What a call on board b adds at the end of the list of replies to the record's events; board t is the board after the call. A call that does one event adds
-- the reply that the call returns. A call that lands an outcome adds the replies to the events that it appends to the record: n steps of worker w, and the
-- worker's settle.
pub record RepliesAreRecorded (b : BoardValue) : Type 0 where
  pub claim : (w v : ℕ) (t : BoardValue) (r : Reply) → claim_of b w v ≡ Ok (t, r) → replies_in t ≡ replies_in b ++ r ∷ []
  pub step : (w : ℕ) (t : BoardValue) (r : Reply) → step_of b w ≡ Ok (t, r) → replies_in t ≡ replies_in b ++ r ∷ []
  pub settle : (w : ℕ) (t : BoardValue) (r : Reply) → settle_of b w ≡ Ok (t, r) → replies_in t ≡ replies_in b ++ r ∷ []
  pub cancel : (w : ℕ) (t : BoardValue) (r : Reply) → cancel_of b w ≡ Ok (t, r) → replies_in t ≡ replies_in b ++ r ∷ []
  pub land : (w n : ℕ) (t : BoardValue) (rs : List Reply) → run b.build b.state (landing w n) ≡ Some (t.state, rs)
      → t ≡ record b { state = t.state; rows = t.rows; events = b.events ++ landing w n } → replies_in t ≡ replies_in b ++ rs
