-- What the call for an event returns: the board with the event appended to its record, and the table's reply; or, as a fault, why the table refuses the event.
use Rattle.std.specs.Prelude.{ℕ, Result}
use Rattle.llb_events.specs.declared.event.Event.TheVariants.{Claim, Step, Settle, Cancel}
use Rattle.llb_model.specs.Table.{Reply, claim_grant, step_grant, settle_grant, cancel_grant}
use Rattle.llb_events.specs.declared.refusal.ClaimFault.{ClaimFault}
use Rattle.llb_events.specs.declared.refusal.StepFault.{StepFault}
use Rattle.llb_events.specs.declared.refusal.SettleFault.{SettleFault}
use Rattle.llb_events.specs.declared.refusal.CancelFault.{CancelFault}
use Rattle.llb_board.specs.BoardValue.{BoardValue, recorded}

-- the board after a claim, with the claim appended to its record, and the reply; or the table's refusal
abbrev pub claim_of : BoardValue → ℕ → ℕ → Result (BoardValue × Reply) ClaimFault
claim_of b w v = recorded b (Claim w v) (claim_grant b.build b.state w v)

-- the board after a step, with the step appended to the record, and the reply; or the table's refusal
abbrev pub step_of : BoardValue → ℕ → Result (BoardValue × Reply) StepFault
step_of b w = recorded b (Step w) (step_grant b.build b.state w)

-- the board after a settle, which is the last event of its record, and the reply to the settle; or the table's refusal
abbrev pub settle_of : BoardValue → ℕ → Result (BoardValue × Reply) SettleFault
settle_of b w = recorded b (Settle w) (settle_grant b.build b.state w)

-- the board after a cancel, which is the last event of its record, and the reply to the cancel; or the table's refusal
abbrev pub cancel_of : BoardValue → ℕ → Result (BoardValue × Reply) CancelFault
cancel_of b w = recorded b (Cancel w) (cancel_grant b.state w)
