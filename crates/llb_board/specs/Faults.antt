-- The refusals of `Board::walk`: the text of each, and which of them `walk` returns if a claim or a step is refused.
use Rattle.std.specs.Prelude.{List, ℕ, Result, Ok, Err, codes}
use Rattle.llb_events.specs.declared.refusal.ClaimFault.{ClaimFault}
use Rattle.llb_events.specs.declared.refusal.ClaimFault.TheVariants as claim
use Rattle.llb_events.specs.declared.refusal.StepFault.{StepFault}
use Rattle.llb_events.specs.declared.refusal.StepFault.TheVariants as step
use Rattle.llb_events.specs.Faults.{claim_text, step_text, settle_text, cancel_text}
use Rattle.llb_board.specs.declared.fault.WalkFault.{WalkFault}
use Rattle.llb_board.specs.declared.fault.WalkFault.TheVariants as walk

-- the text of a refusal of `Board::walk`, which does any one event: the text of the event's refusal, or 141 for refused memory
abbrev pub walk_text : WalkFault → List ℕ
walk_text (walk.Claim e) = claim_text e
walk_text (walk.Step e) = step_text e
walk_text (walk.Settle e) = settle_text e
walk_text (walk.Cancel e) = cancel_text e
walk_text walk.Memory = codes "141"

-- what `walk` returns if a claim is refused for this cause; `walk` has one fault `Memory` for events of all kinds
abbrev pub claim_refused : ClaimFault → WalkFault
claim_refused claim.Memory = walk.Memory
claim_refused claim.NoWorker = walk.Claim claim.NoWorker
claim_refused claim.Busy = walk.Claim claim.Busy
claim_refused claim.NoVertex = walk.Claim claim.NoVertex
claim_refused claim.NotReady = walk.Claim claim.NotReady
claim_refused (claim.Held k) = walk.Claim (claim.Held k)

-- what `Board::walk`, which does any one event, returns if a step is refused for this cause; it has one fault `Memory` for events of all kinds
abbrev pub step_refused : StepFault → WalkFault
step_refused step.Memory = walk.Memory
step_refused step.NoWorker = walk.Step step.NoWorker
step_refused step.NotRunning = walk.Step step.NotRunning
step_refused step.NothingLeft = walk.Step step.NothingLeft

-- the same result, but with the fault `fault cause` in place of a refusal for `cause`
abbrev pub faulted : {A C F : Type 0} → (C → F) → Result A C → Result A F
faulted fault (Ok x) = Ok x
faulted fault (Err cause) = Err (fault cause)
