-- The text after the word `fault` when a board refuses an event: the number of the fault, and for 135 the ID of the held key. The `Gives..` definitions say
-- what contracts promise of the call for an event: the call returns what the table returns, or it fails for want of memory.
use Rattle.std.specs.Prelude.{ℕ, Bool, true, false, List, ◌++◌, Result, Ok, Err, codes}
use Rattle.llb_wire.specs.CallResults as answer
use Rattle.llb_cache.specs.Key.{has_text}
use Rattle.llb_events.specs.declared.refusal.ClaimFault.{ClaimFault}
use Rattle.llb_events.specs.declared.refusal.ClaimFault.TheVariants as claim
use Rattle.llb_events.specs.declared.refusal.StepFault.{StepFault}
use Rattle.llb_events.specs.declared.refusal.StepFault.TheVariants as step
use Rattle.llb_events.specs.declared.refusal.SettleFault.{SettleFault}
use Rattle.llb_events.specs.declared.refusal.SettleFault.TheVariants as settle
use Rattle.llb_events.specs.declared.refusal.CancelFault.{CancelFault}
use Rattle.llb_events.specs.declared.refusal.CancelFault.TheVariants as cancel

-- the text of the refusal of a claim
abbrev pub claim_text : ClaimFault → List ℕ
claim_text claim.NoWorker = codes "131"
claim_text claim.Busy = codes "132"
claim_text claim.NoVertex = codes "133"
claim_text claim.NotReady = codes "134"
claim_text (claim.Held key) = codes "135 " ++ key.id
claim_text claim.Memory = codes "141"

-- the text of the refusal of a step
abbrev pub step_text : StepFault → List ℕ
step_text step.NoWorker = codes "131"
step_text step.NotRunning = codes "136"
step_text step.NothingLeft = codes "137"
step_text step.Memory = codes "141"

-- the text of the refusal of a settle
abbrev pub settle_text : SettleFault → List ℕ
settle_text settle.NoWorker = codes "131"
settle_text settle.NotRunning = codes "136"
settle_text settle.NotFinished = codes "138"

-- the text of the refusal of a cancel
abbrev pub cancel_text : CancelFault → List ℕ
cancel_text cancel.NoWorker = codes "131"
cancel_text cancel.NotRunning = codes "136"

-- ---- memory that a claim may need

-- whether a claim may need memory, given the table's result: true for a grant, and for 135 `Held` if the held key has a text (an ID or a digest) to copy
abbrev pub claim_may_want : {A : Type 0} → Result A ClaimFault → Bool
claim_may_want (Ok a) = true
claim_may_want (Err (claim.Held k)) = has_text k
claim_may_want (Err claim.NoWorker) = false
claim_may_want (Err claim.Busy) = false
claim_may_want (Err claim.NoVertex) = false
claim_may_want (Err claim.NotReady) = false
claim_may_want (Err claim.Memory) = false

-- whether the refusal of a claim is `Memory`
abbrev pub claim_memory : ClaimFault → Bool
claim_memory claim.Memory = true
claim_memory claim.NoWorker = false
claim_memory claim.Busy = false
claim_memory claim.NoVertex = false
claim_memory claim.NotReady = false
claim_memory (claim.Held key) = false

-- a claim returns what the table returns, or it fails for want of memory
abbrev pub GivesClaim : {X Y : Type 0} → (X → Y) → Result X ClaimFault → Result Y ClaimFault → Type 0
GivesClaim = answer.Gives claim_memory

-- ---- steps

-- whether the refusal of a step is `Memory`
abbrev pub step_memory : StepFault → Bool
step_memory step.Memory = true
step_memory step.NoWorker = false
step_memory step.NotRunning = false
step_memory step.NothingLeft = false

-- a step returns what the table returns, or it fails for want of memory
abbrev pub GivesStep : {X Y : Type 0} → (X → Y) → Result X StepFault → Result Y StepFault → Type 0
GivesStep = answer.Gives step_memory

-- ---- settles

-- whether the refusal of a settle is `Memory`: never
abbrev pub settle_memory : SettleFault → Bool
settle_memory e = false

-- a settle returns what the table returns
abbrev pub GivesSettle : {X Y : Type 0} → (X → Y) → Result X SettleFault → Result Y SettleFault → Type 0
GivesSettle = answer.Gives settle_memory

-- ---- cancels

-- whether the refusal of a cancel is `Memory`: never
abbrev pub cancel_memory : CancelFault → Bool
cancel_memory e = false

-- a cancel returns what the table returns
abbrev pub GivesCancel : {X Y : Type 0} → (X → Y) → Result X CancelFault → Result Y CancelFault → Type 0
GivesCancel = answer.Gives cancel_memory
