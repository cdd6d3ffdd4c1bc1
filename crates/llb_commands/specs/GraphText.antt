-- How a call that writes a text ends; the text of a graph is that of `llb_session`.
use Rattle.std.specs.Prelude.{ℕ, List, Bool, true, false, Option, Result}
use Rattle.llb_wire.specs.CallResults as answer
use Rattle.llb_commands.specs.WrittenPrefix as output
use Rattle.llb_commands.specs.declared.fault.OutputFault.{OutputFault}
use Rattle.llb_commands.specs.declared.fault.OutputFault.TheVariants.{Write, Memory}

-- whether a fault of the output is `Memory`
abbrev pub is_memory : OutputFault → Bool
is_memory Memory = true
is_memory Write = false

-- a call returns the value or the fault that is expected, or it fails for want of memory
abbrev pub Gives : {X Y : Type 0} → (X → Y) → Result X OutputFault → Result Y OutputFault → Type 0
Gives = answer.Gives is_memory

-- a call has written the whole text to a sink; or it has failed, because the sink failed or memory was refused, and a prefix is written
abbrev pub Writes : Option (List ℕ) → Option (List ℕ) → Bool → List ℕ → Result (Unit {0}) OutputFault → Type 0
Writes = output.Writes is_memory
