-- The results of the calls on messages, and the text of a fault.
use Rattle.std.specs.Prelude.{ℕ, Bool, true, false, List, Result, codes}
use Rattle.llb_wire.specs.CallResults as answer
use Rattle.llb_wire.specs.Faults.{wire_text}
use Rattle.llb_ops.specs.declared.fault.OpFault.{OpFault}
use Rattle.llb_ops.specs.declared.fault.OpFault.TheVariants.{Wire, WrongWireType, NotUtf8, OverLimit, Memory}

-- whether a fault is `Memory`, which no rule (such as `op_of`) returns
abbrev pub is_memory : OpFault → Bool
is_memory Memory = true
is_memory (Wire f) = false
is_memory WrongWireType = false
is_memory NotUtf8 = false
is_memory OverLimit = false

-- a call returns what its rule returns (a value or a fault), or it fails for want of memory
abbrev pub Gives : {X Y : Type 0} → (X → Y) → Result X OpFault → Result Y OpFault → Type 0
Gives = answer.Gives is_memory

-- the text of a fault: its number in decimal; the fault `Wire` has the number of the fault of `llb_wire` that it holds
abbrev pub op_text : OpFault → List ℕ
op_text (Wire fault) = wire_text fault
op_text WrongWireType = codes "11"
op_text NotUtf8 = codes "12"
op_text OverLimit = codes "13"
op_text Memory = codes "14"
