-- A call of this crate returns the result of its rule, or it fails with `Memory`. The rule of a call is a definition: a function that returns a value
-- or a fault, but never the fault `Memory`.
use Rattle.std.specs.Prelude.{Bool, true, false, Result}
use Rattle.llb_wire.specs.CallResults as answer
use Rattle.llb_tree.specs.declared.fault.TreeFault.{TreeFault}
use Rattle.llb_tree.specs.declared.fault.TreeFault.TheVariants.{NotFound, NotDir, IsDir, Conflict, Root, BadName, Memory}

-- whether a fault is `Memory`, which no rule returns
abbrev pub is_memory : TreeFault → Bool
is_memory Memory = true
is_memory NotFound = false
is_memory NotDir = false
is_memory IsDir = false
is_memory Conflict = false
is_memory Root = false
is_memory BadName = false

-- a call returns what its rule returns, or it fails for want of memory
abbrev pub Gives : {X Y : Type 0} → (X → Y) → Result X TreeFault → Result Y TreeFault → Type 0
Gives = answer.Gives is_memory

-- a call fails with `Memory` only if the call's rule returns a value, so `Memory` is reported last
abbrev pub MemoryLast : {X Y : Type 0} → Result X TreeFault → Result Y TreeFault → Type 0
MemoryLast = answer.MemoryLast is_memory
