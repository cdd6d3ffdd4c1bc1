-- A call of this crate returns the result of its rule, which is a definition, or it fails with `Memory`.
use Rattle.std.specs.Prelude.{Bool, true, false, Result}
use Rattle.llb_wire.specs.CallResults as answer
use Rattle.llb_tree.specs.declared.fault.TreeFault.{TreeFault}
use Rattle.llb_tree.specs.declared.fault.TreeFault.TheVariants as tree
use Rattle.llb_glob.specs.declared.fault.PatternFault.{PatternFault}
use Rattle.llb_glob.specs.declared.fault.PatternFault.TheVariants.{BadPattern, Memory}

-- whether a fault is `Memory`, which no rule returns
abbrev pub is_memory : PatternFault → Bool
is_memory Memory = true
is_memory BadPattern = false

-- a call returns what its rule returns, or it fails for want of memory
abbrev pub Gives : {X Y : Type 0} → (X → Y) → Result X PatternFault → Result Y PatternFault → Type 0
Gives = answer.Gives is_memory

-- `Memory` is reported last: a call fails with `Memory` only if the call's rule returns a value
abbrev pub MemoryLast : {X Y : Type 0} → Result X PatternFault → Result Y PatternFault → Type 0
MemoryLast = answer.MemoryLast is_memory

-- the fault of reading a text as a pattern, if reading the text as a path fails with the given fault
abbrev pub renamed : TreeFault → PatternFault
renamed tree.Memory = Memory
renamed tree.NotFound = BadPattern
renamed tree.NotDir = BadPattern
renamed tree.IsDir = BadPattern
renamed tree.Conflict = BadPattern
renamed tree.Root = BadPattern
renamed tree.BadName = BadPattern
