-- The result of a call on leases: the result of its rule (for `lease`, the definition `lease_of`), or `Memory`.
use Rattle.std.specs.Prelude.{Bool, true, false, Result}
use Rattle.llb_wire.specs.CallResults as answer
use Rattle.llb_cache.specs.declared.fault.LeaseFault.{LeaseFault}
use Rattle.llb_cache.specs.declared.fault.LeaseFault.TheVariants.{Held, Memory}

-- whether a fault is `Memory`, which no rule returns
abbrev pub is_memory : LeaseFault → Bool
is_memory Memory = true
is_memory (Held key) = false

-- a call returns what its rule returns, or it fails with `Memory`
abbrev pub Gives : {X Y : Type 0} → (X → Y) → Result X LeaseFault → Result Y LeaseFault → Type 0
Gives = answer.Gives is_memory

-- `Memory` is reported last: a call fails with `Memory` only if the rule of the call refuses nothing
abbrev pub MemoryLast : {X Y : Type 0} → Result X LeaseFault → Result Y LeaseFault → Type 0
MemoryLast = answer.MemoryLast is_memory
