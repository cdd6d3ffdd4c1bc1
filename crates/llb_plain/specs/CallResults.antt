-- What a call returns: the fault `Memory`, or what the call's rule returns. The rule of a call defines what the call returns if no memory is refused.
use Rattle.std.specs.Prelude.{◌≡◌, Bool, true, false, Result, Ok, Err}
use Rattle.llb_wire.specs.CallResults as answer
use Rattle.llb_plain.specs.declared.fault.PlainFault.{PlainFault}
use Rattle.llb_plain.specs.declared.fault.PlainFault.TheVariants.{MissingLocal, HasCache, Memory}

-- whether a fault is `Memory`, which no rule returns
abbrev pub is_memory : PlainFault → Bool
is_memory Memory = true
is_memory (MissingLocal name) = false
is_memory (HasCache v) = false

-- a call returns or fails as its rule says, or fails with `Memory`; the argument of type `X → Y` turns the call's value into the value that the rule returns
abbrev pub Gives : {X Y : Type 0} → (X → Y) → Result X PlainFault → Result Y PlainFault → Type 0
Gives = answer.Gives is_memory

-- whether a call may need memory, by the result of its rule: true for outcomes, and for `MissingLocal`, since the call copies the name of the source
abbrev pub may_want_memory : {Y : Type 0} → Result Y PlainFault → Bool
may_want_memory (Ok y) = true
may_want_memory (Err (MissingLocal name)) = true
may_want_memory (Err (HasCache v)) = false
may_want_memory (Err Memory) = false

-- a call fails with `Memory` only if its rule returns outcomes, or fails with `MissingLocal`
abbrev pub MemoryLast : {X Y : Type 0} → Result X PlainFault → Result Y PlainFault → Type 0
MemoryLast (Ok x) rule = Unit {0}
MemoryLast (Err e) rule = is_memory e ≡ true → may_want_memory rule ≡ true
