-- How the result of a call is specified, in every crate. A rule is a function that returns a value or a fault, and never the fault for refused
-- memory; a call returns what its rule returns, or it fails for want of memory.
use Rattle.std.specs.Prelude.{◌≡◌, Bool, true, false, Result, Ok, Err, is_ok}

-- a call may fail with `e`: either `e` is the fault for refused memory, or the rule of the call fails with `e` too
abbrev pub Fails : {Y F : Type 0} → (F → Bool) → F → Result Y F → Type 0
Fails is_memory e rule = is_memory e ≡ false → rule ≡ Err e

-- either the call returns x, and its rule returns `view x`, which is what contracts see of x; or the call fails with the rule's fault or for want of memory
abbrev pub Gives : {X Y F : Type 0} → (F → Bool) → (X → Y) → Result X F → Result Y F → Type 0
Gives is_memory view (Ok x) rule = rule ≡ Ok (view x)
Gives is_memory view (Err e) rule = Fails is_memory e rule

-- a call fails with the fault for refused memory only if its rule returns a value, so this fault is reported last
abbrev pub MemoryLast : {X Y F : Type 0} → (F → Bool) → Result X F → Result Y F → Type 0
MemoryLast is_memory (Ok x) rule = Unit {0}
MemoryLast is_memory (Err e) rule = is_memory e ≡ true → is_ok rule ≡ true

-- two rules, one after the other: the second is applied to the value of the first
infixl 10 ◌>>=◌
-- `f` applied to the value of a result; or the fault of that result
abbrev pub ◌>>=◌ : {A B F : Type 0} → Result A F → (A → Result B F) → Result B F
(Ok x) >>= f = f x
(Err e) >>= f = Err e
