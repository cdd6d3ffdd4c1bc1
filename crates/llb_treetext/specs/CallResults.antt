-- A call of this crate returns the result of its rule, or it fails with `Memory`. The rule of a call is a definition: a function that returns
-- a value or a fault, but never the fault `Memory`.
use Rattle.std.specs.Prelude.{ℕ, List, ◌++◌, Bool, true, false, Option, Result, codes}
use Rattle.std.specs.Fmt.{decimal}
use Rattle.llb_wire.specs.CallResults as answer
use Rattle.llb_treetext.specs.WrittenPrefix as output
use Rattle.llb_treetext.specs.declared.fault.TextFault.{TextFault}
use Rattle.llb_treetext.specs.declared.fault.TextFault.TheVariants as text
use Rattle.llb_treetext.specs.declared.fault.PrintFault.{PrintFault}
use Rattle.llb_treetext.specs.declared.fault.PrintFault.TheVariants as print

-- whether a fault is `Memory`, which no rule returns
abbrev pub is_memory : TextFault → Bool
is_memory text.Memory = true
is_memory (text.BadLine n) = false
is_memory (text.Order n) = false
is_memory (text.NoParent n) = false

-- a call returns what its rule returns, or it fails for want of memory
abbrev pub Gives : {X Y : Type 0} → (X → Y) → Result X TextFault → Result Y TextFault → Type 0
Gives = answer.Gives is_memory

-- a call fails with `Memory` only if the call's rule returns a value, so `Memory` is reported last
abbrev pub MemoryLast : {X Y : Type 0} → Result X TextFault → Result Y TextFault → Type 0
MemoryLast = answer.MemoryLast is_memory

-- whether a fault of writing a text is `Memory`
abbrev pub is_refused_memory : PrintFault → Bool
is_refused_memory print.Memory = true
is_refused_memory print.Write = false

-- a call that succeeded has written the whole text; a call that failed, for want of memory or because the sink has failed, has written a prefix of the text
abbrev pub Prints : Option (List ℕ) → Option (List ℕ) → Bool → List ℕ → Result (Unit {0}) PrintFault → Type 0
Prints = output.Writes is_refused_memory

-- the text of a fault of reading a text: the fault's number and, except for `Memory`, the number of the faulty line
abbrev pub reading_text : TextFault → List ℕ
reading_text (text.BadLine line) = codes "31 " ++ decimal line
reading_text (text.Order line) = codes "32 " ++ decimal line
reading_text (text.NoParent line) = codes "33 " ++ decimal line
reading_text text.Memory = codes "34"

-- the text of a fault of writing a text: the fault's number alone; for refused memory, reading and writing have the same number (docs/FAULTS.md)
abbrev pub printing_text : PrintFault → List ℕ
printing_text print.Memory = codes "34"
printing_text print.Write = codes "35"
