-- A call of this crate returns the result of its rule, or it fails with `Memory`. The rule of a call is a definition: a function that returns
-- a value or a fault, but never the fault `Memory`.
use Rattle.std.specs.Prelude.{◌≡◌, ℕ, Bool, true, false, ◌||◌, List, ◌++◌, Result, Ok, Err, is_ok, codes}
use Rattle.std.specs.Fmt.{decimal}
use Rattle.llb_wire.specs.CallResults as answer
use Rattle.llb_applet.specs.declared.fault.ScriptFault.{ScriptFault}
use Rattle.llb_applet.specs.declared.fault.ScriptFault.TheVariants.{NoApplet, Usage, ShellSyntax, Memory}

-- whether a fault is `Memory`, which no rule returns
abbrev pub is_memory : ScriptFault → Bool
is_memory Memory = true
is_memory (NoApplet word) = false
is_memory (Usage number) = false
is_memory (ShellSyntax place) = false

-- a call returns what its rule returns, or it fails for want of memory
abbrev pub Gives : {X Y : Type 0} → (X → Y) → Result X ScriptFault → Result Y ScriptFault → Type 0
Gives = answer.Gives is_memory

-- whether a result is the fault `NoApplet`, the only fault that contains a text (the word that names no applet)
abbrev pub names_word : {Y : Type 0} → Result Y ScriptFault → Bool
names_word (Ok y) = false
names_word (Err (NoApplet word)) = true
names_word (Err (Usage number)) = false
names_word (Err (ShellSyntax place)) = false
names_word (Err Memory) = false

-- `Memory` is reported last: a call fails with `Memory` only if its rule returns a value, or the fault `NoApplet`, whose word needs memory
abbrev pub MemoryLast : {X Y : Type 0} → Result X ScriptFault → Result Y ScriptFault → Type 0
MemoryLast (Ok x) rule = Unit {0}
MemoryLast (Err e) rule = is_memory e ≡ true → (is_ok rule || names_word rule) ≡ true

-- the text of a fault: its number, and its argument if it has one
abbrev pub script_text : ScriptFault → List ℕ
script_text (NoApplet word) = codes "71 " ++ word
script_text (Usage number) = codes "72 " ++ decimal number
script_text (ShellSyntax place) = codes "73 " ++ decimal place
script_text Memory = codes "74"
