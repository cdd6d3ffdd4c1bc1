-- How a call's result follows the call's rule (the definition of what the call returns), and how faults of paths, trees and patterns become faults of actions.
use Rattle.std.specs.Prelude.{Bool, true, false, Result, Ok, Err}
use Rattle.llb_wire.specs.CallResults as answer
use Rattle.llb_tree.specs.declared.fault.TreeFault.{TreeFault}
use Rattle.llb_tree.specs.declared.fault.TreeFault.TheVariants as tree
use Rattle.llb_glob.specs.declared.fault.PatternFault.{PatternFault}
use Rattle.llb_glob.specs.declared.fault.PatternFault.TheVariants as pattern
use Rattle.llb_fileop.specs.declared.fault.ActFault.{ActFault}
use Rattle.llb_fileop.specs.declared.fault.ActFault.TheVariants.{File, BadPattern, Memory}

-- whether a fault is `Memory`, which no rule returns
abbrev pub is_memory : ActFault → Bool
is_memory Memory = true
is_memory (File f) = false
is_memory BadPattern = false

-- a call returns what its rule returns, or it fails for want of memory
abbrev pub Gives : {X Y : Type 0} → (X → Y) → Result X ActFault → Result Y ActFault → Type 0
Gives = answer.Gives is_memory

-- `Memory` is reported last: a call fails with `Memory` only if the call's rule returns a value
abbrev pub MemoryLast : {X Y : Type 0} → Result X ActFault → Result Y ActFault → Type 0
MemoryLast = answer.MemoryLast is_memory

-- the fault of an action whose path or tree has this fault
abbrev pub of_tree : TreeFault → ActFault
of_tree tree.Memory = Memory
of_tree tree.NotFound = File tree.NotFound
of_tree tree.NotDir = File tree.NotDir
of_tree tree.IsDir = File tree.IsDir
of_tree tree.Conflict = File tree.Conflict
of_tree tree.Root = File tree.Root
of_tree tree.BadName = File tree.BadName

-- the fault of an action whose pattern has this fault
abbrev pub of_pattern : PatternFault → ActFault
of_pattern pattern.Memory = Memory
of_pattern pattern.BadPattern = BadPattern

-- this result of a rule about paths or trees, in which a fault has become the fault of an action
abbrev pub on_tree : {A : Type 0} → Result A TreeFault → Result A ActFault
on_tree (Ok x) = Ok x
on_tree (Err f) = Err (of_tree f)

-- this result of a rule about patterns, in which a fault has become the fault of an action
abbrev pub on_pattern : {A : Type 0} → Result A PatternFault → Result A ActFault
on_pattern (Ok x) = Ok x
on_pattern (Err f) = Err (of_pattern f)
