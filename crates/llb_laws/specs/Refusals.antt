-- Why definitions, and boards over them, are refused. A call that takes two definitions has the refusal of the first; or else, that of the second.
use Rattle.std.specs.Prelude.{◌≡◌, ◌⊎◌, ℕ, Bool, true, false, List, Ok, Err}
use Rattle.llb_ops.specs.declared.fault.OpFault.{OpFault}
use Rattle.llb_ops.specs.Definition.{definition_of}
use Rattle.llb_loader.specs.declared.fault.LoadFault.{LoadFault}
use Rattle.llb_loader.specs.declared.fault.LoadFault.TheVariants as load
use Rattle.llb_loader.specs.Graph.{Numbered}
use Rattle.llb_loader.specs.LoadResult.{IsGraphIn, IsRefusalIn}
use Rattle.llb_board.specs.Opening.{may_work}
use Rattle.llb_laws.specs.Definitions.{HasPart}
use Rattle.llb_laws.specs.declared.fault.KeptFault.{KeptFault}
use Rattle.llb_laws.specs.declared.fault.KeptFault.TheVariants as kept

-- ---- definitions

-- the definition is loaded as some graph
abbrev pub IsLoaded : List ℕ → Type 0
IsLoaded d = (g : Numbered) × IsGraphIn d g

-- f is the refusal of the first definition; or the first is loaded, and f is the refusal of the second
abbrev pub IsRefusalOfTwo : List ℕ → List ℕ → LoadFault → Type 0
IsRefusalOfTwo d e f = IsRefusalIn d f ⊎ (IsLoaded d × IsRefusalIn e f)

-- the bytes can't be read as a definition, and f reports why
abbrev pub IsUnreadable : List ℕ → LoadFault → Type 0
IsUnreadable d f = (why : OpFault) × (definition_of d ≡ Err why) × (f ≡ load.Definition why)

-- f is the refusal of a definition and a part of it: one of them can't be read, the first rather than the second; or the second is a part of the first, and f
-- is the refusal of one of them
abbrev pub IsRefusalOfPart : List ℕ → List ℕ → LoadFault → Type 0
IsRefusalOfPart d e f = IsUnreadable d f ⊎ ((xs : List (List ℕ)) × (definition_of d ≡ Ok xs)
    × (IsUnreadable e f ⊎ ((ys : List (List ℕ)) × (definition_of e ≡ Ok ys) × HasPart xs ys × IsRefusalOfTwo d e f)))

-- ---- boards

-- whether a fault is `Memory`, with which a call fails if memory is refused
abbrev pub is_memory : KeptFault → Bool
is_memory kept.Memory = true
is_memory kept.Workers = false
is_memory (kept.Load f) = false

-- the fault that reports this fault of loading: the definition is refused, or memory is refused
abbrev pub load_refused : LoadFault → KeptFault
load_refused load.Memory = kept.Memory
load_refused f = kept.Load f

-- e is the refusal 122, and a board may not have this number of workers; or a board may have it, and e is the refusal of the definition
abbrev pub IsRefusalOfKept : List ℕ → ℕ → KeptFault → Type 0
IsRefusalOfKept d workers e = ((may_work workers ≡ false) × (e ≡ kept.Workers))
    ⊎ ((may_work workers ≡ true) × (f : LoadFault) × IsRefusalIn d f × (e ≡ kept.Load f))
