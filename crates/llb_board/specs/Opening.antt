-- The result of opening a board: the board; or the first cause of a refusal, with the graph, the local trees and the caches that the call was made with.
use Rattle.std.specs.Prelude.{ℕ, nat_le, Bool, true, false, ◌&&◌, List, Option, Some, None, Result, Ok, Err, if◌then◌else◌}
use Rattle.llb_wire.specs.CallResults as answer
use Rattle.llb_cache.specs.Caches.{CachesValue}
use Rattle.llb_model.specs.Program.{Build}
use Rattle.llb_loader.specs.FirstMissingTree.{missing_local}
use Rattle.llb_board.specs.BoardValue.{BoardValue, opened}
use Rattle.llb_board.specs.declared.fault.OpenFault.{OpenFault}
use Rattle.llb_board.specs.declared.fault.OpenFault.TheVariants as opening

-- whether a board may have this number of workers: 1 to 64
abbrev pub may_work : ℕ → Bool
may_work workers = nat_le 1 workers && nat_le workers 64

-- a board opened on these caches, or the refusal 122 if a board may not have this number of workers
abbrev pub open_with : Build → CachesValue → ℕ → Result BoardValue OpenFault
open_with b c workers = if may_work workers then Ok (opened b workers c.rows) else Err (opening.Workers b.graph b.locals c)

-- the refusal 121 if the name of a missing local tree is given; else the result of `open_with`
abbrev pub open_unless : Option (List ℕ) → Build → CachesValue → ℕ → Result BoardValue OpenFault
open_unless (Some name) b c workers = Err (opening.MissingLocal name b.graph b.locals c)
open_unless None b c workers = open_with b c workers

-- what opening a board returns if memory suffices; a missing local tree is reported before a wrong number of workers
abbrev pub open_of : Build → CachesValue → ℕ → Result BoardValue OpenFault
open_of b c workers = open_unless (missing_local b.locals b.graph.vertices) b c workers

-- whether opening may need memory (for the board, or for the name of a missing local tree), given what it returns if memory suffices
abbrev pub may_want_memory : Result BoardValue OpenFault → Bool
may_want_memory (Ok b) = true
may_want_memory (Err (opening.MissingLocal name g ts c)) = true
may_want_memory (Err (opening.Workers g ts c)) = false
may_want_memory (Err (opening.Memory g ts c)) = false

-- the graph, the local trees and the caches that a refusal returns
abbrev pub returned : OpenFault → Build × CachesValue
returned (opening.Memory g ts c) = (record { graph = g; locals = ts }, c)
returned (opening.Workers g ts c) = (record { graph = g; locals = ts }, c)
returned (opening.MissingLocal name g ts c) = (record { graph = g; locals = ts }, c)

-- whether a refusal of opening is `Memory`
abbrev pub open_memory : OpenFault → Bool
open_memory (opening.Memory g ts c) = true
open_memory (opening.Workers g ts c) = false
open_memory (opening.MissingLocal name g ts c) = false

-- opening returns what `open_of` says, or it fails for want of memory
abbrev pub GivesOpen : {X Y : Type 0} → (X → Y) → Result X OpenFault → Result Y OpenFault → Type 0
GivesOpen = answer.Gives open_memory
