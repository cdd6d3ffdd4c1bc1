-- The state while a part of a pattern is read, and the result of reading the part, given this state and the remaining characters.
use Rattle.std.specs.Prelude.{◌≡◌, ℕ, false, List, Result, Ok, Err}
use Rattle.llb_glob.specs.declared.fault.PatternFault.{PatternFault}
use Rattle.llb_glob.specs.declared.item.Item.{Item}
use Rattle.llb_glob.specs.declared.part.Reading.{Reading}
use Rattle.llb_glob.specs.CallResults.{is_memory}
use Rattle.llb_glob.specs.ItemReading.{behind, items_from}

-- the result of reading the part: the items so far, followed by the items of the remaining characters; or the fault
abbrev pub ahead : Reading → List ℕ → Result (List Item) PatternFault
ahead reading letters = behind reading.items.items (items_from letters reading.cursor reading.class)

-- if a character is read, the result (`ahead`) is the same before and after; if reading it fails, the fault is the result before, or `Memory`
abbrev pub Reads : Result (Unit {0}) PatternFault → Result (List Item) PatternFault → Result (List Item) PatternFault → Type 0
Reads (Ok _) before after = before ≡ after
Reads (Err e) before after = is_memory e ≡ false → before ≡ Err e
