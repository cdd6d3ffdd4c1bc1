-- How much of a text a call has written, if it succeeds and if it fails.
use Rattle.std.specs.Prelude.{ℕ, List, Option, Result, Ok, Err}
use Rattle.std.specs.Io.KnownBytes.{Appends}
use Rattle.llb_wire.specs.Sink.{PartOut}
pub use Rattle.llb_treetext.specs.WrittenPrefix.{Writes}

-- a call that succeeds has written the whole text; a call that fails has written a prefix of the text
abbrev pub PrintsOut : {F : Type 0} → Option (List ℕ) → Option (List ℕ) → List ℕ → Result (Unit {0}) F → Type 0
PrintsOut out out' text (Ok u) = Appends out out' text
PrintsOut out out' text (Err e) = PartOut out out' text
