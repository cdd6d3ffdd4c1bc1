-- How much of a text is written by a call that may fail.
use Rattle.std.specs.Prelude.{◌≡◌, ℕ, List, Bool, true, false, Option, Result, Ok, Err}
use Rattle.std.specs.Io.KnownBytes.{Appends}
use Rattle.llb_wire.specs.Sink.{PartOut}

-- a call that succeeded has written the whole text; a call that failed, for want of memory or because the sink has failed, has written a prefix of the text
abbrev pub Writes : {F : Type 0} → (F → Bool) → Option (List ℕ) → Option (List ℕ) → Bool → List ℕ → Result (Unit {0}) F → Type 0
Writes is_memory taken taken' failed' text (Ok u) = Appends taken taken' text
Writes is_memory taken taken' failed' text (Err e) = (is_memory e ≡ false → failed' ≡ true) × PartOut taken taken' text
