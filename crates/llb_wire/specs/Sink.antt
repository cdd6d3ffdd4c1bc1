-- How a sink takes bytes. Contracts see the bytes that the sink took so far, if they are known, and whether the sink has failed.
use Rattle.std.specs.Prelude.{◌≡◌, ◌≤◌, ◌<◌, ℕ, Bool, true, false, List, ◌++◌, length, take, Option, Result, Ok, Err}
use Rattle.std.specs.Io.KnownBytes.{Appends, Keeps}
use Rattle.llb_wire.specs.declared.sink.Failed.{Failed}

-- one write: a sink that has not failed takes a prefix of the bytes, at least one byte if there are any; or the write fails, and every later write fails too
abbrev pub Takes : Option (List ℕ) → Bool → Option (List ℕ) → Bool → List ℕ → Result ℕ Failed → Type 0
Takes taken failed taken' failed' bytes (Ok n) = (failed ≡ false) × (failed' ≡ false)
    × (n ≤ length bytes) × (0 < length bytes → 0 < n) × Appends taken taken' (take n bytes)
Takes taken failed taken' failed' bytes (Err e) = (failed' ≡ true) × Keeps taken taken'

-- a prefix of the text is written, and no more
abbrev pub PartOut : Option (List ℕ) → Option (List ℕ) → List ℕ → Type 0
PartOut taken taken' text = (front : List ℕ) × (rest : List ℕ) × (text ≡ front ++ rest) × Appends taken taken' front

-- the whole text was written; or the sink failed, and a prefix of the text was written
abbrev pub TakesAll : Option (List ℕ) → Option (List ℕ) → Bool → List ℕ → Result (Unit {0}) Failed → Type 0
TakesAll taken taken' failed' text (Ok u) = Appends taken taken' text
TakesAll taken taken' failed' text (Err e) = (failed' ≡ true) × PartOut taken taken' text
