-- What the streams of a call hold before and after the call, if that is known.
use Rattle.std.specs.Prelude.{ℕ, List, Option}
use Rattle.std.specs.Io.KnownBytes.{Appends, Keeps}
use Rattle.llb_wire.specs.Sink.{PartOut}

-- what a stream holds before and after a call, if that is known: an input holds the bytes still to be read, and an output the bytes
-- written so far
pub record Stream : Type 0 where
  pub before : Option (List ℕ)
  pub after : Option (List ℕ)

-- nothing is written to the stream
abbrev pub IsKept : Stream → Type 0
IsKept s = Keeps s.before s.after

-- exactly this text is written to the stream
abbrev pub IsWritten : Stream → List ℕ → Type 0
IsWritten s text = Appends s.before s.after text

-- a prefix of this text is written to the stream, and nothing else
abbrev pub IsPartWritten : Stream → List ℕ → Type 0
IsPartWritten s text = PartOut s.before s.after text
