-- The result of reading the rest of an input, within a limit on the bytes and a bound on the number of reads.
use Rattle.std.specs.Prelude.{◌≡◌, ◌≤◌, ◌<◌, ◌+◌, ℕ, List, length, Option, Result, Ok, Err, IfSome, Vec}
use Rattle.std.specs.Io.KnownBytes.{Consumes, IsAtEnd}
use Rattle.std.specs.Global.{Global}
use Rattle.llb_commands.specs.declared.bounded_reading.ReadFault.{ReadFault}
use Rattle.llb_commands.specs.declared.bounded_reading.ReadFault.TheVariants.{TooLong, Failed, Unending, Memory}

-- at most `limit` bytes were read from the input, and what remains of the input is the bytes that follow them
pub record Took (limit : ℕ) (left left' : Option (List ℕ)) : Type 0 where
  pub bytes : List ℕ
  pub few : length bytes ≤ limit
  pub rest : Consumes left left' bytes

-- at most `limit` bytes were read, and each of the reads returned at least one byte or was interrupted
pub record TookIn (reads limit interrupted : ℕ) (left left' : Option (List ℕ)) : Type 0 where
  pub took : Took limit left left'
  pub each : reads ≤ length took.bytes + interrupted

-- All the rest of the input was read, within the limit. Or the rest is longer than the limit, a read failed, the bound on reads was met, or memory was refused.
abbrev pub ReadsAll : ℕ → ℕ → Option (List ℕ) → Option (List ℕ) → Result (Vec ℕ Global) ReadFault → Type 0
ReadsAll limit reads left left' (Ok bytes) = (length bytes.items ≤ limit) × IfSome left (λ xs. bytes.items ≡ xs) × IsAtEnd left'
ReadsAll limit reads left left' (Err TooLong) = IfSome left (λ xs. limit < length xs)
ReadsAll limit reads left left' (Err (Failed kind)) = Took limit left left'
ReadsAll limit reads left left' (Err (Unending interrupted)) = TookIn reads limit interrupted left left'
ReadsAll limit reads left left' (Err Memory) = Unit {0}
