-- What was read is what the reader returned, and each read returned something or was interrupted.
use Rattle.std.proofs.Common.{◌≡◌, ◌≤◌, ◌+◌, length}
use Rattle.std.specs.Io.KnownBytes.{Consumes}
use Rattle.llb_commands.proofs.bounded_reading.read_bounded.Given as goal

abbrev pub invariant-loop-i : goal.invariant-loop-i
invariant-loop-i g l =
    (length l.bytes.items ≤ l.limit) × (length l.piece ≡ 4096) × Consumes (g.R.Read.remaining l.initial.input) (g.R.Read.remaining l.input) l.bytes.items
    × (l._i ≤ length l.bytes.items + l.interrupted) × (l.interrupted ≤ l._i)
