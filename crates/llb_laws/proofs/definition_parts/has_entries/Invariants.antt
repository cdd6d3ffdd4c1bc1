use Rattle.std.proofs.Common.{ℕ, ◌<◌, [], get_or}
use Rattle.std.specs.List.{Contains}
use Rattle.llb_laws.proofs.definition_parts.has_entries.Given as goal

abbrev pub invariant-loop-entry : goal.invariant-loop-entry
invariant-loop-entry l = (k : ℕ) → k < l.entry-index → Contains l.entries (get_or l.part k [])
