use Rattle.std.proofs.Common.{ℕ, ◌<◌}
use Rattle.llb_loader.specs.GraphOfRows.{input_at}
use Rattle.llb_laws.specs.Renaming.{AreNamedAlike}
use Rattle.llb_laws.proofs.renaming.are_inputs_alike.Given as goal

abbrev pub invariant-loop-i : goal.invariant-loop-i
invariant-loop-i l = (k : ℕ) → k < l.i → AreNamedAlike l.digests l.others (input_at l.op k) (input_at l.other k)
