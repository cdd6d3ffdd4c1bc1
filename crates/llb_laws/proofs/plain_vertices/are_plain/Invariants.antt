use Rattle.std.proofs.Common.{◌≡◌, ℕ, ◌<◌, true, get_or}
use Rattle.llb_laws.specs.KeptOutputs.{plain_in}
use Rattle.llb_laws.proofs.plain_vertices.are_plain.Given as goal

abbrev pub invariant-loop-edge : goal.invariant-loop-edge
invariant-loop-edge l = (k : ℕ) → k < l.edge-index → plain_in l.plains (get_or l.edges k (record { vertex = 0; index = 0 })).vertex ≡ true
