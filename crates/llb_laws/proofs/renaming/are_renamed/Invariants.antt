use Rattle.std.proofs.Common.{ℕ, ◌<◌, [], get_or, map}
use Rattle.llb_wire.specs.Digest.{digest_text}
use Rattle.llb_laws.specs.Renaming.{AreOpsAlike}
use Rattle.llb_laws.proofs.renaming.are_renamed.Given as goal

abbrev pub invariant-loop-k : goal.invariant-loop-k
invariant-loop-k l = (k : ℕ) → k < l.k
    → AreOpsAlike l.names (map digest_text l.entries) (map digest_text l.others) (get_or l.entries k []) (get_or l.others k [])
