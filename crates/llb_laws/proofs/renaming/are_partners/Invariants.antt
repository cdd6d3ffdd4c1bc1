use Rattle.std.proofs.Common.{◌≡◌, ℕ, ◌<◌, [], get_or}
use Rattle.llb_laws.specs.Renaming.{partner_in}
use Rattle.llb_laws.proofs.renaming.are_partners.Given as goal

abbrev pub invariant-loop-k : goal.invariant-loop-k
invariant-loop-k l = (k : ℕ) → k < l.k → partner_in l.entries l.others (get_or l.entries k []) ≡ get_or l.others k []
