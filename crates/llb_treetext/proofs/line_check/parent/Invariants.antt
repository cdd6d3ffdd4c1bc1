-- No slash is after what is left.
use Rattle.std.proofs.Common.{◌≡◌, ◌++◌, ℕ, List, length}
use Rattle.llb_treetext.proofs.SlashedNames.{NoSlash}
use Rattle.llb_treetext.proofs.line_check.parent.Given as goal

abbrev pub invariant-loop-byte : goal.invariant-loop-byte
invariant-loop-byte l = (back : List ℕ) × (l.names ≡ l.rest ++ back) × NoSlash back

abbrev pub decreases-loop-byte : goal.decreases-loop-byte
decreases-loop-byte l = length l.rest
