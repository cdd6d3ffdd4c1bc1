use Rattle.std.proofs.Common.{ℕ, ◌<◌, ◌≤◌, get_or}
use Rattle.llb_loader.specs.WaitingRows.{IsMarked}
use Rattle.llb_loader.proofs.numbering.first_open.Given as goal

abbrev pub invariant-loop-i : goal.invariant-loop-i
invariant-loop-i l = (k : ℕ) → l.from ≤ k → k < l.i → IsMarked l.done (get_or l.named k 0)
