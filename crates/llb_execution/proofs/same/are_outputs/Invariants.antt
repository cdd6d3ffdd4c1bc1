use Rattle.std.proofs.Common.{◌≡◌, take}
use Rattle.llb_loader.specs.Rules.{mount_outputs}
use Rattle.llb_execution.proofs.same.are_outputs.Given as goal

abbrev pub invariant-loop-i : goal.invariant-loop-i
invariant-loop-i l = take l.i l.numbers ≡ mount_outputs (take l.i l.mounts)
