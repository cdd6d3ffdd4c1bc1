use Rattle.llb_execution.proofs.TreeExchanges.{Exchanging}
use Rattle.llb_execution.proofs.commands_on_caches.swap_all.Given as goal

abbrev pub invariant-loop-i : goal.invariant-loop-i
invariant-loop-i l = Exchanging l.initial.mounts l.numbers l.initial.trees.items l.i l.mounts l.trees.items
