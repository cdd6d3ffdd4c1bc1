use Rattle.llb_model.specs.Program.{shown_of}
use Rattle.llb_execution.proofs.Lists.{Copied}
use Rattle.llb_execution.proofs.exec_mounts.all_shown.Given as goal

abbrev pub invariant-loop-mount : goal.invariant-loop-mount
invariant-loop-mount l = Copied (shown_of l.inputs) l.mounts l.mount-index l.shown.items
