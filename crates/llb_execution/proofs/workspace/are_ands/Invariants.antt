use Rattle.std.proofs.Common.{◌≡◌, drop}
use Rattle.llb_model.specs.Program.{all_and}
use Rattle.llb_execution.proofs.workspace.are_ands.Given as goal

abbrev pub invariant-loop-command : goal.invariant-loop-command
invariant-loop-command l = all_and (drop l.command-index l.commands) ≡ all_and l.commands
