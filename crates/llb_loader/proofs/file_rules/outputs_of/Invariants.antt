use Rattle.std.proofs.Common.{◌≡◌, take}
use Rattle.llb_loader.specs.Rules.{outputs_of}
use Rattle.llb_loader.proofs.file_rules.outputs_of.Given as goal

abbrev pub invariant-loop-action : goal.invariant-loop-action
invariant-loop-action l = l.outputs.items ≡ outputs_of (take l.action-index l.actions)
