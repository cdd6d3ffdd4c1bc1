use Rattle.std.proofs.Common.{◌≡◌, ◌≤◌, take}
use Rattle.llb_loader.specs.Rules.{count_outputs, outputs_of}
use Rattle.llb_loader.proofs.op_sizes.outputs_among.Given as goal

abbrev pub invariant-loop-action : goal.invariant-loop-action
invariant-loop-action l = record {
  counted : l.count ≡ count_outputs (take l.action-index (outputs_of l.actions));
  small : l.count ≤ l.action-index;
}
