use Rattle.std.proofs.Common.{◌≡◌, ◌≤◌, take}
use Rattle.llb_loader.specs.Rules.{count_outputs}
use Rattle.llb_loader.proofs.indices.count_among.Given as goal

abbrev pub invariant-loop-output : goal.invariant-loop-output
invariant-loop-output l = record {
  counted : l.count ≡ count_outputs (take l.output-index l.outputs);
  small : l.count ≤ l.output-index;
}
