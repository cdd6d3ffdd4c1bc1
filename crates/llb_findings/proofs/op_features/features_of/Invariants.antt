use Rattle.std.proofs.Common.{◌≡◌, ◌++◌, drop}
use Rattle.std.specs.List.{filter}
use Rattle.llb_loader.specs.Features.{has, features}
use Rattle.llb_findings.proofs.op_features.features_of.Given as goal

abbrev pub invariant-loop-feature : goal.invariant-loop-feature
invariant-loop-feature l = l.found.items ++ filter (has l.kind) (drop l.feature-index l.feature-items) ≡ filter (has l.kind) features
