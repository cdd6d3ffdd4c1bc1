use Rattle.std.proofs.Common.{◌≡◌, ◌++◌, map, take}
use Rattle.llb_loader.specs.declared.fault.LoadFault.TheVariants.{Unsupported}
use Rattle.llb_findings.proofs.row_findings.add_features_of.Given as goal

abbrev pub invariant-loop-feature : goal.invariant-loop-feature
invariant-loop-feature l = l.found.items ≡ l.fn.found.items ++ map (λ f. Unsupported l.k f) (take l.feature-index l.all)
