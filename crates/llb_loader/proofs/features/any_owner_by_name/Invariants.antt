use Rattle.std.proofs.Common.{◌≡◌, false, take}
use Rattle.std.specs.List.{list_any}
use Rattle.llb_loader.specs.Rules.{owner_of, owner_by_name}
use Rattle.llb_loader.proofs.features.any_owner_by_name.Given as goal

abbrev pub invariant-loop-action : goal.invariant-loop-action
invariant-loop-action l = list_any (λ a. owner_by_name (owner_of a.kind)) (take l.action-index l.actions) ≡ false
