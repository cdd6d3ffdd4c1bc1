use Rattle.std.proofs.Common.{◌≡◌, false, take}
use Rattle.std.specs.List.{list_any}
use Rattle.llb_loader.specs.Features.{copies_with, has_pattern}
use Rattle.llb_loader.proofs.features.any_has_pattern.Given as goal

abbrev pub invariant-loop-action : goal.invariant-loop-action
invariant-loop-action l = list_any (λ a. copies_with has_pattern a.kind) (take l.action-index l.actions) ≡ false
