use Rattle.std.proofs.Common.{◌≡◌, false, take}
use Rattle.std.specs.List.{list_any}
use Rattle.llb_loader.specs.Features.{is_nameless}
use Rattle.llb_loader.proofs.features.any_nameless.Given as goal

abbrev pub invariant-loop-action : goal.invariant-loop-action
invariant-loop-action l = list_any (λ a. is_nameless a.kind) (take l.action-index l.actions) ≡ false
