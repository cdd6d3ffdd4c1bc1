use Rattle.std.proofs.Common.{◌≡◌, false, take}
use Rattle.std.specs.List.{list_any}
use Rattle.llb_model.specs.Caches.{Instance}
use Rattle.llb_board.specs.Jobs.{is_shared}
use Rattle.llb_board.proofs.board.landing.has_shared.Given as goal

abbrev pub invariant-loop-place : goal.invariant-loop-place
invariant-loop-place l = list_any (λ (p : Instance). is_shared p.key.mode) (take l.place-index l.places) ≡ false
