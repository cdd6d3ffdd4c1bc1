-- The first mounts have their trees of now.
use Rattle.std.proofs.Common.{◌≡◌, length}
use Rattle.llb_session.specs.Reasons.{shown_now}
use Rattle.llb_session.proofs.reasons.view_now.Given as goal

abbrev pub invariant-loop-i : goal.invariant-loop-i
invariant-loop-i l = (l.view ≡ shown_now l.board.state l.w l.mounts l.i) × (length l.view ≡ length l.mounts)
