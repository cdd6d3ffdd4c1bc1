-- The record goes on; the workers so far run nothing.
use Rattle.std.proofs.Common.{◌≡◌, ◌<◌, ◌≤◌, ℕ, length}
use Rattle.std.specs.Prelude.{slice_get, None}
use Rattle.llb_model.specs.State.{runs}
use Rattle.llb_work.specs.LockSharingWorkers.{GoesOn}
use Rattle.llb_work.proofs.single_thread_driver.cancel_all.Given as goal

abbrev pub invariant-loop-w : goal.invariant-loop-w
invariant-loop-w l = record {
  goes : GoesOn l.initial.board l.board;
  few : length l.board.state.workers ≤ 64;
  idle : (i : ℕ) → i < l.w → runs (slice_get l.board.state.workers i) ≡ None;
}
