-- What is under the lock may go to another thread, and so may what a worker has of its own.
use denote.Builtin.{u32}
use denote.Hole.{as_row}
use denote.Param.Send.{IsSend, IsSync, sendable, shr_send}
use denote.Param.SendFields.{as_row_send, declared_send}
use denote.RattleType.{RattleType}
use denote.Ref.{NamedLft}
use denote.Struct.Field.{row_field}
use denote.Struct.Tuple.{TupleAt, type_at}
use mathlib.Core.List.{[], ◌∷◌}
use mir.Syntax.{Sym}
use Rattle.std.proofs.Crossing.{crosses}
use Rattle.std.proofs.sync.ledger.Book.TheSendSync as book_crosses
use Rattle.std.proofs.sync.ledger.Share.TheSendSync as share_crosses
use Rattle.std.specs.contracts.sync.ledger.Book as book
use Rattle.std.specs.contracts.sync.ledger.Share as share
use Rattle.std.specs.declared.sync.ledger.Ledger as ledger
use Rattle.std.specs.contracts.sync.Mutex as mutex
use Rattle.llb_board.proofs.ThreadTransfers.{board_crosses}
use Rattle.llb_ready.proofs.queue.ReadyPass.TheSendSync as pass_crosses
use Rattle.llb_ready.proofs.queue.ReadyQueue.TheSendSync as queue_crosses
use Rattle.llb_ready.specs.contracts.queue.ReadyQueue as queue
use Rattle.llb_board.specs.contracts.board.Board as board
use Rattle.llb_work.specs.declared.early_end.Gated as gated
use Rattle.llb_work.specs.contracts.event_counts.Tally as tally
use Rattle.llb_work.specs.contracts.shared_board.SharedBoard as shared
use Rattle.llb_work.specs.contracts.locked_value.Watch as watch
use Rattle.llb_work.specs.contracts.key_waiters.KeyWaiters as waiters
use Rattle.llb_work.specs.contracts.idle_workers.Idle as idle
use Rattle.llb_work.proofs.key_waiters.KeyWaiters.TheSendSync as waiters_cross
use Rattle.llb_work.proofs.idle_workers.Idle.TheSendSync as idle_crosses
use Rattle.llb_work.specs.contracts.thread_scope.Crew as crew
use Rattle.llb_work.specs.contracts.worker.WorkerKit as kit

-- several threads may have the queue of the run at once
pub queue_shared : IsSync queue.the_row
queue_shared = queue_crosses.the_sync

-- the number of a worker, one of 32 bits, may go to another thread
pub number : IsSend u32
number = search sendable

-- several threads may wait at one place
pub idle_shared : IsSync idle.the_row
idle_shared = idle_crosses.the_sync

waiters_send : IsSend waiters.the_row
waiters_send = waiters_cross.the_send

board_send : IsSend (as_row board.the_field)
board_send = as_row_send board.the_field board_crosses

module _ (T : RattleType) (g' : ledger.Ghosts T.Denot) where
  tally_crosses : IsSend (tally.the_row T g')
  tally_crosses = declared_send (tally.the_type T g') (search sendable, (as_row_send (share.the_field T g') (share_crosses.the_send T g'), tt))

  -- what a worker has of its own may go to another thread
  pub kit_crosses : IsSend (kit.the_row T g')
  kit_crosses = declared_send (kit.the_type T g') (
    tally_crosses,
    (pass_crosses.the_send, (search (crosses, sendable) depth 20, tt)),
  )

module _ (T : RattleType) (g : gated.Ghosts T.Denot) (g' : ledger.Ghosts T.Denot) where
  shared_board_crosses : IsSend (shared.the_row T g g')
  shared_board_crosses = declared_send (shared.the_type T g g') (
    board_send,
    (
      board_send,
      (
        search (crosses, sendable) depth 20,
        (
          waiters_send,
          (
            as_row_send (book.the_field T g') (book_crosses.the_send T g'),
            (search sendable, (search (crosses, sendable) depth 20, tt)),
          ),
        ),
      ),
    ),
  )

  watch_crosses : IsSend (watch.the_row T g g')
  watch_crosses = declared_send (watch.the_type T g g') (shared_board_crosses, (search (crosses, sendable) depth 20, tt))

  -- several threads may use the watch in its lock
  pub lock_crosses : IsSync (mutex.the_row (watch.the_row T g g'))
  lock_crosses = search (watch_crosses, crosses, sendable) depth 20

  -- what all workers use may go to another thread
  pub crew_crosses : (κ : NamedLft) (G R : RattleType) → IsSync G → IsSync R → IsSend (crew.the_row κ T G R g g')
  crew_crosses κ G R gate rt =
      declared_send (crew.the_type κ T G R g g') (
        shr_send _ _ R rt,
        (
          search (crosses, sendable) depth 20,
          (
            shr_send _ _ (mutex.the_row (watch.the_row T g g')) lock_crosses,
            (
              shr_send _ _ queue.the_row queue_shared,
              (shr_send _ _ idle.the_row idle_shared, (shr_send _ _ G gate, tt)),
            ),
          ),
        ),
      )

-- three values, which a closure takes with it, may go to another thread together if each may
pub three_cross : (ν : Sym) (A B C : RattleType) → IsSend A → IsSend B → IsSend C → IsSend (TupleAt ν (A ∷ B ∷ C ∷ []))
three_cross ν A B C a b c =
    declared_send (type_at ν (A ∷ B ∷ C ∷ [])) (as_row_send (row_field A) a, (as_row_send (row_field B) b, (as_row_send (row_field C) c, tt)))
