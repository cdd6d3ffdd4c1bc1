use Rattle.std.proofs.Common.{◌≡◌, ◌+◌, ◌*◌, ◌≤◌, ◌<◌, ◌^◌, ℕ, get_or, length}
use Rattle.std.specs.Prelude.{sum}
use Rattle.std.specs.Vec.Iter.{into_iter_len, into_iter_items}
use Rattle.llb_ready.specs.QueuePasses.{hand_of, IsReadyPassOf}
use Rattle.llb_work.specs.Threads.{AllKeep}
use Rattle.llb_work.proofs.thread_scope.Crew.gathered.Given as goal

abbrev pub invariant-loop-thread : goal.invariant-loop-thread
invariant-loop-thread g l = record {
  place : l.at + into_iter_len l.thread-iterator ≡ l.n;
  parts : l.all.parts ≡ l.at;
  amount : l.all.amount ≡ sum l.made;
  len : length l.made ≡ 64;
  none : (k : ℕ) → l.at ≤ k → get_or l.made k 0 ≡ 0;
  of : IsReadyPassOf l.self.queue.now l.rest;
  some : 0 < (hand_of l.rest).den;
  joined : ((hand_of l.rest).num * 2 ^ l.n) * 2 ^ l.at + (hand_of l.rest).den * 2 ^ l.n ≡ ((hand_of l.rest).den * (2 ^ l.n + 1)) * 2 ^ l.at;
  threads : AllKeep l.self.queue.now l.at (into_iter_items l.thread-iterator);
}
