use Rattle.std.proofs.Common.{◌≡◌, ◌+◌, ◌≤◌, ◌^◌, vec_len}
use Rattle.std.specs.Prelude.{vec_capacity}
use Rattle.std.specs.Vec.Iter.{into_iter_len}
use Rattle.llb_ready.specs.QueuePasses.{hand_of, IsReadyPassOf}
use Rattle.llb_work.specs.Threads.{AllKeep}
use Rattle.llb_work.proofs.thread_scope.Crew.all_serve.Given as goal

abbrev pub invariant-loop-news : goal.invariant-loop-news
invariant-loop-news g l = record {
  place : l.w + into_iter_len l.news-iterator ≡ l.workers;
  parts : l.all.parts + l.w ≡ l.workers;
  amount : l.all.amount ≡ 0;
  len : vec_len l.threads ≡ l.w;
  room : l.workers ≤ vec_capacity l.threads;
  of : IsReadyPassOf l.self.queue.now l.rest;
  num : (hand_of l.rest).num ≡ 1;
  den : (hand_of l.rest).den ≡ 2 ^ l.w;
  threads : AllKeep l.self.queue.now 0 l.threads.items;
}
