-- The definitions that clauses use for a queue and its passes.
use Rattle.std.specs.Prelude.{◌≡◌, ℕ}
use Rattle.crossbeam_queue.specs.Passes.{view, IsPassOf, ruled_capacity}
use Rattle.llb_ready.specs.declared.pass_knowledge.Hand.{Hand}
use Rattle.llb_ready.specs.declared.queue.ReadyQueue.{ReadyQueue}
use Rattle.llb_ready.specs.declared.queue.ReadyPass.{ReadyPass}
use Rattle.llb_ready.specs.PassKnowledge.{HasAll}

-- what contracts know of a pass: its fraction, the queue's room, and the numbers that were put and taken with it
abbrev pub hand_of : ReadyPass → Hand
hand_of p = view p.pass

-- how many numbers a queue has room for
abbrev pub capacity_of : ReadyQueue → ℕ
capacity_of q = ruled_capacity q.queue

-- the pass belongs to this queue, and its `room` is how many numbers the queue has room for
abbrev pub IsReadyPassOf : ReadyQueue → ReadyPass → Type 0
IsReadyPassOf q p = IsPassOf q.queue p.pass × ((hand_of p).room ≡ capacity_of q)

-- the pass is the whole one: its fraction is 1
abbrev pub IsWhole : ReadyPass → Type 0
IsWhole p = HasAll (hand_of p)
