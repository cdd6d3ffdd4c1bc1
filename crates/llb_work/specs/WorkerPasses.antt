-- The parts of a queue's pass that workers hold; a pass is the right to use the queue (llb_ready).
use Rattle.std.specs.Prelude.{◌≡◌, ℕ, ◌+◌, ◌^◌}
use Rattle.llb_ready.specs.declared.queue.ReadyQueue.{ReadyQueue}
use Rattle.llb_ready.specs.declared.queue.ReadyPass.{ReadyPass}
use Rattle.llb_ready.specs.QueuePasses.{hand_of, IsReadyPassOf}

-- p is the whole pass of this queue
abbrev pub IsUncut : ReadyQueue → ReadyPass → Type 0
IsUncut q p = IsReadyPassOf q p × ((hand_of p).num ≡ 1) × ((hand_of p).den ≡ 1)

-- p is the pass of worker w: a part of this queue's pass, 1 / 2^(w + 1) of the whole
abbrev pub IsPassFor : ReadyQueue → ℕ → ReadyPass → Type 0
IsPassFor q w p = IsReadyPassOf q p × ((hand_of p).num ≡ 1) × ((hand_of p).den ≡ 2 ^ (w + 1))
