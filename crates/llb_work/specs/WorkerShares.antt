-- What is handed out to the workers before their threads start, and what they give back. A pass is the right to use the queue (llb_ready).
use Rattle.std.specs.Prelude.{◌≡◌, ℕ, ◌≤◌, sum, vec_len, vec_capacity}
use Rattle.llb_ready.specs.declared.queue.ReadyQueue.{ReadyQueue}
use Rattle.llb_ready.specs.QueuePasses.{IsReadyPassOf, IsWhole}
use Rattle.llb_work.specs.declared.worker_shares.HandOut.{HandOut}
use Rattle.llb_work.specs.declared.worker_shares.GivenBack.{GivenBack}
use Rattle.llb_work.specs.WorkerPasses.{IsUncut}

module _ {L : Type 0} where
  -- what is handed out: the whole pass of the queue; for each of at most 64 workers a share of the ledger (which counts events), a list and room for a thread
  pub record IsHandedOut (q : ReadyQueue) (out : HandOut L) : Type 0 where
    pub parts : out.share.parts ≡ out.workers
    pub amount : out.share.amount ≡ 0
    pub few : out.workers ≤ 64
    pub pass : IsUncut q out.pass
    pub lists : vec_len out.lists ≡ out.workers
    pub no_threads : vec_len out.threads ≡ 0
    pub threads : out.workers ≤ vec_capacity out.threads

  -- what n workers give back: their shares of the ledger (which counts events), whose amount is how many events they made, and the whole pass of the queue
  pub record IsGivenBack (q : ReadyQueue) (n : ℕ) (back : GivenBack L) : Type 0 where
    pub parts : back.share.parts ≡ n
    pub amount : back.share.amount ≡ sum back.made
    pub of : IsReadyPassOf q back.pass
    pub whole : IsWhole back.pass
