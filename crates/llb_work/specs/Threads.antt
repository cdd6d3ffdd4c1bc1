-- What is known about the workers' threads and the passes that they return.
use Rattle.std.specs.Prelude.{◌≡◌, ℕ, ◌+◌, ◌<◌, List, length, get_or}
use Rattle.llb_ready.specs.declared.queue.ReadyQueue.{ReadyQueue}
use Rattle.llb_work.specs.declared.worker_thread.WorkerThread.{WorkerThread}
use Rattle.llb_work.specs.declared.worker_thread.WorkerThread.TheVariants.{Thread, Here}
use Rattle.llb_work.specs.WorkerPasses.{IsPassFor}

module _ {L : Type 0} where
  -- a running thread has promised to return this worker's pass; if no thread could be started, what the worker gave back (`kit`) has the pass
  abbrev pub ThreadKeeps : ReadyQueue → ℕ → WorkerThread L → Type 0
  ThreadKeeps q w (Thread h) = (h.promise.queue.value ≡ q) × (h.promise.worker ≡ w)
  ThreadKeeps q w (Here kit) = IsPassFor q w kit.pass

  -- each thread of the list returns the pass of its worker; the first thread is that of worker `from`
  abbrev pub AllKeep : ReadyQueue → ℕ → List (WorkerThread L) → Type 0
  AllKeep q from threads = (k : ℕ) (d : WorkerThread L) → k < length threads → ThreadKeeps q (from + k) (get_or threads k d)
