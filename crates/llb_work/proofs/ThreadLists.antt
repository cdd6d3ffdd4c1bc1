-- Lists of threads: what is known of each thread is known of the first and of the rest, and of one more at the end.
use Rattle.std.proofs.Common.{◌≡◌, ℕ, zero, suc, ◌+◌, List, [], ◌∷◌, ◌++◌, length, get_or, sym, subst, arith}
use Rattle.llb_ready.specs.declared.queue.ReadyQueue.{ReadyQueue}
use Rattle.llb_work.specs.declared.worker_thread.WorkerThread.{WorkerThread}
use Rattle.llb_work.specs.Threads.{ThreadKeeps, AllKeep}

module _ {L : Type 0} where
  pub keeps_rest : (q : ReadyQueue) (from : ℕ) (p : WorkerThread L) (threads : List (WorkerThread L)) → AllKeep q from (p ∷ threads)
      → AllKeep q (suc from) threads
  keeps_rest q from p threads h k d low =
      let P : ℕ → Type 0 = λ n. ThreadKeeps q n (get_or threads k d) in
      let e : from + suc k ≡ suc from + k = omega arith in
      subst P e (h (suc k) d (omega arith))

  pub keeps_more : (q : ReadyQueue) (from : ℕ) (threads : List (WorkerThread L)) (p : WorkerThread L) → AllKeep q from threads
      → ThreadKeeps q (from + length threads) p → AllKeep q from (threads ++ p ∷ [])
  keeps_more q from [] p h mine zero d low = mine
  keeps_more q from [] p h mine (suc k) d low = absurd (omega arith)
  keeps_more q from (x ∷ xs) p h mine zero d low = h zero d (omega arith)
  keeps_more q from (x ∷ xs) p h mine (suc k) d low =
      let P : ℕ → Type 0 = λ n. ThreadKeeps q n (get_or (xs ++ p ∷ []) k d) in
      let M : ℕ → Type 0 = λ n. ThreadKeeps q n p in
      let e : suc from + k ≡ from + suc k = omega arith in
      let m : from + length (x ∷ xs) ≡ suc from + length xs = omega arith in
      subst P e (keeps_more q (suc from) xs p (keeps_rest q from x xs h) (subst M m mine) k d (omega arith))

  pub keeps_first : (q : ReadyQueue) (from : ℕ) (p : WorkerThread L) (threads : List (WorkerThread L)) → AllKeep q from (p ∷ threads) → ThreadKeeps q from p
  keeps_first q from p threads h =
      let P : ℕ → Type 0 = λ n. ThreadKeeps q n p in
      let e : from + 0 ≡ from = omega arith in
      subst P e (h 0 p (omega arith))

  -- a list that is equal to one that keeps all its passes keeps them too
  pub keeps_same : (q : ReadyQueue) (from : ℕ) (xs ys : List (WorkerThread L)) → xs ≡ ys → AllKeep q from ys → AllKeep q from xs
  keeps_same q from xs ys e h = let P : List (WorkerThread L) → Type 0 = AllKeep q from in subst P (sym e) h

  -- the first thread keeps its pass, and the rest keep theirs, counted from the next worker
  pub keeps_next : (q : ReadyQueue) (from : ℕ) (p : WorkerThread L) (xs rest : List (WorkerThread L)) → xs ≡ p ∷ rest → AllKeep q from xs
      → ThreadKeeps q from p × AllKeep q (from + 1) rest
  keeps_next q from p xs rest e h =
      let P : List (WorkerThread L) → Type 0 = AllKeep q from in
      let Q : ℕ → Type 0 = λ n. AllKeep q n rest in
      let all : AllKeep q from (p ∷ rest) = subst P e h in
      let e' : suc from ≡ from + 1 = omega arith in
      (keeps_first q from p rest all, subst Q e' (keeps_rest q from p rest all))

  -- if a thread that keeps its pass is pushed at the place of its worker, all threads keep their passes
  pub keeps_pushed : (q : ReadyQueue) (n : ℕ) (xs threads : List (WorkerThread L)) (p : WorkerThread L) → xs ≡ threads ++ p ∷ [] → length threads ≡ n
      → AllKeep q 0 threads → ThreadKeeps q n p → AllKeep q 0 xs
  keeps_pushed q n xs threads p e len h mine =
      let P : ℕ → Type 0 = λ k. ThreadKeeps q k p in
      let e' : n ≡ 0 + length threads = omega (arith, len) in
      keeps_same q 0 xs (threads ++ p ∷ []) e (keeps_more q 0 threads p h (subst P e' mine))
