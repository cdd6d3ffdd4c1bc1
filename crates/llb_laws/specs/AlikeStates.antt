-- States of the machine, replies and whole runs that differ only in the contents of files; a given relation R relates the contents.
use Rattle.std.specs.Prelude.{◌≡◌, ℕ, List}
use Rattle.llb_tree.specs.Tree.{TreeMap}
use Rattle.llb_model.specs.Program.{Build}
use Rattle.llb_model.specs.Caches.{Instance, Store, content}
use Rattle.llb_model.specs.State.{Status, Waiting, Running, Settled, Execution, WorkerStatus, Idle, Runs, State}
use Rattle.llb_model.specs.Table.{Job, Reply, Claimed, HasStepped, HasSettled, HasCancelled, claim_grant, step_grant, settle_grant, cancel_grant}
use Rattle.llb_laws.specs.AlikeTrees.{BothOptions, BothResults, BothLists, AreAlike, AreAlikeWorkspaces, AreAlikeWorks, BothEndings}

-- ---- states

-- two statuses that are equal, except that outputs may differ: P relates them (`BothEndings`)
abbrev pub BothStatuses : (TreeMap → TreeMap → Type 0) → Status → Status → Type 0
BothStatuses P Waiting Waiting = Unit {0}
BothStatuses P (Running w) (Running u) = w ≡ u
BothStatuses P (Settled d) (Settled e) = BothEndings P d e
BothStatuses P _ _ = ⊥

-- two statuses that are equal, except that contents of outputs may differ: R relates them (`AreAlikeEndings`)
abbrev pub AreAlikeStatuses : (List ℕ → List ℕ → Type 0) → Status → Status → Type 0
AreAlikeStatuses R = BothStatuses (AreAlike R)

-- two executions that are equal, except that contents in their workspaces may differ: R relates them (`AreAlikeWorkspaces`)
pub record AreAlikeExecutions (R : List ℕ → List ℕ → Type 0) (x y : Execution) : Type 0 where
  pub vertex : x.vertex ≡ y.vertex
  pub done : x.done ≡ y.done
  pub fault : x.fault ≡ y.fault
  pub own : AreAlikeWorkspaces R x.own y.own
  pub places : x.places ≡ y.places

-- both workers are idle, or both run executions that are equal except for contents, which R relates
abbrev pub AreAlikeWorkers : (List ℕ → List ℕ → Type 0) → WorkerStatus → WorkerStatus → Type 0
AreAlikeWorkers R Idle Idle = Unit {0}
AreAlikeWorkers R (Runs x) (Runs y) = AreAlikeExecutions R x y
AreAlikeWorkers R _ _ = ⊥

-- the caches have the same instances, and the two trees of each instance are equal except for contents, which R relates (`AreAlike`)
abbrev pub AreAlikeStores : (List ℕ → List ℕ → Type 0) → Store → Store → Type 0
AreAlikeStores R s t = (p : Instance) → BothOptions (AreAlike R) (content s p) (content t p)

-- two states that are equal, except that the contents of files may differ, in outputs, workspaces and caches: R relates the contents at each path
pub record AreAlikeStates (R : List ℕ → List ℕ → Type 0) (s t : State) : Type 0 where
  pub statuses : BothLists (AreAlikeStatuses R) s.statuses t.statuses
  pub workers : BothLists (AreAlikeWorkers R) s.workers t.workers
  pub store : AreAlikeStores R s.store t.store

-- ---- replies and runs

-- two jobs that are equal, except that contents in the work that a claim hands out may differ: R relates them
pub record AreAlikeJobs (R : List ℕ → List ℕ → Type 0) (j k : Job) : Type 0 where
  pub worker : j.worker ≡ k.worker
  pub vertex : j.vertex ≡ k.vertex
  pub program : j.program ≡ k.program
  pub done : j.done ≡ k.done
  pub work : AreAlikeWorks R j.work k.work
  pub instances : j.instances ≡ k.instances

-- the replies are equal; but of two claims' replies the contents in the work may differ, and R relates them
abbrev pub AreAlikeReplies : (List ℕ → List ℕ → Type 0) → Reply → Reply → Type 0
AreAlikeReplies R (Claimed j) (Claimed k) = AreAlikeJobs R j k
AreAlikeReplies R (HasStepped d) (HasStepped e) = d ≡ e
AreAlikeReplies R (HasSettled d) (HasSettled e) = d ≡ e
AreAlikeReplies R (HasCancelled d) (HasCancelled e) = d ≡ e
AreAlikeReplies R _ _ = ⊥

-- the states after an event, and the replies to it, are equal except for contents, which R relates
abbrev pub AreAlikeAnswers : (List ℕ → List ℕ → Type 0) → State × Reply → State × Reply → Type 0
AreAlikeAnswers R a b = AreAlikeStates R a.0 b.0 × AreAlikeReplies R a.1 b.1

-- in state s of build b and state t of build c, each event is granted in both, with answers that are equal except for contents, which R relates, or it is
-- refused in both for the same cause
pub record AnswerAlike (R : List ℕ → List ℕ → Type 0) (b c : Build) (s t : State) : Type 0 where
  pub claims : (w v : ℕ) → BothResults (AreAlikeAnswers R) (claim_grant b s w v) (claim_grant c t w v)
  pub steps : (w : ℕ) → BothResults (AreAlikeAnswers R) (step_grant b s w) (step_grant c t w)
  pub settles : (w : ℕ) → BothResults (AreAlikeAnswers R) (settle_grant b s w) (settle_grant c t w)
  pub cancels : (w : ℕ) → BothResults (AreAlikeAnswers R) (cancel_grant s w) (cancel_grant t w)

-- Two runs end in states that are equal except for contents, which R relates, and so are their replies, one by one. In the two states, each further event is
-- granted or refused alike.
pub record AreAlikeRuns (R : List ℕ → List ℕ → Type 0) (b c : Build) (a d : State × List Reply) : Type 0 where
  pub states : AreAlikeStates R a.0 d.0
  pub replies : BothLists (AreAlikeReplies R) a.1 d.1
  pub answers : AnswerAlike R b c a.0 d.0
