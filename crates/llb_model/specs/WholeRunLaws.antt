-- What is true of every whole run, even if executions share caches.
use Rattle.std.specs.Prelude.{◌≡◌, ◌≢◌, ◌<◌, ℕ, zero, suc, ◌+◌, ◌-◌, ◌==◌, nat_le, Bool, true, false, not, ◌&&◌, ◌||◌, List, [], ◌∷◌, length, map, drop}
use Rattle.std.specs.Prelude.{Option, Some, None, is_some, option_map, unwrap_or, slice_get, if◌then◌else◌}
use Rattle.llb_cache.specs.declared.key.Key.{Key}
use Rattle.llb_cache.specs.declared.key.Mode.TheVariants.{Locked}
use Rattle.llb_ops.specs.declared.exec.ExecOp.{ExecOp}
use Rattle.llb_ops.specs.declared.op.Kind.TheVariants as kind
use Rattle.llb_loader.specs.declared.graph.Vertex.{Vertex}
use Rattle.llb_applet.specs.declared.joined_commands.Join.TheVariants.{Then}
use Rattle.llb_applet.specs.declared.joined_commands.Joined.{Joined}
use Rattle.llb_applet.specs.declared.directory_and_variables.Setting.{Setting}
use Rattle.llb_mount.specs.declared.shown_tree.Shown.{Shown}
use Rattle.llb_tree.specs.Tree.{TreeMap}
use Rattle.llb_model.specs.Caches.{Instance, place, Store, content, put, Hold, Has, Distinct, IsExclusive}
use Rattle.llb_events.specs.declared.fault.VertexFault.{VertexFault}
use Rattle.llb_events.specs.declared.fault.VertexFault.TheVariants as fault
use Rattle.llb_model.specs.Program.{Build, MicroStep, Run, Mounted, Work, Need, key_of, needs_of, has_cache, all_and, runs_of, filled, taken, blanked}
use Rattle.llb_model.specs.Program.{last_of, is_run, part}
use Rattle.llb_model.specs.State.{Running, Execution, Runs, State, Opening, opening, program_in, is_finished, IsFree, places_by}
use Rattle.llb_events.specs.declared.event.Event.{Event}
use Rattle.llb_events.specs.declared.event.Event.TheVariants.{Claim}
use Rattle.llb_model.specs.Table.{Job, Reply, Claimed, worker_of, table}
use Rattle.llb_model.specs.Run.{run, chosen}
use Rattle.llb_model.specs.ClaimOrder.{at_first, order, claims_in, StandsIn}
use Rattle.llb_model.specs.Landing.{is_over}

-- a state to which events lead from an opening state
pub record IsReached (b : Build) (s : State) : Type 0 where
  pub opened : Opening
  pub events : List Event
  pub replies : List Reply
  pub leads : run b (opening b opened) events ≡ Some (s, replies)

-- ---- the caches of a graph

-- no vertex mounts two caches with the same key
abbrev pub HasDistinctNeeds : Build → Type 0
HasDistinctNeeds b = (k : ℕ) (v : Vertex) → slice_get b.graph.vertices k ≡ Some v → Distinct (map key_of (needs_of v))

-- no vertex mounts a cache
abbrev pub HasNoCaches : Build → Type 0
HasNoCaches b = (k : ℕ) (v : Vertex) → slice_get b.graph.vertices k ≡ Some v → has_cache v ≡ false

-- no vertex mounts a cache in shared mode
abbrev pub NoShared : Build → Type 0
NoShared b = (k : ℕ) (v : Vertex) → slice_get b.graph.vertices k ≡ Some v → (n : Need) → Has (needs_of v) n → IsExclusive n.key.mode

-- ---- exclusive instances

-- in each state of a run, at most one running worker holds a given instance of a private or locked key
abbrev pub IsHeldOnce : Build → Type 0
IsHeldOnce b = (s : State) → IsReached b s → (w u : ℕ) (x y : Execution) (p : Instance) → slice_get s.workers w ≡ Some (Runs x)
    → slice_get s.workers u ≡ Some (Runs y)
    → Has x.places p → Has y.places p → IsExclusive p.key.mode → w ≡ u

-- in each state of a run, at most one running worker holds instances of a given locked key
abbrev pub IsLockedOnce : Build → Type 0
IsLockedOnce b = (s : State) → IsReached b s → (w u : ℕ) (x y : Execution) (p q : Instance) → slice_get s.workers w ≡ Some (Runs x)
    → slice_get s.workers u ≡ Some (Runs y)
    → Has x.places p → Has y.places q → p.key ≡ q.key → p.key.mode ≡ Locked → w ≡ u

-- an event of one worker does not change an instance of a private or locked key that another running worker holds
abbrev pub OthersKeep : Build → Type 0
OthersKeep b = (s t : State) (e : Event) (r : Reply) → IsReached b s → table b s e ≡ Some (t, r) → (w : ℕ) (x : Execution) (p : Instance)
    → slice_get s.workers w ≡ Some (Runs x)
    → Has x.places p → IsExclusive p.key.mode → worker_of e ≢ w → content t.store p ≡ content s.store p

-- the state with another tree in one instance
abbrev pub with_content : Instance → TreeMap → State → State
with_content p t s = record s { store = put s.store p t }

-- the state with another tree in one instance, and the reply unchanged
abbrev pub with_content_after : Instance → TreeMap → State × Reply → State × Reply
with_content_after p t a = (with_content p t a.0, a.1)

-- an event of one worker does not read a private or locked instance that another worker holds: with any tree in it, reply and other effects are the same
abbrev pub OthersIgnore : Build → Type 0
OthersIgnore b = (s : State) (e : Event) (t : TreeMap) → IsReached b s → (w : ℕ) (x : Execution) (p : Instance) → slice_get s.workers w ≡ Some (Runs x)
    → Has x.places p → IsExclusive p.key.mode → worker_of e ≢ w → table b (with_content p t s) e ≡ option_map (with_content_after p t) (table b s e)

-- ---- the claim order

-- after a run, each settled vertex and each instance that no worker holds is as if the claims had been done one after another, each up to its end or cancel
abbrev pub RunsInClaimOrder : Build → Type 0
RunsInClaimOrder b = (o : Opening) (es : List Event) (rs : List Reply) (s : State) → run b (opening b o) es ≡ Some (s, rs)
    → StandsIn s (order b (at_first b o.store) (claims_in rs))

-- each event meets the condition C in the state before it
abbrev pub EachIn : (State → Event → Type 0) → Build → State → List Event → Type 0
EachIn C b s [] = Unit {0}
EachIn C b s (e ∷ es) = C s e × ((a : State × Reply) → table b s e ≡ Some a → EachIn C b a.0 es)

-- e is the chosen event of the state: the event that a run on one thread does next (`chosen`)
abbrev pub IsChosen : Build → State → Event → Type 0
IsChosen b s e = chosen b s ≡ Some e

-- each event is the chosen event of the state before it (the event that a run on one thread does next, `chosen`)
abbrev pub AreChosen : Build → State → List Event → Type 0
AreChosen b s es = EachIn (IsChosen b) b s es

-- no vertex runs, as in a complete run
abbrev pub IsAtRest : State → Type 0
IsAtRest s = (v w : ℕ) → slice_get s.statuses v ≡ Some (Running w) → ⊥

-- a run that does only what `chosen` returns, and at whose end no vertex runs, ends as if its claims were done one after another, even with shared caches
abbrev pub AloneInClaimOrder : Build → Type 0
AloneInClaimOrder b = (o : Opening) (es : List Event) (rs : List Reply) (s : State) → run b (opening b o) es ≡ Some (s, rs)
    → AreChosen b (opening b o) es → IsAtRest s
    → (s.statuses ≡ (order b (at_first b o.store) (claims_in rs)).statuses) × (s.store ≡ (order b (at_first b o.store) (claims_in rs)).store)

-- ---- the instances of a key have the numbers 0, 1, 2 and so on

-- the instances of each key are numbered from 0 without gaps
abbrev pub IsDense : Store → Type 0
IsDense store = (k : Key) (n : ℕ) → is_some (content store (place k (n + 1))) ≡ true → is_some (content store (place k n)) ≡ true

-- the numbers of instances have no gaps later if they have none at the opening: a new instance gets the next number of its key
abbrev pub StaysDense : Build → Type 0
StaysDense b = (o : Opening) (es : List Event) (rs : List Reply) (s : State) → IsDense o.store → run b (opening b o) es ≡ Some (s, rs) → IsDense s.store

-- for a private key a claim takes, of the instances that no running worker holds, the one with the least number
abbrev pub ClaimsLeast : Build → Type 0
ClaimsLeast b = (s t : State) (w v : ℕ) (vertex : Vertex) (job : Job) → slice_get b.graph.vertices v ≡ Some vertex
    → table b s (Claim w v) ≡ Some (t, Claimed job)
    → (p : Instance) → Has (places_by (needs_of vertex) job.instances) p → (n : ℕ) → n < p.number → IsFree s.workers (place p.key n) → ⊥

-- the instances that a running worker holds are distinct, and each has a tree
abbrev pub HeldAreThere : Build → Type 0
HeldAreThere b = (s : State) → IsReached b s → (w : ℕ) (x : Execution) → slice_get s.workers w ≡ Some (Runs x)
    → Distinct x.places × ((trees : List TreeMap) × Hold s.store x.places trees)

-- ---- scripts

-- the work of an exec before its first command: its mounts, the numbers of those that show caches, and the trees of its cache instances
abbrev pub at_start : List Shown → List ℕ → List TreeMap → Work
at_start mounts caches trees = record { own = Mounted mounts caches 0; trees = trees }

-- the number of the last command that ran, up to command k: k if command k runs after the status `last`; else `before`, the number of the last one before k
abbrev pub later_ran : ℕ → Option Joined → ℕ → ℕ → ℕ
later_ran k None last before = before
later_ran k (Some c) last before = if is_run c.join last then k else before

-- the number of the last command that ran among the first k; 0 if none of them ran
abbrev pub last_ran : Setting → List Joined → Work → ℕ → ℕ
last_ran setting cs work zero = 0
last_ran setting cs work (suc k) =
    later_ran k (slice_get cs k) (last_of (part (runs_of setting cs) work k).work.own) (last_ran setting cs work k)

-- the fault of an exec whose last command that ran is command c, with status `last`; no fault for status 0
abbrev pub fault_of : ℕ → ℕ → Option VertexFault
fault_of c last = if last == 0 then None else Some (fault.Exit c last)

-- an exec after k micro-steps: it is finished exactly if all its commands are done, or if the last status is not 0 and every later command is joined by And;
-- once it is finished, it has a fault exactly if the last status is not 0, and the fault names the command that ran last
pub record EndsByLastStatus (setting : Setting) (cs : List Joined) (work : Work) (k : ℕ) : Type 0 where
  pub finished : is_over (runs_of setting cs) k (part (runs_of setting cs) work k)
      ≡ (nat_le (length cs) k || (not (last_of (part (runs_of setting cs) work k).work.own == 0) && all_and (drop k cs)))
  pub fails : is_over (runs_of setting cs) k (part (runs_of setting cs) work k) ≡ true
      → (part (runs_of setting cs) work k).fault ≡ fault_of (last_ran setting cs work k) (last_of (part (runs_of setting cs) work k).work.own)

-- `EndsByLastStatus` holds for every script after any number of micro-steps: an exec that is finished has failed exactly if its last status is not 0
abbrev pub FailsByLastStatus : Type 0
FailsByLastStatus = (setting : Setting) (cs : List Joined) (mounts : List Shown) (caches : List ℕ) (trees : List TreeMap) (k : ℕ)
    → EndsByLastStatus setting cs (at_start mounts caches trees) k

-- an exec that a worker runs: it is finished exactly if all its micro-steps are done, or if the last status is not 0 and every later command is joined by And;
-- once it is finished, it has a fault exactly if the last status is not 0, and the fault names the command that was done last
pub record StandsByLastStatus (cs : List Joined) (steps : List MicroStep) (x : Execution) : Type 0 where
  pub finished : is_finished steps x ≡ (nat_le (length cs) x.done || (not (last_of x.own == 0) && all_and (drop x.done cs)))
  pub fails : is_finished steps x ≡ true → x.fault ≡ fault_of (x.done - 1) (last_of x.own)

-- `StandsByLastStatus` holds of each exec that a worker runs: the last status decides when it ends, and its fault, whatever others do to shared instances
abbrev pub ExecsEndByLastStatus : Build → Type 0
ExecsEndByLastStatus b = (s : State) → IsReached b s → (w : ℕ) (x : Execution) (v : Vertex) (e : ExecOp) → slice_get s.workers w ≡ Some (Runs x)
    → slice_get b.graph.vertices x.vertex ≡ Some v → v.op.kind ≡ Some (kind.Exec e)
    → StandsByLastStatus (unwrap_or v.script []) (program_in b x).steps x

-- whether the first command of a script is not joined by Or, and all others are joined by And
abbrev pub are_ands : List Joined → Bool
are_ands [] = true
are_ands (c ∷ cs) = is_run c.join 0 && all_and cs

-- the micro-step that runs a command whatever the last status is; if the command's status is not 0, the exec has a fault at once
abbrev pub in_turn : Setting → Joined → MicroStep
in_turn setting c = Run setting (record { join = Then; command = c.command }) true

-- the first k commands have the same result as if each ran whatever the last status is, and the first failure ended the exec; if none fails, command k runs
pub record RunsInTurn (setting : Setting) (cs : List Joined) (work : Work) (k : ℕ) : Type 0 where
  pub leaves : part (runs_of setting cs) work k ≡ part (map (in_turn setting) cs) work k
  pub runs : (c : Joined) → (part (runs_of setting cs) work k).fault ≡ None → slice_get cs k ≡ Some c
      → is_run c.join (last_of (part (runs_of setting cs) work k).work.own) ≡ true

-- commands joined by `&&` run one after another, up to the first with a status other than 0
abbrev pub AndsRunInTurn : Type 0
AndsRunInTurn = (setting : Setting) (cs : List Joined) (mounts : List Shown) (caches : List ℕ) (trees : List TreeMap) (k : ℕ)
    → are_ands cs ≡ true → RunsInTurn setting cs (at_start mounts caches trees) k

-- ---- views

-- nothing is lost between two commands: if the trees of the caches are taken out of a view and put back, the view is the same as before
abbrev pub PartsMeet : Type 0
PartsMeet = (ms : List ℕ) (trees : List TreeMap) (mounts : List Shown) → Distinct ms → length trees ≡ length ms
    → filled (blanked mounts ms trees) ms (taken mounts ms trees) ≡ mounts

-- as many trees are taken out of a view as were put into it
abbrev pub PartsCount : Type 0
PartsCount = (ms : List ℕ) (trees : List TreeMap) (mounts : List Shown) → length (taken mounts ms trees) ≡ length trees
