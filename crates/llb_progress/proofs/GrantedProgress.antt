-- Which events are granted: those of running workers, and claims of Ready vertices, unless a running worker holds a locked key.
use Rattle.std.proofs.Common.{◌≡◌, ℕ, suc, ◌<◌, Bool, true, false, cond, List, [], ◌∷◌, ◌++◌, length, Option, Some, None, is_some}
use Rattle.std.proofs.Common.{◌⊎◌, inl, inr, refl, sym, ap, subst, ◌∙◌, arith}
use Rattle.std.specs.Prelude.{slice_get, Err}
use Rattle.llb_cache.specs.declared.key.Key.{Key}
use Rattle.llb_cache.specs.declared.key.Mode.{Mode}
use Rattle.llb_cache.specs.declared.key.Mode.TheVariants.{Shared, Private, Locked}
use Rattle.llb_loader.specs.Graph.{IsGraph}
use Rattle.llb_events.specs.declared.event.Event.{Event}
use Rattle.llb_events.specs.declared.event.Event.TheVariants.{Claim, Step, Settle, Cancel}
use Rattle.llb_events.specs.declared.refusal.ClaimFault.TheVariants.{Held}
use Rattle.llb_model.specs.Caches.{Instance, place, Has}
use Rattle.llb_model.specs.Program.{Build, Need, Start, needs_of}
use Rattle.llb_model.specs.State.{Execution, WorkerStatus, Idle, Runs, State, start_from, ready, is_ready, is_finished, program_in, held}
use Rattle.llb_model.specs.State.{is_locked_and_held, held_key}
use Rattle.llb_model.specs.Table.{claim_start, or_not_ready, claim_unless, claimed, claim_grant, table}
use Rattle.llb_model.specs.Run.{chosen, is_complete}
use Rattle.llb_model.specs.ConsistentStates.{IsConsistent}
use Rattle.llb_model.proofs.Lists.{inside, get_within, got_within}
use Rattle.llb_model.proofs.ProgramPrefixes.{unfinished_some}
use Rattle.llb_model.proofs.GaplessInstances.{in_has}
use Rattle.llb_model.proofs.GrantedEvents.{Answer, IsReady, ready_is, ready_as, claim_is, step_is, settle_is, cancel_is, claim_granted, step_granted}
use Rattle.llb_model.proofs.GrantedEvents.{settle_granted}
use Rattle.llb_model.proofs.RunCompletion.{is_over, over_not_ready, none_is_complete, complete_rests}
use Rattle.llb_model.proofs.ChosenEventRuns.{chosen_is, chosen_granted}
use Rattle.llb_progress.specs.Progress.{IsGranted, RunningGoOn, NoneRuns, IdleClaimReady, SomeIsReady, IsHeldUp, ReadyIsClaimedOrHeldUp}
use Rattle.llb_progress.specs.Progress.{CompleteIsTheEnd}
use Rattle.llb_progress.proofs.Lists.{each_true}

-- ---- running workers

pub running_go_on : (b : Build) (s : State) → RunningGoOn b s
running_go_on b s w x there = by_test (is_finished (program_in b x).steps x) refl
  where
    by_test : (t : Bool) → is_finished (program_in b x).steps x ≡ t → IsGranted b s (cond t (Settle w) (Step w))
    by_test true fin = ap is_some (settle_granted b s w x there fin)
    by_test false fin = let m = unfinished_some (program_in b x).steps x fin in ap is_some (step_granted b s w x m.0 there m.1)

-- ---- held keys

record IsHeldKey (ps : List Instance) (k : Key) : Type 0 where
  locked : k.mode ≡ Locked
  has : Has ps (place k 0)

locked_and_held : (ps : List Instance) (k : Key) (m : Mode) → k.mode ≡ m → is_locked_and_held ps k m ≡ true → IsHeldKey ps k
locked_and_held ps k Shared is h = absurd cc
locked_and_held ps k Private is h = absurd cc
locked_and_held ps k Locked is h = record { locked = is; has = in_has ps (place k 0) h }

key_is_held : (ps : List Instance) (ns : List Need) (k : Key) → held_key ps ns ≡ Some k → IsHeldKey ps k
key_is_held ps [] k e = absurd cc
key_is_held ps (n ∷ ns) k e = go (is_locked_and_held ps n.key n.key.mode) refl e (key_is_held ps ns k)
  where
    go : (t : Bool) → is_locked_and_held ps n.key n.key.mode ≡ t → cond t (Some n.key) (held_key ps ns) ≡ Some k
        → (held_key ps ns ≡ Some k → IsHeldKey ps k) → IsHeldKey ps k
    go true is e rest = subst (IsHeldKey ps) (inside e) (locked_and_held ps n.key n.key.mode refl is)
    go false is e rest = rest e

has_either : (ps qs : List Instance) (p : Instance) → Has (ps ++ qs) p → Has ps p ⊎ Has qs p
has_either [] qs p h = inr h
has_either (x ∷ ps) qs p (inl h) = inl (inl h)
has_either (x ∷ ps) qs p (inr h) = elim (has_either ps qs p h) [ inl m ↦ inl (inr m) | inr m ↦ inr m ]

-- what is held is held by a running worker
holder : (ws : List WorkerStatus) (p : Instance) → Has (held ws) p → (u : ℕ) × (x : Execution) × (slice_get ws u ≡ Some (Runs x)) × Has x.places p
holder [] p h = absurd h
holder (Idle ∷ ws) p h = let r = holder ws p h in (suc r.0, r.1, r.2, r.3)
holder (Runs x ∷ ws) p h = elim (has_either x.places (held ws) p h) [
  | inl m ↦ (0, x, refl, m)
  | inr m ↦ let r = holder ws p m in (suc r.0, r.1, r.2, r.3)
]

-- ---- claims

-- the refusal of a claim for a held key
held_refusal : (b : Build) (s : State) (w v : ℕ) (start : Start) (k : Key) → slice_get s.workers w ≡ Some Idle → IsReady b s.statuses v start
    → held_key (held s.workers) (needs_of start.vertex) ≡ Some k → claim_grant b s w v ≡ Err (Held k)
held_refusal b s w v start k idle r is =
    ap (λ o. claimed b s w v (claim_start s.statuses v o (slice_get b.graph.vertices v))) idle
    ∙ ap (λ o. claimed b s w v (claim_start s.statuses v (Some Idle) o)) r.there
    ∙ ap (λ o. claimed b s w v (or_not_ready o)) (sym (ap (start_from s.statuses (slice_get s.statuses v)) r.there)
    ∙ ready_as b s.statuses v start r)
    ∙ ap (λ o. claim_unless b s w v start o) is

pub claimed_or_held_up : (b : Build) (s : State) → ReadyIsClaimedOrHeldUp b s
claimed_or_held_up b s w v idle is = by_start (ready b s.statuses v) refl is
  where
    by_key : (start : Start) → IsReady b s.statuses v start → (o : Option Key) → held_key (held s.workers) (needs_of start.vertex) ≡ o
        → IsGranted b s (Claim w v) ⊎ IsHeldUp b s w v
    by_key start begins None none = inl (ap is_some (claim_granted b s w v start idle begins none))
    by_key start begins (Some k) some =
        let key = key_is_held (held s.workers) (needs_of start.vertex) k some in
        let u = holder s.workers (place k 0) key.has in
        inr (record {
          key = k;
          refused = held_refusal b s w v start k idle begins some;
          locked = key.locked;
          holder = u.0;
          holds = record { execution = u.1; runs = u.2; has = u.3; goes_on = running_go_on b s u.0 u.1 u.2 };
        })

    by_start : (o : Option Start) → ready b s.statuses v ≡ o → is_some o ≡ true → IsGranted b s (Claim w v) ⊎ IsHeldUp b s w v
    by_start None there e = absurd cc
    by_start (Some start) there e = by_key start (ready_is b s.statuses v start there) (held_key (held s.workers) (needs_of start.vertex)) refl

pub idle_claim_ready : (b : Build) (s : State) → IdleClaimReady b s
idle_claim_ready b s none w v lt is = let a = get_within s.workers w lt in by_worker a.0 a.1
  where
    by_worker : (a : WorkerStatus) → slice_get s.workers w ≡ Some a → IsGranted b s (Claim w v)
    by_worker (Runs x) there = absurd (none w x there)
    by_worker Idle there = elim (claimed_or_held_up b s w v there is) [
      | inl g ↦ g
      | inr h ↦ absurd (none h.holder h.holds.execution h.holds.runs)
    ]

-- ---- the end

module _ (b : Build) (graph : IsGraph b.graph) (s : State) (here : IsConsistent b s) where
  pub some_is_ready : SomeIsReady b s
  some_is_ready none open_ = by_choice (chosen b s) refl
    where
      by_choice : (o : Option Event) → chosen b s ≡ o → (v : ℕ) × (is_ready b s.statuses v ≡ true)
      by_choice None is = absurd (let h = none_is_complete b graph s here is in cc)
      by_choice (Some e) is = elim (chosen_is b s e is) [
        | inl n ↦ absurd (none n.worker n.execution n.there)
        | inr c ↦ (c.0, c.2.least.passes)
      ]

  -- where all vertices are over, nothing runs
  none_runs : is_complete b s ≡ true → NoneRuns s
  none_runs complete w x there = complete_rests b graph s here complete x.vertex w (here.working w x there)

  -- where all vertices are over, no event is granted
  pub nothing_granted : is_complete b s ≡ true → (e : Event) → table b s e ≡ None
  nothing_granted complete e = by_answer (table b s e) refl
    where
      refused : (e : Event) (a : Answer) → table b s e ≡ Some a → ⊥
      refused (Claim w v) a given =
          let c = claim_is b s w v a given in
          let is : is_ready b s.statuses v ≡ true = ap is_some (ready_as b s.statuses v c.start c.begins) in
          let low = got_within b.graph.vertices v c.start.vertex c.begins.there in
          let no = over_not_ready b graph s here v (each_true (is_over b s) 0 (length b.graph.vertices) complete v (omega arith) (omega (arith, low))) in
          cc
      refused (Step w) a given = let c = step_is b s w a given in none_runs complete w c.x c.there
      refused (Settle w) a given = let c = settle_is b s w a given in none_runs complete w c.x c.there
      refused (Cancel w) a given = let c = cancel_is b s w a given in none_runs complete w c.x c.there

      by_answer : (o : Option Answer) → table b s e ≡ o → o ≡ None
      by_answer None is = refl
      by_answer (Some a) is = absurd (refused e a is)

  pub complete_is_the_end : 0 < length s.workers → CompleteIsTheEnd b s
  complete_is_the_end some = (nothing_granted, by_choice (chosen b s) refl)
    where
      by_choice : (o : Option Event) → chosen b s ≡ o → ((e : Event) → table b s e ≡ None) → is_complete b s ≡ true
      by_choice None is none = none_is_complete b graph s here is
      by_choice (Some e) is none =
          let first = get_within s.workers 0 some in
          let g = (chosen_granted b s e first.0 first.1 is).given in
          absurd (let h = none e in cc)
