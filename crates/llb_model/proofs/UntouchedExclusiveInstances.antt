-- What an event leaves of the instances that other workers hold exclusively, and that it does not read them.
use Rattle.std.proofs.Common.{◌≡◌, ℕ, Bool, true, false, List, [], ◌∷◌, Option, Some, None, option_map, unwrap_or, inl, inr, refl, sym, ap, subst, ◌∙◌, cond}
use Rattle.std.specs.Prelude.{slice_get, slice_set, Result, Ok, Err}
use Rattle.std.specs.Result.{result_ok}
use Rattle.llb_cache.specs.declared.key.Key.{Key}
use Rattle.llb_cache.specs.declared.key.Mode.{Mode}
use Rattle.llb_cache.specs.declared.key.Mode.TheVariants.{Shared, Private, Locked}
use Rattle.llb_tree.specs.Tree.{TreeMap}
use Rattle.llb_model.specs.Caches.{Instance, Store, content, put, Has, IsExclusive}
use Rattle.llb_events.specs.declared.refusal.ClaimFault.{ClaimFault}
use Rattle.llb_events.specs.declared.refusal.SettleFault.{SettleFault}
use Rattle.llb_events.specs.declared.refusal.SettleFault.TheVariants.{NotFinished}
use Rattle.llb_model.specs.Program.{Build, MicroStep, Need, Work, Left, Start, needs_of, base_in, begin, step_on}
use Rattle.llb_model.specs.State.{Execution, WorkerStatus, Idle, Runs, State, opening, program_in, work_of, is_finished, next_step, ending_from, held}
use Rattle.llb_model.specs.State.{number_for, place_for, places_for, held_key, first_trees, begin_at}
use Rattle.llb_events.specs.declared.event.Event.{Event}
use Rattle.llb_events.specs.declared.event.Event.TheVariants.{Claim, Step, Settle, Cancel}
use Rattle.llb_model.specs.Table.{Claimed, claim_start, execution_on, job_on, claim_with, claim_at}
use Rattle.llb_model.specs.Table.{claim_unless, claimed, with_step, step_reply, step_by, step_with, stepped, settle_with, settled, cancelled, table}
use Rattle.llb_model.specs.WholeRunLaws.{IsReached, IsLockedOnce, OthersKeep, with_content, with_content_after, OthersIgnore}
use Rattle.llb_model.proofs.Lists.{got_set, got_replicate}
use Rattle.llb_model.proofs.StoreWrites.{content_other, kept_all, put_all_put, trees_same, has_map}
use Rattle.llb_model.proofs.ClaimedInstances.{places_free, held_has}
use Rattle.llb_model.proofs.GrantedEvents.{Answer, claim_places, claim_is, step_is, settle_is, cancel_is}
use Rattle.llb_model.proofs.RunExtension.{run_keeps}
use Rattle.llb_model.proofs.ExclusiveHolders.{alone, alone_free, reached_separate, held_once, stepped_back, ended_back}

-- ---- what stays

-- another worker's event writes only what it has or takes, so what a running worker holds exclusively stays as it is
pub others_keep : (b : Build) → OthersKeep b
unfolding alone
others_keep b s t (Claim u v) r reached given w x p there has exclusive other =
    let c = claim_is b s u v (t, r) given in
    let ps = claim_places s c.start in
    ap (λ (a : Answer). content a.0.store p) c.gives
    ∙ kept_all s.store ps (begin_at b s.store c.start ps).trees p (λ h. alone_free b s u v (t, r) c p h exclusive w x there has)
others_keep b s t (Step u) r reached given w x p there has exclusive other =
    let c = step_is b s u (t, r) given in
    ap (λ (a : Answer). content a.0.store p) c.gives
    ∙ kept_all s.store c.x.places (step_on c.x.done (Some c.step) (work_of s c.x)).work.trees p
    (λ h. other ((reached_separate b s reached).once u w c.x x p c.there there h has exclusive))
others_keep b s t (Settle u) r reached given w x p there has exclusive other =
    let c = settle_is b s u (t, r) given in
    ap (λ (a : Answer). content a.0.store p) c.gives
others_keep b s t (Cancel u) r reached given w x p there has exclusive other =
    let c = cancel_is b s u (t, r) given in
    ap (λ (a : Answer). content a.0.store p) c.gives

-- ---- what is not looked at

-- what a claim begins with does not depend on what is at a place that it does not take
pub first_same : (s : Store) (p : Instance) (t : TreeMap) (inputs : List TreeMap) (ps : List Instance) (ns : List Need) → (Has ps p → ⊥)
    → first_trees (put s p t) inputs ps ns ≡ first_trees s inputs ps ns
first_same s p t inputs [] ns apart = refl
first_same s p t inputs (q ∷ ps) [] apart = refl
first_same s p t inputs (q ∷ ps) (n ∷ ns) apart =
    ap (λ o. unwrap_or o (base_in n.input inputs) ∷ first_trees (put s p t) inputs ps ns) (content_other s p t q (λ e. apart (inl (sym e))))
    ∙ ap (λ ts. unwrap_or (content s q) (base_in n.input inputs) ∷ ts) (first_same s p t inputs ps ns (λ h. apart (inr h)))

claim_same : (b : Build) (s : State) (p : Instance) (t : TreeMap) (u v : ℕ) (start : Start) (ps : List Instance) → (Has ps p → ⊥)
    → claim_at b (with_content p t s) u v start ps ≡ with_content_after p t (claim_at b s u v start ps)
claim_same b s p t u v start ps apart =
    ap (λ ts. claim_with (with_content p t s) u v start.vertex (begin b start ts) ps) (first_same s.store p t start.inputs ps (needs_of start.vertex) apart)
    ∙ stored (begin_at b s.store start ps)
  where
    stored : (work : Work) → claim_with (with_content p t s) u v start.vertex work ps ≡ with_content_after p t (claim_with s u v start.vertex work ps)
    stored work = ap (λ (st : Store). (
      record (claim_with s u v start.vertex work ps).0 { store = st },
      Claimed (job_on u v start.vertex work ps),
    )) (put_all_put s.store p t ps work.trees apart)

step_same : (s : State) (p : Instance) (t : TreeMap) (u : ℕ) (x : Execution) (m : MicroStep) → (Has x.places p → ⊥)
    → step_by (with_content p t s) u x m (step_on x.done (Some m) (work_of (with_content p t s) x))
    ≡ with_content_after p t (step_by s u x m (step_on x.done (Some m) (work_of s x)))
step_same s p t u x m apart =
    ap (λ ts. step_by (with_content p t s) u x m (step_on x.done (Some m) (record { own = x.own; trees = ts })))
    (trees_same s.store (put s.store p t) x.places (λ q h. content_other s.store p t q (λ e. apart (subst (Has x.places) e h))))
    ∙ stored (step_on x.done (Some m) (work_of s x))
  where
    stored : (left : Left) → step_by (with_content p t s) u x m left ≡ with_content_after p t (step_by s u x m left)
    stored left = ap (λ (st : Store). (record (step_by s u x m left).0 { store = st }, step_reply x.done m x.own left))
        (put_all_put s.store p t x.places left.work.trees apart)

-- the same event, with another tree there
Ignored : Build → State → Event → Instance → TreeMap → Type 0
Ignored b s e p t = table b (with_content p t s) e ≡ option_map (with_content_after p t) (table b s e)

claim_ignores : (b : Build) (s : State) (u v : ℕ) (p : Instance) (t : TreeMap)
    → ((start : Start) → held_key (held s.workers) (needs_of start.vertex) ≡ None → Has (claim_places s start) p → ⊥) → Ignored b s (Claim u v) p t
unfolding table Ignored
claim_ignores b s u v p t apart = go (claim_start s.statuses v (slice_get s.workers u) (slice_get b.graph.vertices v))
  where
    by_key : (start : Start) (o : Option Key) → held_key (held s.workers) (needs_of start.vertex) ≡ o
        → result_ok (claim_unless b (with_content p t s) u v start o) ≡ option_map (with_content_after p t) (result_ok (claim_unless b s u v start o))
    by_key start (Some k) is = refl
    by_key start None is = ap (λ (a : Answer). Some a) (claim_same b s p t u v start (claim_places s start) (apart start is))

    go : (r : Result Start ClaimFault) → result_ok (claimed b (with_content p t s) u v r) ≡ option_map (with_content_after p t) (result_ok (claimed b s u v r))
    go (Err cause) = refl
    go (Ok start) = by_key start (held_key (held s.workers) (needs_of start.vertex)) refl

step_ignores : (b : Build) (s : State) (u : ℕ) (p : Instance) (t : TreeMap)
    → ((x : Execution) → slice_get s.workers u ≡ Some (Runs x) → Has x.places p → ⊥) → Ignored b s (Step u) p t
unfolding table Ignored
step_ignores b s u p t apart = go (slice_get s.workers u) refl
  where
    by_next : (x : Execution) → slice_get s.workers u ≡ Some (Runs x) → (o : Option MicroStep)
        → result_ok (step_with (with_content p t s) u x o) ≡ option_map (with_content_after p t) (result_ok (step_with s u x o))
    by_next x there None = refl
    by_next x there (Some m) = ap (λ (a : Answer). Some a) (step_same s p t u x m (apart x there))

    go : (o : Option WorkerStatus) → slice_get s.workers u ≡ o → result_ok (stepped b (with_content p t s) u o)
        ≡ option_map (with_content_after p t) (result_ok (stepped b s u o))
    go None is = refl
    go (Some Idle) is = refl
    go (Some (Runs x)) is = by_next x is (next_step (program_in b x).steps x)

settle_ignores : (b : Build) (s : State) (u : ℕ) (p : Instance) (t : TreeMap) → Ignored b s (Settle u) p t
unfolding table Ignored
settle_ignores b s u p t = go (slice_get s.workers u)
  where
    settle_if : State → Execution → Bool → Result Answer SettleFault
    settle_if r x fin = cond fin (Ok (settle_with r u x.vertex (ending_from (program_in b x) x))) (Err NotFinished)

    by_test : (x : Execution) (fin : Bool) → result_ok (settle_if (with_content p t s) x fin)
        ≡ option_map (with_content_after p t) (result_ok (settle_if s x fin))
    by_test x true = refl
    by_test x false = refl

    go : (o : Option WorkerStatus) → result_ok (settled b (with_content p t s) u o) ≡ option_map (with_content_after p t) (result_ok (settled b s u o))
    go None = refl
    go (Some Idle) = refl
    go (Some (Runs x)) = by_test x (is_finished (program_in b x).steps x)

cancel_ignores : (b : Build) (s : State) (u : ℕ) (p : Instance) (t : TreeMap) → Ignored b s (Cancel u) p t
unfolding table Ignored
cancel_ignores b s u p t = go (slice_get s.workers u)
  where
    go : (o : Option WorkerStatus) → result_ok (cancelled (with_content p t s) u o) ≡ option_map (with_content_after p t) (result_ok (cancelled s u o))
    go None = refl
    go (Some Idle) = refl
    go (Some (Runs x)) = refl

-- another worker's event does not read what a running worker holds exclusively: reply and effect are the same with any tree there
pub others_ignore : (b : Build) → OthersIgnore b
unfolding Ignored alone
others_ignore b s (Claim u v) t reached w x p there has exclusive other =
    claim_ignores b s u v p t (λ start unheld h. places_free (held s.workers) (needs_of start.vertex) unheld p h exclusive (held_has s.workers w x p there has))
others_ignore b s (Step u) t reached w x p there has exclusive other =
    step_ignores b s u p t (λ y at_u h. other ((reached_separate b s reached).once u w y x p at_u there h has exclusive))
others_ignore b s (Settle u) t reached w x p there has exclusive other = settle_ignores b s u p t
others_ignore b s (Cancel u) t reached w x p there has exclusive other = cancel_ignores b s u p t

-- ---- locked keys

-- a locked key has one instance
record IsFirst (ws : List WorkerStatus) : Type 0 where
  first : (w : ℕ) (x : Execution) (p : Instance) → slice_get ws w ≡ Some (Runs x) → Has x.places p → p.key.mode ≡ Locked → p.number ≡ 0

number_locked : (ps : List Instance) (k : Key) (m : Mode) → m ≡ Locked → number_for ps k m ≡ 0
number_locked ps k Shared e = refl
number_locked ps k Locked e = refl
number_locked ps k Private e = absurd cc

places_first : (ps : List Instance) (ns : List Need) (p : Instance) → Has (places_for ps ns) p → p.key.mode ≡ Locked → p.number ≡ 0
places_first ps ns p h locked =
    let m = has_map (place_for ps) ns p h in
    ap (λ (q : Instance). q.number) m.2 ∙ number_locked ps m.0.key m.0.key.mode (ap (λ (q : Instance). q.key.mode) (sym m.2) ∙ locked)

fewer_first : (ws vs : List WorkerStatus) → ((w : ℕ) (x : Execution) → slice_get vs w ≡ Some (Runs x)
    → (y : Execution) × (slice_get ws w ≡ Some (Runs y)) × (y.places ≡ x.places)) → IsFirst ws → IsFirst vs
fewer_first ws vs back f = record { first = λ w x p there h. let m = back w x there in f.first w m.0 p m.1 (subst (λ ps. Has ps p) (sym m.2) h) }

event_first : (b : Build) (s : State) (e : Event) (a : Answer) → IsFirst s.workers → table b s e ≡ Some a → IsFirst a.0.workers
event_first b s (Claim w v) a f given =
    let c = claim_is b s w v a given in
    let ps = claim_places s c.start in
    subst (λ (a : Answer). IsFirst a.0.workers) (sym c.gives)
    (taken s.workers (execution_on v (begin_at b s.store c.start ps) ps) f (places_first (held s.workers) (needs_of c.start.vertex)))
  where
    taken : (ws : List WorkerStatus) (z : Execution) → IsFirst ws → ((p : Instance) → Has z.places p → p.key.mode ≡ Locked → p.number ≡ 0)
        → IsFirst (slice_set ws w (Runs z))
    taken ws z f new = record {
      first = λ u x p there h locked. elim (got_set ws w (Runs z) u (Runs x) there) [
        | inl k ↦ let same : x ≡ z = cc (k.1) in new p (subst (λ (t : Execution). Has t.places p) same h) locked
        | inr k ↦ f.first u x p k.1 h locked
      ];
    }
event_first b s (Step w) a f given =
    let c = step_is b s w a given in
    let left = step_on c.x.done (Some c.step) (work_of s c.x) in
    subst (λ (a : Answer). IsFirst a.0.workers) (sym c.gives)
    (fewer_first s.workers (slice_set s.workers w (Runs (with_step c.x left))) (stepped_back s.workers w c.x left c.there) f)
event_first b s (Settle w) a f given =
    let c = settle_is b s w a given in
    subst (λ (a : Answer). IsFirst a.0.workers) (sym c.gives) (fewer_first s.workers (slice_set s.workers w Idle) (ended_back s.workers w) f)
event_first b s (Cancel w) a f given =
    let c = cancel_is b s w a given in
    subst (λ (a : Answer). IsFirst a.0.workers) (sym c.gives) (fewer_first s.workers (slice_set s.workers w Idle) (ended_back s.workers w) f)

reached_first : (b : Build) (s : State) → IsReached b s → IsFirst s.workers
reached_first b s r =
    run_keeps b (λ (t : State). IsFirst t.workers) (event_first b) (opening b r.opened) s r.events r.replies
    (record { first = λ w x p there. absurd (let h : Runs x ≡ Idle = got_replicate r.opened.workers Idle w (Runs x) there in cc) }) r.leads

-- a locked key has instance 0 only, so two workers that have the key have one instance, and are one worker
pub locked_once : (b : Build) → IsLockedOnce b
locked_once b s reached w u x y p q there here has_x has_y key locked =
    let f = reached_first b s reached in
    let other : q.key.mode ≡ Locked = ap (λ (k : Key). k.mode) (sym key) ∙ locked in
    let number : p.number ≡ q.number = f.first w x p there has_x locked ∙ sym (f.first u y q here has_y other) in
    let same : p ≡ q = (λ i. record { key = key i; number = number i }) in
    held_once b s reached w u x y p there here has_x (subst (Has y.places) (sym same) has_y) (subst IsExclusive (sym locked) tt)
