-- The instances of a key are numbered without gaps.
use Rattle.std.proofs.Common.{◌≡◌, ℕ, zero, suc, ◌+◌, ◌<◌, ◌≤◌, Bool, true, false, ◌||◌, List, [], ◌∷◌, ◌++◌, length, Some, ◌⊎◌, inl, inr}
use Rattle.std.proofs.Common.{refl, sym, ap, subst, ◌∙◌, cond, arith}
use Rattle.std.specs.Prelude.{slice_get, is_some}
use Rattle.std.specs.Ordering.{eq_by_cmp}
use Rattle.llb_cache.specs.declared.key.Key.{Key}
use Rattle.llb_cache.specs.declared.key.Mode.{Mode}
use Rattle.llb_cache.specs.declared.key.Mode.TheVariants.{Shared, Private, Locked}
use Rattle.llb_loader.specs.declared.graph.Vertex.{Vertex}
use Rattle.llb_tree.specs.Tree.{TreeMap}
use Rattle.llb_model.specs.Caches.{Instance, place, place_cmp, Store, content, put_all, Has, is_in}
use Rattle.llb_model.specs.Program.{Build, Need, needs_of, step_on}
use Rattle.llb_model.specs.State.{Execution, WorkerStatus, Idle, Runs, State, Opening, opening, work_of, held, above, first_free, number_for}
use Rattle.llb_model.specs.State.{place_for, places_for, begin_at, places_by}
use Rattle.llb_events.specs.declared.event.Event.{Event}
use Rattle.llb_events.specs.declared.event.Event.TheVariants.{Claim, Step, Settle, Cancel}
use Rattle.llb_model.specs.Table.{Reply, Claimed, execution_on, claim_at, table}
use Rattle.llb_model.specs.WholeRunLaws.{IsDense, StaysDense, ClaimsLeast}
use Rattle.llb_model.proofs.Lists.{inside, got_set, got_replicate}
use Rattle.llb_model.proofs.StoreWrites.{content_same, content_other, place_or, place_test, has_map}
use Rattle.llb_model.proofs.ClaimedInstances.{places_length, places_numbered, first_length}
use Rattle.llb_model.proofs.GrantedEvents.{Answer, claim_places, claim_is, step_is, settle_is, cancel_is}
use Rattle.llb_model.proofs.RunExtension.{run_keeps}
use Rattle.llb_model.proofs.ExclusiveHolders.{stepped_back, ended_back}

-- ---- below the least free one

-- a place that the test finds is one of the list
pub in_has : (ps : List Instance) (p : Instance) → is_in ps p ≡ true → Has ps p
in_has [] p e = absurd cc
in_has (q ∷ ps) p e = go (eq_by_cmp place_cmp p q) refl e (in_has ps p)
  where
    go : (b : Bool) → eq_by_cmp place_cmp p q ≡ b → (b || is_in ps p) ≡ true → (is_in ps p ≡ true → Has ps p) → Has (q ∷ ps) p
    go true is e rest = inl (place_test p q is)
    go false is e rest = inr (rest e)

below_free : (ps : List Instance) (k : Key) (n tries m : ℕ) → n ≤ m → m < first_free ps k n tries → Has ps (place k m)
below_free ps k n zero m le lt = absurd (omega (arith, le, lt))
below_free ps k n (suc tries) m le lt = go (is_in ps (place k n)) refl lt (below_free ps k (n + 1) tries m)
  where
    split : (n m : ℕ) → n ≤ m → (n ≡ m) ⊎ (n + 1 ≤ m)
    split n m le = grind arith

    go : (b : Bool) → is_in ps (place k n) ≡ b → m < cond b (first_free ps k (n + 1) tries) n
        → (n + 1 ≤ m → m < first_free ps k (n + 1) tries → Has ps (place k m)) → Has ps (place k m)
    go true is lt rest = elim (split n m le) [
      | inl h ↦ subst (λ j. Has ps (place k j)) h (in_has ps (place k n) is)
      | inr h ↦ rest h lt
    ]
    go false is lt rest = absurd (omega (arith, le, lt))

-- all instances of a key below the one that a claim takes are held
pub below_number : (ps : List Instance) (k : Key) (mode : Mode) (m : ℕ) → m < number_for ps k mode → Has ps (place k m)
below_number ps k Shared m lt = absurd (omega (arith, lt))
below_number ps k Locked m lt = absurd (omega (arith, lt))
below_number ps k Private m lt = below_free ps k 0 (above ps) m (omega arith) lt

-- below each instance that a claim takes, all are held
pub below_held : (ps : List Instance) (ns : List Need) (p : Instance) → Has (places_for ps ns) p → (m : ℕ) → m < p.number → Has ps (place p.key m)
below_held ps ns p h m lt =
    let f = has_map (place_for ps) ns p h in
    let number : p.number ≡ number_for ps f.0.key f.0.key.mode = ap (λ (q : Instance). q.number) f.2 in
    subst (λ (k : Key). Has ps (place k m)) (sym (ap (λ (q : Instance). q.key) f.2)) (below_number ps f.0.key f.0.key.mode m (omega (arith, number, lt)))

split_has : {A : Type 0} (xs ys : List A) (x : A) → Has (xs ++ ys) x → Has xs x ⊎ Has ys x
split_has [] ys x h = inr h
split_has (a ∷ xs) ys x (inl h) = inl (inl h)
split_has (a ∷ xs) ys x (inr h) = elim (split_has xs ys x h) [ inl k ↦ inl (inr k) | inr k ↦ inr k ]

-- a place that is held has a holder
pub holder_of : (ws : List WorkerStatus) (p : Instance) → Has (held ws) p → (w : ℕ) × (x : Execution) × (slice_get ws w ≡ Some (Runs x)) × Has x.places p
holder_of [] p h = absurd h
holder_of (Idle ∷ ws) p h = let r = holder_of ws p h in (suc r.0, r.1, r.2, r.3)
holder_of (Runs x ∷ ws) p h = elim (split_has x.places (held ws) p h) [
  | inl k ↦ (0, x, refl, k)
  | inr k ↦ let r = holder_of ws p k in (suc r.0, r.1, r.2, r.3)
]

-- ---- what is at places after writes

abbrev Stands : Store → Instance → Type 0
Stands s p = is_some (content s p) ≡ true

stays_one : (s : Store) (p : Instance) (t : TreeMap) (q : Instance) → Stands s q → is_some (content (put_all s (p ∷ []) (t ∷ [])) q) ≡ true
stays_one s p t q h = elim (place_or q p) [
  | inl k ↦ ap is_some (ap (content (put_all s (p ∷ []) (t ∷ []))) k ∙ content_same s p t)
  | inr k ↦ ap is_some (content_other s p t q k) ∙ h
]

stays : (s : Store) (ps : List Instance) (ts : List TreeMap) (q : Instance) → Stands s q → Stands (put_all s ps ts) q
stays s [] ts q h = h
stays s (p ∷ ps) [] q h = h
stays s (p ∷ ps) (t ∷ ts) q h = stays (put_all s (p ∷ []) (t ∷ [])) ps ts q (stays_one s p t q h)

written : (s : Store) (ps : List Instance) (ts : List TreeMap) → length ts ≡ length ps → (q : Instance) → Has ps q → Stands (put_all s ps ts) q
written s [] ts len q h = absurd h
written s (p ∷ ps) [] len q h = absurd (omega (arith, len))
written s (p ∷ ps) (t ∷ ts) len q (inl h) =
    stays (put_all s (p ∷ []) (t ∷ [])) ps ts q (ap is_some (ap (content (put_all s (p ∷ []) (t ∷ []))) h ∙ content_same s p t))
written s (p ∷ ps) (t ∷ ts) len q (inr h) = written (put_all s (p ∷ []) (t ∷ [])) ps ts (omega (arith, len)) q h

stood : (s : Store) (ps : List Instance) (ts : List TreeMap) (q : Instance) → Stands (put_all s ps ts) q → Has ps q ⊎ Stands s q
stood s [] ts q h = inr h
stood s (p ∷ ps) [] q h = inr h
stood s (p ∷ ps) (t ∷ ts) q h = elim (place_or q p) [
  | inl k ↦ inl (inl k)
  | inr k ↦ elim (stood (put_all s (p ∷ []) (t ∷ [])) ps ts q h) [
    | inl j ↦ inl (inr j)
    | inr j ↦ inr (ap is_some (sym (content_other s p t q k)) ∙ j)
  ]
]

-- ---- runs

record IsFilled (s : State) : Type 0 where
  dense : IsDense s.store
  there : (w : ℕ) (x : Execution) (p : Instance) → slice_get s.workers w ≡ Some (Runs x) → Has x.places p → Stands s.store p

-- there is an instance, or it is the next one of its key
abbrev IsAtEnd : Store → Instance → Type 0
IsAtEnd store p = (n : ℕ) → n < p.number → Stands store (place p.key n)

at_end : (s : State) → IsFilled s → (ns : List Need) (p : Instance) → Has (places_for (held s.workers) ns) p → IsAtEnd s.store p
at_end s f ns p h n lt =
    let r = holder_of s.workers (place p.key n) (below_held (held s.workers) ns p h n lt) in
    f.there r.0 r.1 (place p.key n) r.2 r.3

-- writes at places of which each has an instance or comes next
dense_after : (store : Store) (ps : List Instance) (ts : List TreeMap) → IsDense store → ((p : Instance) → Has ps p → IsAtEnd store p)
    → IsDense (put_all store ps ts)
dense_after store ps ts dense ends k n h = elim (stood store ps ts (place k (n + 1)) h) [
  | inl j ↦ stays store ps ts (place k n) (ends (place k (n + 1)) j n (omega arith))
  | inr j ↦ stays store ps ts (place k n) (dense k n j)
]

event_filled : (b : Build) (s : State) (e : Event) (a : Answer) → IsFilled s → table b s e ≡ Some a → IsFilled a.0
event_filled b s (Claim w v) a f given =
    let c = claim_is b s w v a given in
    let ps = claim_places s c.start in
    let work = begin_at b s.store c.start ps in
    let count = first_length s.store c.start.inputs ps (needs_of c.start.vertex) (places_length (held s.workers) (needs_of c.start.vertex)) in
    subst (λ (t : Answer). IsFilled t.0) (sym c.gives) (record {
      dense = dense_after s.store ps work.trees f.dense (at_end s f (needs_of c.start.vertex));
      there = λ u x p at_u h. elim (got_set s.workers w (Runs (execution_on v work ps)) u (Runs x) at_u) [
        | inl k ↦ let same : x ≡ execution_on v work ps = cc (k.1) in written s.store ps work.trees count p (subst (λ (t : Execution). Has t.places p) same h)
        | inr k ↦ stays s.store ps work.trees p (f.there u x p k.1 h)
      ];
    })
event_filled b s (Step w) a f given =
    let c = step_is b s w a given in
    let left = step_on c.x.done (Some c.step) (work_of s c.x) in
    subst (λ (t : Answer). IsFilled t.0) (sym c.gives) (record {
      dense = dense_after s.store c.x.places left.work.trees f.dense (λ p h. filled_below s f w c.x c.there p h);
      there = λ u x p at_u h. let y = stepped_back s.workers w c.x left c.there u x at_u in
          stays s.store c.x.places left.work.trees p (f.there u y.0 p y.1 (subst (λ ps. Has ps p) (sym y.2) h));
    })
  where
    below : (store : Store) → IsDense store → (k : Key) (m n : ℕ) → Stands store (place k (n + m)) → Stands store (place k n)
    below store dense k zero n h = subst (λ j. Stands store (place k j)) (nothing n) h
      where
        nothing : (n : ℕ) → n + 0 ≡ n
        nothing n = omega arith
    below store dense k (suc m) n h = below store dense k m n (dense k (n + m) (subst (λ j. Stands store (place k j)) (one n m) h))
      where
        one : (n m : ℕ) → n + suc m ≡ n + m + 1
        one n m = omega arith

    filled_below : (s : State) → IsFilled s → (w : ℕ) (x : Execution) → slice_get s.workers w ≡ Some (Runs x) → (p : Instance) → Has x.places p
        → IsAtEnd s.store p
    filled_below s f w x at_w p h n lt =
        let sum = reaches n p.number lt in
        below s.store f.dense p.key sum.0 n (subst (λ j. Stands s.store (place p.key j)) sum.1 (f.there w x p at_w h))
      where
        reaches : (n m : ℕ) → n < m → (d : ℕ) × (m ≡ n + d)
        reaches zero m lt = (m, omega arith)
        reaches (suc n) zero lt = absurd (omega arith)
        reaches (suc n) (suc m) lt = let r = reaches n m (omega arith) in (r.0, omega (arith, r.1))
event_filled b s (Settle w) a f given =
    let c = settle_is b s w a given in
    subst (λ (t : Answer). IsFilled t.0) (sym c.gives) (record {
      dense = f.dense;
      there = λ u x p at_u h. let y = ended_back s.workers w u x at_u in f.there u y.0 p y.1 (subst (λ ps. Has ps p) (sym y.2) h);
    })
event_filled b s (Cancel w) a f given =
    let c = cancel_is b s w a given in
    subst (λ (t : Answer). IsFilled t.0) (sym c.gives) (record {
      dense = f.dense;
      there = λ u x p at_u h. let y = ended_back s.workers w u x at_u in f.there u y.0 p y.1 (subst (λ ps. Has ps p) (sym y.2) h);
    })

opening_filled : (b : Build) (o : Opening) → IsDense o.store → IsFilled (opening b o)
opening_filled b o dense = record { dense = dense; there = λ w x p there. absurd (let h : Runs x ≡ Idle = got_replicate o.workers Idle w (Runs x) there in cc) }

-- each instance that a claim takes is there or comes next, so caches without gaps have none after any run
pub stays_dense : (b : Build) → StaysDense b
stays_dense b o es rs s dense given = let f = run_keeps b IsFilled (event_filled b) (opening b o) s es rs (opening_filled b o dense) given in f.dense

-- below the instance that a claim takes each has a running worker, so none of them is free
pub claims_least : (b : Build) → ClaimsLeast b
claims_least b s t w v vertex job at given p h n lt free =
    let c = claim_is b s w v (t, Claimed job) given in
    let same : Claimed job ≡ (claim_at b s w v c.start (claim_places s c.start)).1 = ap (λ (a : Answer). a.1) c.gives in
    let whose : vertex ≡ c.start.vertex = inside (sym at ∙ c.begins.there) in
    let places : places_by (needs_of vertex) job.instances ≡ claim_places s c.start =
    ap (λ (x : Vertex). places_by (needs_of x) job.instances) whose ∙ ap (λ r. places_by (needs_of c.start.vertex) (numbers_in r)) same
    ∙ places_numbered (held s.workers) (needs_of c.start.vertex) in
    let r = holder_of s.workers (place p.key n) (below_held (held s.workers) (needs_of c.start.vertex) p (subst (λ ps. Has ps p) places h) n lt) in
    free r.0 r.1 r.2 r.3
  where
    numbers_in : Reply → List ℕ
    numbers_in (Claimed job) = job.instances
    numbers_in r = []
