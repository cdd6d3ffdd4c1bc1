-- Where the table grants what the board does, and the first cause where not.
use Rattle.std.proofs.Common.{◌≡◌, ℕ, Bool, true, List, [], ◌∷◌, map, Option, Some, None, inl, inr, refl, sym, ap, ◌∙◌}
use Rattle.std.specs.Prelude.{◌⊎◌, Result, Ok, Err, is_ok, slice_get, slice_set, if◌then◌else◌}
use Rattle.std.specs.List.{find}
use Rattle.llb_cache.specs.declared.key.Key.{Key}
use Rattle.llb_cache.specs.declared.lease_needs.Need as cache_need
use Rattle.llb_cache.specs.declared.fault.LeaseFault.{LeaseFault}
use Rattle.llb_cache.specs.Caches.{CachesValue, Leases, Taken, taken, place_for, free_lease, with_lease, made_all, is_locked_and_held, lease_by}
use Rattle.llb_cache.specs.Caches.{AreApart, AreThere}
use Rattle.llb_loader.specs.declared.graph.Vertex.{Vertex}
use Rattle.llb_tree.specs.Tree.{TreeMap}
use Rattle.llb_model.specs.Caches.{Instance}
use Rattle.llb_model.specs.Program.{Build, Start, start_with, Need, needs_of}
use Rattle.llb_model.specs.Outcome.{inputs_from}
use Rattle.llb_model.specs.State.{Status, Waiting, Settled, Execution, WorkerStatus, Idle, Runs, State, ending_at, program_in}
use Rattle.llb_model.specs.State.{start_from, ending_from, held, held_key, places_for}
use Rattle.llb_model.specs.TwoCacheModels.{store_of, HoldsAs, asked, places_taken}
use Rattle.llb_model.specs.Table.{or_not_ready, claim_start, claim_unless, claimed, claim_grant}
use Rattle.llb_model.proofs.Lists.{inside}
use Rattle.llb_model.proofs.GrantedEvents.{Answer, ready_is}
use Rattle.llb_model.proofs.TwoModelsClaims.{refuses_alike, takes_alike}
use Rattle.llb_board.specs.OptionalLeases.{some_lease, lease_if}
use Rattle.llb_board.specs.CacheNeeds.{first_held_key, unless_held}
use Rattle.llb_board.specs.WorkerRules.{Begun, begun_at, begun, Written}
use Rattle.llb_board.specs.WorkerModelValues.{at_of}
use Rattle.llb_board.specs.declared.workers.running_workers.Seat.{Seat}
use Rattle.llb_events.specs.declared.refusal.ClaimFault.{ClaimFault}
use Rattle.llb_events.specs.declared.refusal.ClaimFault.TheVariants as claim
use Rattle.llb_events.specs.declared.refusal.StepFault.{StepFault}
use Rattle.llb_events.specs.declared.refusal.SettleFault.{SettleFault}
use Rattle.llb_events.specs.declared.refusal.SettleFault.TheVariants.{NotFinished}
use Rattle.llb_board.proofs.NeedsByMount.{first_refused_held}
use Rattle.llb_model.proofs.ConstructorEqualities.{inside_ok}

-- ---- a claim

abbrev pub start_for : Build → State → ℕ → ℕ → Result Start ClaimFault
start_for b s w v = claim_start s.statuses v (slice_get s.workers w) (slice_get b.graph.vertices v)

pub record CanClaim (b : Build) (s : State) (w v : ℕ) (x : Vertex) : Type 0 where
  pub idle : slice_get s.workers w ≡ Some Idle
  pub waits : slice_get s.statuses v ≡ Some Waiting
  pub trees : List TreeMap
  pub inputs : inputs_from (ending_at s.statuses) x.inputs ≡ Some trees
  pub there : slice_get b.graph.vertices v ≡ Some x
  pub grants : claim_grant b s w v ≡ claim_unless b s w v (start_with x trees) (held_key (held s.workers) (needs_of x))

-- a claim that has a start: the worker is idle, the vertex waits with all inputs there, and only a locked key can refuse it
pub can_claim : (b : Build) (s : State) (w v : ℕ) (x : Vertex) → is_ok (start_for b s w v) ≡ true → slice_get b.graph.vertices v ≡ Some x → CanClaim b s w v x
can_claim b s w v x ok there =
    by_worker (slice_get s.workers w) refl (ap (λ o. is_ok (claim_start s.statuses v (slice_get s.workers w) o)) (sym there) ∙ ok)
  where
    begun_with : slice_get s.workers w ≡ Some Idle → (start : Start) → start_from s.statuses (slice_get s.statuses v) (Some x) ≡ Some start → CanClaim b s w v x
    begun_with idle start is =
        let r = ready_is b s.statuses v start (ap (start_from s.statuses (slice_get s.statuses v)) there ∙ is) in
        let same : start.vertex ≡ x = inside (sym r.there ∙ there) in
        record {
          idle = idle;
          waits = r.waits;
          trees = start.inputs;
          inputs = ap (λ (y : Vertex). inputs_from (ending_at s.statuses) y.inputs) (sym same) ∙ r.inputs;
          there = there;
          grants = ap (λ o. claimed b s w v (claim_start s.statuses v o (slice_get b.graph.vertices v))) idle
              ∙ ap (λ o. claimed b s w v (claim_start s.statuses v (Some Idle) o)) there
              ∙ ap (λ o. claimed b s w v (or_not_ready o)) is
              ∙ (λ i. claim_unless b s w v (start_with (same i) start.inputs) (held_key (held s.workers) (needs_of (same i))));
        }

    by_ready : slice_get s.workers w ≡ Some Idle → (o : Option Start) → start_from s.statuses (slice_get s.statuses v) (Some x) ≡ o
        → is_ok (or_not_ready o) ≡ true → CanClaim b s w v x
    by_ready idle None is ok = absurd cc
    by_ready idle (Some start) is ok = begun_with idle start is

    by_worker : (o : Option WorkerStatus) → slice_get s.workers w ≡ o → is_ok (claim_start s.statuses v o (Some x)) ≡ true → CanClaim b s w v x
    by_worker None is ok = absurd cc
    by_worker (Some (Runs y)) is ok = absurd cc
    by_worker (Some Idle) is ok = by_ready is (start_from s.statuses (slice_get s.statuses v) (Some x)) refl ok

-- the first locked key that a lease has is the first that the running workers have
pub leased_as_held : (c : CachesValue) (workers : List WorkerStatus) (inputs : List TreeMap) (x : Vertex) → HoldsAs c.out workers
    → first_held_key c.out (needs_of x) ≡ held_key (held workers) (needs_of x)
leased_as_held c workers inputs x same = sym (first_refused_held c.out inputs (needs_of x)) ∙ refuses_alike c.out workers inputs (needs_of x) same

-- the first locked key that is held is the fault
pub held_is_fault : (needs : List Need) (o : Option Key) (e : ClaimFault) → unless_held needs o ≡ Err e → (k : Key) × (o ≡ Some k) × (e ≡ claim.Held k)
held_is_fault needs None e is = absurd cc
held_is_fault needs (Some k) e is = (k, refl, sym (fault_inside is))
  where
    fault_inside : ◌≡◌ {A = Result (List Need) ClaimFault} (Err (claim.Held k)) (Err e) → claim.Held k ≡ e
    fault_inside e = cc

pub open_is : (needs ns : List Need) (o : Option Key) → unless_held needs o ≡ Ok ns → (o ≡ None) × (ns ≡ needs)
open_is needs ns None is = (refl, sym (inside_ok is))
open_is needs ns (Some k) is = absurd cc

-- the instances that a lease takes
pub taken_places : (out : Leases) (inputs : List TreeMap) (needs : List Need)
    → map (λ (t : Taken). t.0) (taken out (asked inputs needs)) ≡ places_taken out needs
taken_places out inputs [] = refl
taken_places out inputs (n ∷ needs) = ap (λ ps. place_for out n.key ∷ ps) (taken_places out inputs needs)

-- what leases and workers agree on, and what holds of leases
pub record Leased (c : CachesValue) (workers : List WorkerStatus) : Type 0 where
  pub same : HoldsAs c.out workers
  pub apart : AreApart c.out
  pub there : AreThere c.rows c.out

pub places_alike : (c : CachesValue) (workers : List WorkerStatus) (inputs : List TreeMap) (needs : List Need) → Leased c workers
    → places_taken c.out needs ≡ places_for (held workers) needs
places_alike c workers inputs needs l = sym (taken_places c.out inputs needs) ∙ takes_alike c.out workers inputs needs l.same l.apart

-- after a lease of these instances is taken: a new lease is out with them; or, where there are no instances, no lease is taken
abbrev pub LeasedNew : Leases → Option ℕ → List Instance → Leases → Type 0
LeasedNew out l ps new = ((l ≡ Some (free_lease out)) × (new ≡ with_lease out (free_lease out) ps)) ⊎ ((l ≡ None) × (ps ≡ []) × (new ≡ out))

-- the lease of what a vertex needs, and the caches after it
pub record Granted (c : CachesValue) (x : Vertex) (trees : List TreeMap) (l : Option ℕ) (new : CachesValue) : Type 0 where
  pub rows : new.rows ≡ made_all c.rows (taken c.out (asked trees (needs_of x)))
  pub leased : LeasedNew c.out l (places_taken c.out (needs_of x)) new.out

lease_inside : {a b : Option ℕ × CachesValue} → ◌≡◌ {A = Result (Option ℕ × CachesValue) LeaseFault} (Ok a) (Ok b) → a ≡ b
lease_inside e = cc

-- a lease of a vertex's needs makes the instances that were not there, and is out under a new number; of no needs there is none
pub granted_of : (c new : CachesValue) (x : Vertex) (trees : List TreeMap) (l : Option ℕ) (ns : List cache_need.Need)
    → ns ≡ asked trees (needs_of x) → lease_if c ns ≡ Ok (l, new)
    → Granted c x trees l new
granted_of c new x trees l [] are is =
    let same = lease_inside is in
    record {
      rows = ap (λ p. p.1.rows) (sym same) ∙ ap (λ ms. made_all c.rows (taken c.out ms)) are;
      leased = inr (
        ap (λ p. p.0) (sym same),
        sym (taken_places c.out trees (needs_of x)) ∙ ap (λ ms. map (λ (t : Taken). t.0) (taken c.out ms)) (sym are),
        ap (λ p. p.1.out) (sym same),
      );
    }
granted_of c new x trees l (n ∷ ns) are is = by_key (find (is_locked_and_held c.out) (n ∷ ns)) is
  where
    by_key : (o : Option cache_need.Need) → some_lease (lease_by c (n ∷ ns) o) ≡ Ok (l, new) → Granted c x trees l new
    by_key (Some m) is = absurd cc
    by_key None is =
        let same = lease_inside is in
        record {
          rows = sym (ap (λ p. p.1.rows) same) ∙ ap (λ ms. made_all c.rows (taken c.out ms)) are;
          leased = inl (
            sym (ap (λ p. p.0) same),
            sym (ap (λ p. p.1.out) same)
                ∙ ap (λ ms. with_lease c.out (free_lease c.out) (map (λ (t : Taken). t.0) (taken c.out ms))) are
                ∙ ap (with_lease c.out (free_lease c.out)) (taken_places c.out trees (needs_of x)),
          );
        }

pub begun_is : (b : Build) (c : CachesValue) (w v : ℕ) (x : Vertex) (trees : List TreeMap) (o : Option (List TreeMap)) (begun_so : Begun)
    → o ≡ Some trees → begun b c w v x o ≡ Ok begun_so
    → begun_at b c w v x trees (places_taken c.out (needs_of x)) ≡ begun_so
begun_is b c w v x trees o begun_so there is = inside_ok (ap (begun b c w v x) (sym there) ∙ is)

-- what is leased is what the vertex needs
pub needs_asked : (b : Build) (c : CachesValue) (w v : ℕ) (x : Vertex) (trees : List TreeMap) (o : Option (List TreeMap))
    (begun_so : Begun) → o ≡ Some trees → begun b c w v x o ≡ Ok begun_so
    → begun_so.needs ≡ asked trees (needs_of x)
needs_asked b c w v x trees o begun_so there is = ap (λ (g : Begun). g.needs) (sym (begun_is b c w v x trees o begun_so there is))

-- ---- a micro-step

-- a micro-step over the lists of instances
abbrev pub granted_by : List Seat → ℕ → Result Written StepFault → Result Answer StepFault
granted_by ds w (Ok p) = Ok (record { statuses = []; workers = slice_set (map at_of ds) w (Runs p.0); store = store_of p.1 }, p.2)
granted_by ds w (Err e) = Err e

-- ---- a settle

abbrev pub left_if : Build → Execution → Bool → Result (ℕ × Status) SettleFault
left_if b x f = if f then Ok (x.vertex, Settled (ending_from (program_in b x) x)) else Err NotFinished
