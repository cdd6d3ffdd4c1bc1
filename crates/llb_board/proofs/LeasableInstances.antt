-- The workers before an event: what their leases have is there, and the instances of a worker that runs again can be leased.
use Rattle.std.proofs.Common.{◌≡◌, ◌≢◌, ℕ, ◌<◌, ◌≤◌, Bool, true, false, List, [], length, Option, Some, None, unwrap_or, inl, inr, refl, sym, ap, subst, ◌∙◌}
use Rattle.std.proofs.Common.{arith}
use Rattle.std.specs.Prelude.{slice_get, slice_set}
use Rattle.std.specs.List.{All}
use Rattle.std.proofs.lemmas.List.Elements.{All-from_recursion}
use Rattle.llb_cache.specs.Caches as cache
use Rattle.llb_cache.specs.Caches.{Row, Leases, AreThere, trees_of, is_held}
use Rattle.llb_cache.specs.LeaseAdditions.{CanLend}
use Rattle.llb_model.specs.Caches.{Instance, IsExclusive, Has}
use Rattle.llb_model.specs.TwoCacheModels.{AreLeased, HasLease}
use Rattle.llb_model.specs.State.{Execution, WorkerStatus, Idle, Runs, places_at}
use Rattle.llb_model.proofs.GaplessInstances.{holder_of}
use Rattle.llb_model.proofs.TwoModelsLeases.{leased_holds_as}
use Rattle.llb_model.proofs.Lists.{get_set_same, get_set_other}
use Rattle.llb_board.specs.OptionalLeases.{leased_places}
use Rattle.llb_board.specs.WorkersKeptForUndo.{AreHeldThere, AreHeldOnce}
use Rattle.llb_board.proofs.LeaseCounts.{few_leases}
use Rattle.llb_model.proofs.TwoModelsOverwrites.{AreKeysApart, AreWithin}
use Rattle.llb_board.proofs.MicroStepsOnLeases.{places_are}
use Rattle.llb_model.proofs.TwoModelsUndo.{all_by, pairs_apart}
use Rattle.llb_model.proofs.ConstructorEqualities.{lease_inside}

-- ---- the instances of a lease

-- a worker's lease has the instances that the worker holds, and a worker without a lease holds none
pub lease_places : (out : Leases) (workers : List WorkerStatus) (ls : List (Option ℕ)) (w : ℕ) (l : Option ℕ) → AreLeased out workers ls
    → slice_get ls w ≡ Some l → leased_places out l ≡ places_at (slice_get workers w)
lease_places out workers ls w l leased there = by_worker (slice_get workers w) refl
  where
    by_lease : (l : Option ℕ) → slice_get ls w ≡ Some l → ((x : Execution) → slice_get workers w ≡ Some (Runs x) → ⊥) → leased_places out l ≡ []
    by_lease None at idle = refl
    by_lease (Some k) at idle = let r = leased.runs w k at in absurd (idle r.0 r.1)

    apart : {x : Execution} → ◌≡◌ {A = Option WorkerStatus} (Some Idle) (Some (Runs x)) → ⊥
    apart e = cc

    none : {x : Execution} → ◌≡◌ {A = Option WorkerStatus} None (Some (Runs x)) → ⊥
    none e = cc

    by_worker : (o : Option WorkerStatus) → slice_get workers w ≡ o → leased_places out l ≡ places_at o
    by_worker (Some (Runs x)) at =
        places_are out l x.places (subst (λ (k : Option (Option ℕ)). HasLease out k x.places) there (leased.has w x at))
    by_worker (Some Idle) at = by_lease l there (λ x runs. apart (sym at ∙ runs))
    by_worker None at = by_lease l there (λ x runs. none (sym at ∙ runs))

all_within : (rows : List Row) (ps : List Instance) → AreWithin rows ps → All (λ (p : Instance). p.number < length (trees_of rows p.key)) ps
all_within rows ps within =
    All-from_recursion (λ (p : Instance). p.number < length (trees_of rows p.key)) ps
    (all_by (λ (p : Instance). p.number < length (trees_of rows p.key)) ps within)

lease_apart : {k : ℕ} → ◌≡◌ {A = Option (Option ℕ)} (Some None) (Some (Some k)) → ⊥
lease_apart e = cc

same_places : (out : Leases) (a : ℕ) (ps qs : List Instance) → cache.Has out a ps → cache.Has out a qs → ps ≡ qs
same_places out a ps qs at also = ap (λ o. unwrap_or (unwrap_or o None) ps) (sym at ∙ also)

-- where each lease is a running worker's, and what the workers hold is there, what the leases have is there
pub leased_there : (workers : List WorkerStatus) (rows : List Row) (out : Leases) (ls : List (Option ℕ)) → AreHeldThere workers rows
    → AreLeased out workers ls → AreThere rows out
leased_there workers rows out ls there leased a ps at =
    let w = leased.whose a ps at in
    let x = leased.runs w.0 a w.1 in
    elim (leased.has w.0 x.0 x.1) [
      | inl h ↦
          let same : x.0.places ≡ ps = same_places out a x.0.places ps (subst (λ k. cache.Has out k x.0.places) (lease_inside (sym h.1 ∙ w.1)) h.2) at in
          subst (λ (qs : List Instance). All (λ (p : Instance). p.number < length (trees_of rows p.key)) qs) same
          (all_within rows x.0.places (λ p has. there w.0 x.0 p x.1 has))
      | inr h ↦ absurd (lease_apart (sym h.0 ∙ w.1))
    ]

-- ---- a worker that runs again

never : (b : Bool) → (b ≡ true → ⊥) → b ≡ false
never true none = absurd (none refl)
never false none = refl

idle_apart : {x : Execution} → ◌≡◌ {A = Option WorkerStatus} (Some (Runs x)) (Some Idle) → ⊥
idle_apart e = cc

-- the instances of a worker that runs again can be leased
pub can_lend : (rows : List Row) (out : Leases) (workers : List WorkerStatus) (ls : List (Option ℕ)) (w : ℕ) (x : Execution) (room : ℕ)
    → AreHeldThere (slice_set workers w (Runs x)) rows → AreHeldOnce (slice_set workers w (Runs x)) → slice_get workers w ≡ Some Idle
    → AreLeased out workers ls → AreKeysApart x.places → length workers ≤ 64 → length workers < room
    → CanLend (record { rows = rows; out = out }) (record { places = x.places; room = room })
can_lend rows out workers ls w x room there once idle leased apart most fits = record {
  free = All-from_recursion (λ (p : Instance). IsExclusive p.key.mode → is_held out p ≡ false) x.places
      (all_by (λ (p : Instance). IsExclusive p.key.mode → is_held out p ≡ false) x.places (λ p has exclusive.
      never (is_held out p) (clash p has exclusive)));
  apart = pairs_apart x.places apart;
  there = all_within rows x.places (λ p has. there w x p runs has);
  few = let few = few_leases out workers ls leased in omega (arith, few, most);
  room = let few = few_leases out workers ls leased in omega (arith, few, fits);
}
  where
    runs : slice_get (slice_set workers w (Runs x)) w ≡ Some (Runs x)
    runs = get_set_same workers w (Runs x) Idle idle

    clash : (p : Instance) → Has x.places p → IsExclusive p.key.mode → is_held out p ≡ true → ⊥
    clash p has exclusive taken =
        let h = holder_of workers p ((leased_holds_as out workers ls leased).running p taken) in
        let other : h.0 ≢ w = λ e. idle_apart (sym h.2 ∙ ap (slice_get workers) e ∙ idle) in
        let still : slice_get (slice_set workers w (Runs x)) h.0 ≡ Some (Runs h.1) = get_set_other workers w (Runs x) h.0 (λ e. other e) ∙ h.2 in
        other (once h.0 w h.1 x p still runs h.3 has exclusive)
