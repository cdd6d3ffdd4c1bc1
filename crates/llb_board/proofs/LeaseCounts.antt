-- How many leases are out: none of a machine that nothing has happened on, one less after a lease that is given back, and no
-- more than workers.
use Rattle.std.proofs.Common.{◌≡◌, ◌≢◌, ℕ, zero, suc, ◌+◌, ◌<◌, ◌≤◌, List, [], ◌∷◌, length, Option, Some, None, is_some, inl, inr, refl, sym, ◌∙◌, cond, arith}
use Rattle.std.specs.Prelude.{slice_get, slice_set, replicate}
use Rattle.std.proofs.lemmas.List.{length-replicate}
use Rattle.std.proofs.lemmas.List.Sums.{sum_by-cons}
use Rattle.llb_cache.specs.Caches as cache
use Rattle.llb_cache.specs.Caches.{Leases, leases}
use Rattle.llb_model.specs.Caches.{Instance}
use Rattle.llb_model.specs.State.{WorkerStatus, Idle, Runs}
use Rattle.llb_model.specs.TwoCacheModels.{AreLeased}
use Rattle.llb_model.proofs.Lists.{got_set, got_replicate}

-- ---- counts

one_more : (ps : List Instance) (out : Leases) → leases (Some ps ∷ out) ≡ 1 + leases out
one_more ps out = sum_by-cons (λ (o : Option (List Instance)). cond (is_some o) 1 0) (Some ps) out

some_out : (out : Leases) (l : ℕ) (ps : List Instance) → cache.Has out l ps → 0 < leases out
some_out [] l ps at = absurd cc
some_out (None ∷ out) zero ps at = absurd cc
some_out (None ∷ out) (suc l) ps at = some_out out l ps at
some_out (Some qs ∷ out) l ps at = let one = one_more qs out in omega (arith, one)

nothing_out : (out : Leases) → ((l : ℕ) (ps : List Instance) → cache.Has out l ps → ⊥) → leases out ≡ 0
nothing_out [] none = refl
nothing_out (None ∷ out) none = nothing_out out (λ l. none (suc l))
nothing_out (Some ps ∷ out) none = absurd (none 0 ps refl)

at_most_one_less : (out : Leases) (l : ℕ) → leases out ≤ leases (slice_set out l None) + 1
at_most_one_less [] l = omega arith
at_most_one_less (None ∷ out) zero = omega arith
at_most_one_less (None ∷ out) (suc l) = at_most_one_less out l
at_most_one_less (Some qs ∷ out) zero =
    let one = one_more qs out in
    let none : leases (None ∷ out) ≡ leases out = refl in
    omega (arith, one, none)
at_most_one_less (Some qs ∷ out) (suc l) =
    let new = one_more qs (slice_set out l None) in
    let old = one_more qs out in
    let rest = at_most_one_less out l in
    omega (arith, new, old, rest)

-- ---- leases of workers

-- idle workers without a lease are right where no lease is out
pub none_leased : (out : Leases) (n : ℕ) → leases out ≡ 0 → AreLeased out (replicate n Idle) (replicate n None)
none_leased out n none = record {
  count = length-replicate n None ∙ sym (length-replicate n Idle);
  has = λ w x at. absurd (let h : Runs x ≡ Idle = got_replicate n Idle w (Runs x) at in cc);
  runs = λ w l at. absurd (let h : Some l ≡ None = got_replicate n None w (Some l) at in cc);
  once = λ w u l at here. absurd (let h : Some l ≡ None = got_replicate n None w (Some l) at in cc);
  whose = λ l ps at. absurd (let some = some_out out l ps at in omega (arith, some, none));
}

-- where no worker has a lease, none is out
pub none_out : (out : Leases) (workers : List WorkerStatus) (ls : List (Option ℕ)) → AreLeased out workers ls
    → ((w : ℕ) (l : ℕ) → slice_get ls w ≡ Some (Some l) → ⊥) → leases out ≡ 0
none_out out workers ls are idle = nothing_out out (λ l ps at. let w = are.whose l ps at in idle w.0 l w.1)

-- some place of the list has the lease with this number
abbrev Stands : List (Option ℕ) → ℕ → Type 0
Stands ls l = (w : ℕ) × (slice_get ls w ≡ Some (Some l))

stands_later : (o : Option ℕ) (ls : List (Option ℕ)) (l : ℕ) → o ≢ Some l → Stands (o ∷ ls) l → Stands ls l
stands_later o ls l apart (zero, at) = absurd (apart (let same : o ≡ Some l = cc in same))
stands_later o ls l apart (suc w, at) = (w, at)

-- if each lease that is out has its number in the list, no more leases are out than the list has places
few_by : (ls : List (Option ℕ)) (out : Leases) → ((l : ℕ) (ps : List Instance) → cache.Has out l ps → Stands ls l) → leases out ≤ length ls
few_by [] out whose = let none = nothing_out out (λ l ps at. let w = whose l ps at in cc (w.1)) in omega (arith, none)
few_by (None ∷ ls) out whose =
    let rest = few_by ls out (λ l ps at. stands_later None ls l (λ e. cc) (whose l ps at)) in
    omega (arith, rest)
few_by (Some k ∷ ls) out whose =
    let rest = few_by ls (slice_set out k None) (λ l ps at. elim (got_set out k None l (Some ps) at) [
      | inl h ↦ absurd (cc (h.1))
      | inr h ↦ stands_later (Some k) ls l (λ e. h.0 (let same : l ≡ k = cc in same)) (whose l ps h.1)
    ]) in
    let less = at_most_one_less out k in
    omega (arith, rest, less)

-- each lease that is out is one worker's own, so there are no more than workers
pub few_leases : (out : Leases) (workers : List WorkerStatus) (ls : List (Option ℕ)) → AreLeased out workers ls → leases out ≤ length workers
few_leases out workers ls are =
    let few = few_by ls out are.whose in
    let count = are.count in
    omega (arith, few, count)
