-- A lease that is taken back right after it was granted leaves the caches as they were.
use Rattle.std.proofs.Common.{◌≡◌, ◌≢◌, ℕ, zero, suc, ◌+◌, Bool, true, false, cond, List, [], ◌∷◌, ◌++◌, length, map, Option, Some, None}
use Rattle.std.proofs.Common.{slice_set}
use Rattle.std.proofs.Common.{unwrap_or, nat_lt, refl, sym, ap, ◌∙◌, arith, inl, inr}
use Rattle.std.specs.List.{AllPairs, AllByRecursion}
use Rattle.std.proofs.lemmas.Bool.{ltb-false, false_from_ne_true}
use Rattle.llb_tree.specs.Tree.{TreeMap}
use Rattle.llb_cache.specs.declared.lease_additions.Growth.{Growth}
use Rattle.llb_cache.specs.declared.lease_needs.Need.{Need}
use Rattle.llb_cache.specs.declared.lease_needs.Instance.{Instance}
use Rattle.llb_cache.specs.Key.{same_key}
use Rattle.llb_cache.specs.KeyEquality.{same_keys}
use Rattle.llb_cache.specs.Caches.{CachesValue, Row, Leases, Taken, place_for, taken, made, made_all, granted, free_lease, with_lease, trimmed, places_of, Has}
use Rattle.llb_cache.specs.LeaseAdditions.{growth_by, growth_at, growths, unmade, unmade_one, taken_back}
use Rattle.llb_cache.proofs.InstanceHolders.{free_within, lease_has, trimmed_none}
use Rattle.llb_cache.proofs.ListMembership.{In, pairs_head, pairs_tail}
use Rattle.llb_cache.proofs.MadeThenRemoved.{unmade_made, look_made}

-- ---- the rows

-- the key of each is another than those after it
abbrev AreApart : List Taken → Type 0
AreApart [] = Unit {0}
AreApart (t ∷ ts) = AllByRecursion (λ (u : Taken). same_key u.0.key t.0.key ≡ false) ts × AreApart ts

growths_stay : (rows : List Row) (p : Instance) (tree : TreeMap) (ts : List Taken) → AllByRecursion (λ (u : Taken). same_key u.0.key p.key ≡ false) ts
    → map (λ (u : Taken). growth_at rows u.0) ts ≡ map (λ (u : Taken). growth_at (made rows p tree) u.0) ts
growths_stay rows p tree [] apart = refl
growths_stay rows p tree (u ∷ ts) apart =
    let look = look_made rows p tree u.0.key apart.0 in
    let rest = growths_stay rows p tree ts apart.1 in
    λ i. growth_by (sym look i) u.0.number ∷ rest i

all_unmade : (rows : List Row) (ts : List Taken) → AreApart ts
    → unmade (made_all rows ts) (map (λ (t : Taken). t.0) ts) (map (λ (t : Taken). growth_at rows t.0) ts) ≡ rows
all_unmade rows [] apart = refl
all_unmade rows (t ∷ ts) apart =
    let next = made rows t.0 t.1 in
    let growths = growths_stay rows t.0 t.1 ts apart.0 in
    (λ i. unmade_one (unmade (made_all next ts) (map (λ (u : Taken). u.0) ts) (growths i)) t.0 (growth_at rows t.0))
    ∙ ap (λ r. unmade_one r t.0 (growth_at rows t.0)) (all_unmade next ts apart.1) ∙ unmade_made rows t.0 t.1

apart_taken : (out : Leases) (needs : List Need) → AllPairs (λ (n m : Need). n.key ≢ m.key) needs → AreApart (taken out needs)
apart_taken out [] differ = tt
apart_taken out (n ∷ needs) differ = (
  each needs (λ m h. pairs_head (λ (n m : Need). n.key ≢ m.key) n needs differ m h),
  apart_taken out needs (pairs_tail (λ (n m : Need). n.key ≢ m.key) n needs differ),
)
  where
    each : (ms : List Need) → ((m : Need) → In ms m → n.key ≢ m.key) → AllByRecursion (λ (u : Taken). same_key u.0.key n.key ≡ false) (taken out ms)
    each [] apart = tt
    each (m ∷ ms) apart = (
      false_from_ne_true (same_key m.key n.key) (λ e. apart m (inl refl) (sym (same_keys m.key n.key e))),
      each ms (λ k h. apart k (inr h)),
    )

growths_taken : (c : CachesValue) (needs : List Need) → growths c needs ≡ map (λ (t : Taken). growth_at c.rows t.0) (taken c.out needs)
growths_taken c [] = refl
growths_taken c (n ∷ needs) = ap (λ (gs : List Growth). growth_at c.rows (place_for c.out n.key) ∷ gs) (growths_taken c needs)

-- ---- the leases

set_twice : (out : Leases) (n : ℕ) (o : Option (List Instance)) → slice_set (slice_set out n o) n None ≡ slice_set out n None
set_twice [] n o = refl
set_twice (x ∷ out) zero o = refl
set_twice (x ∷ out) (suc n) o = ap (λ l. x ∷ l) (set_twice out n o)

-- nothing is out under the free number
free_none : (out : Leases) → slice_set out (free_lease out) None ≡ out
free_none [] = refl
free_none (None ∷ out) = refl
free_none (Some ps ∷ out) =
    let first : free_lease (Some ps ∷ out) ≡ 1 + free_lease out = refl in
    let next : free_lease (Some ps ∷ out) ≡ suc (free_lease out) = omega (arith, first) in
    ap (λ n. slice_set (Some ps ∷ out) n None) next ∙ ap (λ l. Some ps ∷ l) (free_none out)

set_last : (out : Leases) (ps : List Instance) → slice_set (out ++ Some ps ∷ []) (length out) None ≡ out ++ None ∷ []
set_last [] ps = refl
set_last (o ∷ out) ps = ap (λ l. o ∷ l) (set_last out ps)

leases_back : (out : Leases) (ps : List Instance) → trimmed out ≡ out → trimmed (slice_set (with_lease out (free_lease out) ps) (free_lease out) None) ≡ out
leases_back out ps ends = go (nat_lt (free_lease out) (length out)) refl
  where
    go : (b : Bool) → nat_lt (free_lease out) (length out) ≡ b
        → trimmed (slice_set (cond b (slice_set out (free_lease out) (Some ps)) (out ++ Some ps ∷ [])) (free_lease out) None) ≡ out
    go true is = ap trimmed (set_twice out (free_lease out) (Some ps) ∙ free_none out) ∙ ends
    go false is =
        let within = free_within out in
        let past = ltb-false (free_lease out) (length out) is in
        let last : free_lease out ≡ length out = omega (arith, within, past) in
        ap (λ n. trimmed (slice_set (out ++ Some ps ∷ []) n None)) last ∙ ap trimmed (set_last out ps) ∙ trimmed_none out ∙ ends

-- ---- both

of_number : (out : Leases) (n : ℕ) (ps : List Instance) → Has out n ps → places_of out n ≡ ps
of_number out n ps at = ap (λ o. unwrap_or (unwrap_or o None) []) at

pub comes_back : (c : CachesValue) (needs : List Need) → trimmed c.out ≡ c.out → AllPairs (λ (n m : Need). n.key ≢ m.key) needs
    → taken_back (granted c needs).1 (granted c needs).0 (growths c needs) ≡ c
comes_back c needs ends differ =
    let ps = map (λ (t : Taken). t.0) (taken c.out needs) in
    let out = with_lease c.out (free_lease c.out) ps in
    let places = of_number out (free_lease c.out) ps (lease_has c.out ps) in
    let rows = (λ i. unmade (made_all c.rows (taken c.out needs)) (places i) (growths_taken c needs i))
    ∙ all_unmade c.rows (taken c.out needs) (apart_taken c.out needs differ) in
    let leases = leases_back c.out ps ends in
    λ i. record { rows = rows i; out = leases i }
