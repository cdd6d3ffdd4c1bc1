-- What a lease has made ready is what its needs take.
use Rattle.std.proofs.Common.{◌≡◌, ℕ, List, [], ◌∷◌, map, None, Ok, find, refl, sym, ap, ◌∙◌, unwrap_or}
use Rattle.llb_cache.specs.declared.lease_needs.Need.{Need}
use Rattle.llb_cache.specs.declared.lease_needs.Instance.{Instance}
use Rattle.llb_cache.specs.declared.taken_instances.Ready.{Ready}
use Rattle.llb_cache.specs.LeasePreparation.{shown}
use Rattle.llb_cache.specs.Caches.{CachesValue, Row, Leases, Taken, taken, made_all, is_locked_and_held, free_lease, with_lease, granted, lease_by}
use Rattle.llb_cache.specs.Caches.{lease_of, places_of, place_for}
use Rattle.llb_cache.proofs.InstanceHolders.{lease_has}

pub places_shown : (readies : List Ready) → map (λ (r : Ready). r.place) readies ≡ map (λ (t : Taken). t.0) (map shown readies)
places_shown [] = refl
places_shown (r ∷ readies) = ap (λ ps. r.place ∷ ps) (places_shown readies)

-- a lease that was made ready need by need is the one that the rule grants for all the needs
pub is_granted : (c : CachesValue) (needs left : List Need) (readies : List Ready) (places : List Instance) (rows : List Row) (out : Leases) (lease : ℕ)
    → left ≡ needs → map shown readies ≡ taken c.out left → places ≡ map (λ (r : Ready). r.place) readies
    → rows ≡ made_all c.rows (map shown readies) → out ≡ with_lease c.out (free_lease c.out) places → lease ≡ free_lease c.out
    → granted c needs ≡ (lease, record { rows = rows; out = out })
is_granted c needs left readies places rows out lease same takes has makes puts number =
    let all : taken c.out needs ≡ map shown readies = ap (taken c.out) (sym same) ∙ sym takes in
    let firsts : map (λ (t : Taken). t.0) (taken c.out needs) ≡ places = ap (λ ts. map (λ (t : Taken). t.0) ts) all ∙ sym (has ∙ places_shown readies) in
    let made_is : made_all c.rows (taken c.out needs) ≡ rows = ap (made_all c.rows) all ∙ sym makes in
    let out_is : with_lease c.out (free_lease c.out) (map (λ (t : Taken). t.0) (taken c.out needs)) ≡ out =
    ap (with_lease c.out (free_lease c.out)) firsts ∙ sym puts in
    λ i. (sym number i, record { rows = made_is i; out = out_is i })

-- where no need is refused
pub not_refused : (c : CachesValue) (needs : List Need) → find (is_locked_and_held c.out) needs ≡ None → lease_of c needs ≡ Ok (granted c needs)
not_refused c needs none = ap (lease_by c needs) none

-- a lease has an instance for each need
pub granted_has : (c : CachesValue) (needs : List Need) → places_of (granted c needs).1.out (granted c needs).0
    ≡ map (λ (n : Need). place_for c.out n.key) needs
granted_has c needs =
    ap (λ o. unwrap_or (unwrap_or o None) []) (lease_has c.out (map (λ (t : Taken). t.0) (taken c.out needs))) ∙ firsts needs
  where
    firsts : (needs : List Need) → map (λ (t : Taken). t.0) (taken c.out needs) ≡ map (λ (n : Need). place_for c.out n.key) needs
    firsts [] = refl
    firsts (n ∷ needs) = ap (λ ps. place_for c.out n.key ∷ ps) (firsts needs)
