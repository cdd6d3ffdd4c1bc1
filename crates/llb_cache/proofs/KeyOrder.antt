-- The order of keys is a total order, and two keys are at one position of it if they are one.
use Rattle.std.specs.Prelude.{◌≡◌, Option, Some, None}
use Rattle.std.proofs.Common.{refl, sym, ap, ◌∙◌}
use Rattle.std.specs.declared.cmp.Ordering.{Ordering}
use Rattle.std.specs.declared.cmp.Ordering.TheVariants.{Less, Equal, Greater}
use Rattle.std.specs.Ordering.{ordering_then, nat_cmp, is_eq}
use Rattle.std.specs.Option.{option_cmp}
use Rattle.std.specs.Cmp.{IsTotalOrder, Equal-is, both_ways, on_total, then_total, nat_cmp_total, eq_by_cmp_equiv}
use Rattle.std.specs.Cmp.Lexicographic.{slice_cmp, nat_list_cmp_total, options_total}
use Rattle.std.specs.FinMap.{IsAntisymmetric, slice_cmp-IsAntisymmetric, nat_cmp-IsAntisymmetric}
use Rattle.llb_cache.specs.Key.{same_key}
use Rattle.llb_cache.specs.KeyEquality.{same_keys, key_itself}
use Rattle.llb_cache.specs.declared.key.Key.{Key}
use Rattle.llb_cache.specs.declared.key.Seed.{Seed}
use Rattle.llb_cache.specs.declared.key.Mode.{Mode}
use Rattle.llb_cache.specs.declared.key.Mode.TheVariants.{Shared, Private, Locked}
use Rattle.llb_cache.specs.KeyOrder.{mode_place, seed_cmp, key_cmp}

seed_cmp-IsTotalOrder : IsTotalOrder seed_cmp
seed_cmp-IsTotalOrder = then_total (on_total (λ (s : Seed). s.digest) nat_list_cmp_total) (on_total (λ (s : Seed). s.index) nat_cmp_total)

pub key_cmp-IsTotalOrder : IsTotalOrder key_cmp
unfolding key_cmp
key_cmp-IsTotalOrder =
    then_total (then_total (on_total (λ (k : Key). k.id) nat_list_cmp_total) (on_total (λ (k : Key). mode_place k.mode) nat_cmp_total))
    (on_total (λ (k : Key). k.seed) (options_total seed_cmp-IsTotalOrder))

-- ---- only equal keys compare as equal

both_equal : (a b : Ordering) → ordering_then a b ≡ Equal → (a ≡ Equal) × (b ≡ Equal)
both_equal Equal b e = (refl, e)
both_equal Less b e = absurd (let x : Less ≡ Equal = e in cc)
both_equal Greater b e = absurd (let x : Greater ≡ Equal = e in cc)

seed_cmp-IsAntisymmetric : IsAntisymmetric seed_cmp
seed_cmp-IsAntisymmetric a b e =
    let parts = both_equal (slice_cmp nat_cmp a.digest b.digest) (nat_cmp a.index b.index) e in
    ap (λ d. let s : Seed = record { digest = d; index = a.index } in s) (slice_cmp-IsAntisymmetric nat_cmp-IsAntisymmetric a.digest b.digest parts.0)
    ∙ ap (λ i. let s : Seed = record { digest = b.digest; index = i } in s) (nat_cmp-IsAntisymmetric a.index b.index parts.1)

seeds_same : (a b : Option Seed) → option_cmp seed_cmp a b ≡ Equal → a ≡ b
seeds_same None None e = refl
seeds_same None (Some b) e = absurd (let x : Less ≡ Equal = e in cc)
seeds_same (Some a) None e = absurd (let x : Greater ≡ Equal = e in cc)
seeds_same (Some a) (Some b) e = ap (λ s. Some s) (seed_cmp-IsAntisymmetric a b e)

-- modes at the same position are the same
modes_same : (a b : Mode) → mode_place a ≡ mode_place b → a ≡ b
modes_same Shared Shared e = refl
modes_same Shared Private e = absurd cc
modes_same Shared Locked e = absurd cc
modes_same Private Shared e = absurd cc
modes_same Private Private e = refl
modes_same Private Locked e = absurd cc
modes_same Locked Shared e = absurd cc
modes_same Locked Private e = absurd cc
modes_same Locked Locked e = refl

keys_tie : IsAntisymmetric key_cmp
unfolding key_cmp
keys_tie a b e =
    let ids = slice_cmp nat_cmp a.id b.id in
    let modes = nat_cmp (mode_place a.mode) (mode_place b.mode) in
    let parts = both_equal (ordering_then ids modes) (option_cmp seed_cmp a.seed b.seed) e in
    let front = both_equal ids modes parts.0 in
    let id = slice_cmp-IsAntisymmetric nat_cmp-IsAntisymmetric a.id b.id front.0 in
    let mode = modes_same a.mode b.mode (nat_cmp-IsAntisymmetric (mode_place a.mode) (mode_place b.mode) front.1) in
    let seed = seeds_same a.seed b.seed parts.1 in
    λ i. record { id = id i; seed = seed i; mode = mode i }

-- two keys are at one position in the order if they are one
pub tie_is_same : (k l : Key) → is_eq (key_cmp k l) ≡ same_key k l
tie_is_same k l =
    both_ways (is_eq (key_cmp k l)) (same_key k l)
    (λ e. let same = keys_tie k l ((Equal-is (key_cmp k l)).0 e) in ap (same_key k) (sym same) ∙ key_itself k)
    (λ e. ap (λ m. is_eq (key_cmp k m)) (sym (same_keys k l e)) ∙ (eq_by_cmp_equiv key_cmp-IsTotalOrder).refl k)
