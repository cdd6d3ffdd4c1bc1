-- Only equal keys tie in the order of the keys of caches.
use Rattle.std.specs.Prelude.{◌≡◌, Option, Some, None}
use Rattle.std.proofs.Common.{refl, ap, ◌∙◌}
use Rattle.std.specs.declared.cmp.Ordering.{Ordering}
use Rattle.std.specs.declared.cmp.Ordering.TheVariants.{Less, Equal, Greater}
use Rattle.std.specs.Ordering.{ordering_then, nat_cmp, int_cmp}
use Rattle.std.specs.Option.{option_cmp}
use Rattle.std.specs.Cmp.Lexicographic.{slice_cmp}
use Rattle.std.specs.FinMap.{IsAntisymmetric, slice_cmp-IsAntisymmetric, nat_cmp-IsAntisymmetric, int_cmp-IsAntisymmetric}
use Rattle.llb_loader.specs.Mounts.{Seed, CacheKey}
use Rattle.llb_loader.specs.KeyOrder.{seed_cmp, key_cmp}

both_equal : (a b : Ordering) → ordering_then a b ≡ Equal → (a ≡ Equal) × (b ≡ Equal)
both_equal Equal b e = (refl, e)
both_equal Less b e = absurd (let x : Less ≡ Equal = e in cc)
both_equal Greater b e = absurd (let x : Greater ≡ Equal = e in cc)

seed_cmp-IsAntisymmetric : IsAntisymmetric seed_cmp
seed_cmp-IsAntisymmetric a b e =
    let parts = both_equal (slice_cmp nat_cmp a.digest b.digest) (int_cmp a.index b.index) e in
    ap (λ d. let s : Seed = record { digest = d; index = a.index } in s) (slice_cmp-IsAntisymmetric nat_cmp-IsAntisymmetric a.digest b.digest parts.0)
    ∙ ap (λ i. let s : Seed = record { digest = b.digest; index = i } in s) (int_cmp-IsAntisymmetric a.index b.index parts.1)

seeds_same : (a b : Option Seed) → option_cmp seed_cmp a b ≡ Equal → a ≡ b
seeds_same None None e = refl
seeds_same None (Some b) e = absurd (let x : Less ≡ Equal = e in cc)
seeds_same (Some a) None e = absurd (let x : Greater ≡ Equal = e in cc)
seeds_same (Some a) (Some b) e = ap (λ s. Some s) (seed_cmp-IsAntisymmetric a b e)

-- two keys of which neither comes first are equal
pub key_cmp-IsAntisymmetric : IsAntisymmetric key_cmp
key_cmp-IsAntisymmetric a b e =
    let parts = both_equal (ordering_then (slice_cmp nat_cmp a.id b.id) (int_cmp a.mode b.mode)) (option_cmp seed_cmp a.seed b.seed) e in
    let front = both_equal (slice_cmp nat_cmp a.id b.id) (int_cmp a.mode b.mode) parts.0 in
    ap (λ i. let k : CacheKey = record { id = i; seed = a.seed; mode = a.mode } in k) (slice_cmp-IsAntisymmetric nat_cmp-IsAntisymmetric a.id b.id front.0)
    ∙ ap (λ m. let k : CacheKey = record { id = b.id; seed = a.seed; mode = m } in k) (int_cmp-IsAntisymmetric a.mode b.mode front.1)
    ∙ ap (λ s. let k : CacheKey = record { id = b.id; seed = s; mode = b.mode } in k) (seeds_same a.seed b.seed parts.1)
