-- The order of the keys of caches, and the proof that this order is total.
use Rattle.std.specs.declared.cmp.Ordering.{Ordering}
use Rattle.std.specs.Ordering.{ordering_then, nat_cmp, int_cmp}
use Rattle.std.specs.Option.{option_cmp}
use Rattle.std.specs.Cmp.{IsTotalOrder, on_total, then_total, int_cmp_total}
use Rattle.std.specs.Cmp.Lexicographic.{slice_cmp, nat_list_cmp_total, options_total}
use Rattle.llb_loader.specs.Mounts.{Seed, CacheKey}

-- the order of seeds (`Seed`, the output that a new cache instance begins with): by digest text, then by index
abbrev pub seed_cmp : Seed → Seed → Ordering
seed_cmp a b = ordering_then (slice_cmp nat_cmp a.digest b.digest) (int_cmp a.index b.index)

-- the order of keys: by ID, then by mode, then by seed
abbrev pub key_cmp : CacheKey → CacheKey → Ordering
key_cmp a b = ordering_then (ordering_then (slice_cmp nat_cmp a.id b.id) (int_cmp a.mode b.mode)) (option_cmp seed_cmp a.seed b.seed)

pub seed_cmp-IsTotalOrder : IsTotalOrder seed_cmp
seed_cmp-IsTotalOrder = then_total (on_total (λ (s : Seed). s.digest) nat_list_cmp_total) (on_total (λ (s : Seed). s.index) int_cmp_total)

pub key_cmp-IsTotalOrder : IsTotalOrder key_cmp
key_cmp-IsTotalOrder =
    then_total (then_total (on_total (λ (k : CacheKey). k.id) nat_list_cmp_total) (on_total (λ (k : CacheKey). k.mode) int_cmp_total))
    (on_total (λ (k : CacheKey). k.seed) (options_total seed_cmp-IsTotalOrder))
