-- Leases that may be absent: a vertex without caches has no lease.
use Rattle.std.specs.Prelude.{ℕ, List, [], ◌∷◌, Option, Some, None, slice_set, Result, Ok, Err}
use Rattle.llb_cache.specs.Caches as cache
use Rattle.llb_cache.specs.Caches.{Leases}
use Rattle.llb_cache.specs.declared.lease_additions.Growth.{Growth}
use Rattle.llb_cache.specs.LeaseAdditions.{LentValue, unmade, lent_again}
use Rattle.llb_cache.specs.declared.lease_needs.Instance.{Instance}
use Rattle.llb_cache.specs.declared.lease_needs.Need as cache_need
use Rattle.llb_cache.specs.declared.fault.LeaseFault.{LeaseFault}

-- the instances of a lease; none if there is no lease
abbrev pub leased_places : Leases → Option ℕ → List Instance
leased_places out (Some l) = cache.places_of out l
leased_places out None = []

-- if there is a lease, it is current
abbrev pub IsOutIf : Leases → Option ℕ → Type 0
IsOutIf out (Some l) = cache.IsOut out l
IsOutIf out None = Unit {0}

-- the current leases after lease l is given back; the same leases if there is no l
abbrev pub out_without : Leases → Option ℕ → Leases
out_without out (Some l) = cache.trimmed (slice_set out l None)
out_without out None = out

-- the caches after lease l is given back; the same caches if there is no l
abbrev pub given_back : cache.CachesValue → Option ℕ → cache.CachesValue
given_back c l = record c { out = out_without c.out l }

-- the caches after lease l is given back and what l added to the caches is removed; the same caches if there is no l
abbrev pub taken_back : cache.CachesValue → Option ℕ → List Growth → cache.CachesValue
taken_back c l gs = record (given_back c l) { rows = unmade c.rows (leased_places c.out l) gs }

-- a prepared lease of these instances (granting it later needs no memory); none if there are no instances
abbrev pub lent_of : List Instance → ℕ → Option LentValue
lent_of [] room = None
lent_of (p ∷ ps) room = Some (record { places = p ∷ ps; room = room })

-- the number of the lease when a prepared lease is granted, and the caches after the grant; if no lease was prepared, no number and the same caches
abbrev pub lent_if : cache.CachesValue → Option LentValue → Option ℕ × cache.CachesValue
lent_if c None = (None, c)
lent_if c (Some l) = (Some (cache.free_lease c.out), lent_again c l.places)

-- the result of making a lease, with the number of the lease in a `Some`
abbrev pub some_lease : Result (ℕ × cache.CachesValue) LeaseFault → Result (Option ℕ × cache.CachesValue) LeaseFault
some_lease (Ok (l, c)) = Ok (Some l, c)
some_lease (Err e) = Err e

-- the result of making a lease for these needs; no lease if there are no needs
abbrev pub lease_if : cache.CachesValue → List cache_need.Need → Result (Option ℕ × cache.CachesValue) LeaseFault
lease_if c [] = Ok (None, c)
lease_if c (n ∷ needs) = some_lease (cache.lease_of c (n ∷ needs))
