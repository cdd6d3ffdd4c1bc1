-- A store (a tree for each instance of a cache) as a plain value of pairs, numbers and lists, so that contracts can compare values that contain stores.
use Rattle.std.specs.Prelude.{◌≡◌, ℕ, zero, suc, List, Option, Some, None, refl}
use Rattle.std.specs.FinMap as finite
use Rattle.std.specs.Coded.{Coded, code_by, coded×, coded_ℕ, coded_list, coded_option}
use Rattle.llb_cache.specs.declared.key.Seed.{Seed}
use Rattle.llb_cache.specs.declared.key.Mode.{Mode}
use Rattle.llb_cache.specs.declared.key.Mode.TheVariants.{Shared, Private, Locked}
use Rattle.llb_cache.specs.KeyOrder.{mode_place}
use Rattle.llb_tree.specs.CodedTrees.{coded_tree}
use Rattle.llb_model.specs.Caches.{Instance, Store}

-- the mode with this number (by `mode_place` of llb_cache): 0 is Shared, 1 is Private, any other number is Locked
abbrev pub mode_at : ℕ → Mode
mode_at zero = Shared
mode_at (suc zero) = Private
mode_at (suc (suc n)) = Locked

-- an instance in plain form: its number and mode, the ID of its key, and the seed of its key
abbrev pub Packed : Type 0
Packed = (ℕ × ℕ) × (List ℕ × Option (List ℕ × ℕ))

-- the seed of a key as a pair: a digest and an index
abbrev pub packed_seed : Option Seed → Option (List ℕ × ℕ)
packed_seed None = None
packed_seed (Some s) = Some (s.digest, s.index)

-- the seed of a key, made back from the pair of its digest and its index; nothing for nothing
abbrev pub unpacked_seed : Option (List ℕ × ℕ) → Option Seed
unpacked_seed None = None
unpacked_seed (Some p) = Some (record { digest = p.0; index = p.1 })

-- an instance as pairs
abbrev pub packed : Instance → Packed
packed p = ((p.number, mode_place p.key.mode), (p.key.id, packed_seed p.key.seed))

-- the instance that these pairs represent: the reverse of `packed`
abbrev pub unpacked : Packed → Instance
unpacked p = record { number = p.0.0; key = record { id = p.1.0; seed = unpacked_seed p.1.1; mode = mode_at p.0.1 } }

pub mode_back : (m : Mode) → mode_at (mode_place m) ≡ m
mode_back Shared = refl
mode_back Private = refl
mode_back Locked = refl

pub seed_back : (o : Option Seed) → unpacked_seed (packed_seed o) ≡ o
seed_back None = refl
seed_back (Some s) = refl

pub unpacked-packed : (p : Instance) → unpacked (packed p) ≡ p
unpacked-packed p = λ i. record { number = p.number; key = record { id = p.key.id; seed = seed_back p.key.seed i; mode = mode_back p.key.mode i } }

-- instances can be turned into pairs and back
abbrev pub coded_place : Coded Instance
coded_place = code_by Packed
    (coded× (coded× coded_ℕ coded_ℕ) (coded× (coded_list coded_ℕ) (coded_option (coded× (coded_list coded_ℕ) coded_ℕ)))) packed unpacked unpacked-packed

-- stores can be turned into plain values (made of pairs, numbers and lists) and back
abbrev pub coded_store : Coded Store
coded_store = finite.code coded_place coded_tree
