-- What is prepared for a new lease, with all the memory that the lease needs, before the caches change.
use Rattle.std.specs.Prelude.{◌≡◌, ℕ, ◌<◌, Bool, false, List, [], ◌∷◌, length, slice_index_or, Option, Some, None}
use Rattle.llb_cache.specs.declared.lease_needs.Need.{Need}
use Rattle.llb_cache.specs.declared.lease_needs.Instance.{Instance}
use Rattle.llb_cache.specs.declared.taken_instances.Ready.{Ready}
use Rattle.llb_cache.specs.declared.fault.LeaseFault.{LeaseFault}
use Rattle.llb_cache.specs.declared.fault.LeaseFault.TheVariants.{Held}
use Rattle.llb_cache.specs.Caches.{Taken}

-- the instance that is prepared for a need, and the tree with which the instance is made if it does not exist
abbrev pub shown : Ready → Taken
shown r = (r.place, r.tree)

-- the prepared lists are long enough for the instance's tree and for its mark, and no mark is set in the list of marks
pub record FitsIn (r : Ready) : Type 0 where
  pub tree : r.place.number < r.room
  pub mark : r.place.number < length r.marks
  pub clear : (k : ℕ) → slice_index_or r.marks k false ≡ false

-- there is a refused need (`Some`), and the fault e is `Held` with the key of this need
abbrev pub IsRefusal : Option Need → LeaseFault → Type 0
IsRefusal None e = ⊥
IsRefusal (Some n) e = e ≡ Held n.key

-- the prepared list of marks is long enough for an instance's mark, and no mark is set in the list
pub record HasRoomFor (p : Instance) (marks : List Bool) : Type 0 where
  pub mark : p.number < length marks
  pub clear : (k : ℕ) → slice_index_or marks k false ≡ false

-- each instance, in order, has its own list of marks, made in advance: long enough for the instance's mark, and with no mark set (`HasRoomFor`)
abbrev pub FitEach : List Instance → List (List Bool) → Type 0
FitEach [] [] = Unit {0}
FitEach [] (m ∷ rooms) = ⊥
FitEach (p ∷ ps) [] = ⊥
FitEach (p ∷ ps) (m ∷ rooms) = HasRoomFor p m × FitEach ps rooms
