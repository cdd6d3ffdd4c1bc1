-- The instances of a lease, as a micro-step reads and writes them one after another, and workers whose leases are given back.
use Rattle.std.proofs.Common.{◌≡◌, ℕ, zero, suc, ◌+◌, ◌<◌, ◌≤◌, List, [], ◌∷◌, drop, map, length, Option, Some, None, unwrap_or, inl, inr}
use Rattle.std.proofs.Common.{refl, sym, ap, subst, ◌∙◌, add-one, arith}
use Rattle.std.specs.Prelude.{slice_get, slice_set, slice_index_or}
use Rattle.std.proofs.Math.Seq.{drop-cons}
use Rattle.llb_cache.specs.Caches as cache
use Rattle.llb_cache.specs.Caches.{CachesValue, Row, Leases, leases, tree_at, place_at, places_of}
use Rattle.llb_tree.specs.Tree.{TreeMap, empty_tree}
use Rattle.llb_model.specs.Caches.{Instance, tree_of}
use Rattle.llb_model.specs.State.{WorkerStatus, Idle}
use Rattle.llb_model.specs.TwoCacheModels.{store_of, AreLeased, put_each}
use Rattle.llb_model.proofs.TwoModelsContents.{shows_instances}
use Rattle.llb_model.proofs.TwoModelsLeases.{end_gives_back, end_without}
use Rattle.llb_board.specs.OptionalLeases.{IsOutIf, given_back}
use Rattle.llb_board.specs.WorkerModelValues.{at_of, leased_by}
use Rattle.llb_board.specs.declared.workers.running_workers.Seat.{Seat}
use Rattle.llb_board.specs.declared.workers.running_workers.Seat.TheVariants as seat
use Rattle.llb_board.specs.declared.workers.running_workers.Execution as own
use Rattle.llb_board.proofs.Lists.{map_set, get_map}
use Rattle.llb_board.proofs.LeaseCounts.{none_out}
use Rattle.llb_model.proofs.ConstructorEqualities.{lease_inside, some_apart}

-- ---- reads and writes

-- the tree of an instance, as the rows show it
pub tree_shown : (rows : List Row) (p : Instance) → tree_of (store_of rows) p ≡ unwrap_or (tree_at rows p) empty_tree
tree_shown rows p = ap (λ (o : Option TreeMap). unwrap_or o empty_tree) (shows_instances rows p)

put_first : (rows : List Row) (ps : List Instance) (n : ℕ) (p : Instance) (t : TreeMap) (ts : List TreeMap) → n < length ps
    → put_each rows (drop n ps) (t ∷ ts) ≡ put_each (cache.put rows (slice_index_or ps n p) t) (drop (n + 1) ps) ts
put_first rows ps n p t ts lt =
    ap (λ qs. put_each rows qs (t ∷ ts)) (drop-cons ps n p lt) ∙ ap (λ k. put_each (cache.put rows (slice_index_or ps n p) t) (drop k ps) ts) (sym (add-one n))

-- the first of the writes that are left to the instances of a lease
pub put_next : (rows : List Row) (out : Leases) (lease n : ℕ) (t : TreeMap) (ts : List TreeMap) → n < length (places_of out lease)
    → put_each rows (drop n (places_of out lease)) (t ∷ ts) ≡ put_each (cache.put rows (place_at out lease n) t) (drop (n + 1) (places_of out lease)) ts
put_next rows out lease n t ts lt = put_first rows (places_of out lease) n _ t ts lt

-- no writes are left
pub put_none : (rows : List Row) (ps : List Instance) → put_each rows ps [] ≡ rows
put_none rows [] = refl
put_none rows (p ∷ ps) = refl

-- ---- a worker that leaves

-- a worker that leaves releases its lease, if it had one, and the others keep theirs
pub leased_settled : (c : CachesValue) (ds : List Seat) (w : ℕ) (l : Option ℕ) → AreLeased c.out (map at_of ds) (map leased_by ds)
    → slice_get (map leased_by ds) w ≡ Some l
    → AreLeased (given_back c l).out (map at_of (slice_set ds w seat.Idle)) (map leased_by (slice_set ds w seat.Idle))
leased_settled c ds w l leased at =
    subst (λ (ws : List WorkerStatus). AreLeased (given_back c l).out ws (map leased_by (slice_set ds w seat.Idle))) (sym (map_set at_of ds w seat.Idle))
    (subst (AreLeased (given_back c l).out (slice_set (map at_of ds) w Idle)) (sym (map_set leased_by ds w seat.Idle)) (by_lease l at))
  where
    by_lease : (l : Option ℕ) → slice_get (map leased_by ds) w ≡ Some l
        → AreLeased (given_back c l).out (slice_set (map at_of ds) w Idle) (slice_set (map leased_by ds) w None)
    by_lease None at = end_without c.out (map at_of ds) (map leased_by ds) w leased at
    by_lease (Some n) at = end_gives_back c.out (map at_of ds) (map leased_by ds) w n leased at

-- the lease of a worker, if it has one, is out
pub lease_out : (out : Leases) (workers : List WorkerStatus) (ls : List (Option ℕ)) (w : ℕ) (l : Option ℕ) → AreLeased out workers ls
    → slice_get ls w ≡ Some l → IsOutIf out l
lease_out out workers ls w None leased at = tt
lease_out out workers ls w (Some l) leased at =
    let r = leased.runs w l at in
    elim (leased.has w r.0 r.1) [
      | inl h ↦ (r.0.places, ap (slice_get out) (lease_inside (sym at ∙ h.1)) ∙ h.2)
      | inr h ↦ absurd (some_apart l (sym h.0 ∙ at))
    ]

-- ---- workers that were sent away one after another

-- the seats once the first n workers are sent away: these are idle, and the others are as they were
abbrev pub idled : ℕ → List Seat → List Seat
idled zero ds = ds
idled (suc n) [] = []
idled (suc n) (d ∷ ds) = seat.Idle ∷ idled n ds

pub idled_next : (n : ℕ) (ds : List Seat) (d : Seat) → slice_get ds n ≡ Some d → slice_set (idled n ds) n seat.Idle ≡ idled (suc n) ds
idled_next n [] d at = absurd cc
idled_next zero (e ∷ ds) d at = refl
idled_next (suc n) (e ∷ ds) d at = ap (λ l. seat.Idle ∷ l) (idled_next n ds d at)

pub idled_at : (n : ℕ) (ds : List Seat) → slice_get (idled n ds) n ≡ slice_get ds n
idled_at zero ds = refl
idled_at (suc n) [] = refl
idled_at (suc n) (d ∷ ds) = idled_at n ds

pub idled_same : (n : ℕ) (ds : List Seat) → slice_get ds n ≡ Some seat.Idle → idled (suc n) ds ≡ idled n ds
idled_same n [] at = absurd cc
idled_same zero (d ∷ ds) at = let same : seat.Idle ≡ d = cc in ap (λ e. e ∷ ds) same
idled_same (suc n) (d ∷ ds) at = ap (λ l. seat.Idle ∷ l) (idled_same n ds at)

-- the leases of those that are not sent away yet
abbrev pub LeasedFrom : Leases → ℕ → List Seat → Type 0
LeasedFrom out n ds = AreLeased out (map at_of (idled n ds)) (map leased_by (idled n ds))

-- the next worker runs: it is sent away, and its lease is given back
pub leased_next : (c : CachesValue) (n : ℕ) (l : Option ℕ) (x : own.Execution) (ds : List Seat) → LeasedFrom c.out n ds → slice_get ds n ≡ Some (seat.Runs l x)
    → LeasedFrom (given_back c l).out (n + 1) ds
leased_next c n l x ds leased at =
    let there = get_map leased_by (idled n ds) n (seat.Runs l x) (idled_at n ds ∙ at) in
    let same : slice_set (idled n ds) n seat.Idle ≡ idled (n + 1) ds = idled_next n ds (seat.Runs l x) at ∙ ap (λ k. idled k ds) (sym (add-one n)) in
    subst (λ (es : List Seat). AreLeased (given_back c l).out (map at_of es) (map leased_by es)) same
    (leased_settled c (idled n ds) n l leased there)

-- the next worker is idle: there is nothing to give back
pub leased_idle : (out : Leases) (n : ℕ) (ds : List Seat) → LeasedFrom out n ds → slice_get ds n ≡ Some seat.Idle → LeasedFrom out (n + 1) ds
leased_idle out n ds leased at =
    subst (λ (es : List Seat). AreLeased out (map at_of es) (map leased_by es)) (sym (ap (λ k. idled k ds) (add-one n) ∙ idled_same n ds at)) leased

-- the lease of the next worker, if it has one, is out
pub out_next : (out : Leases) (n : ℕ) (l : Option ℕ) (x : own.Execution) (ds : List Seat) → LeasedFrom out n ds
    → slice_get ds n ≡ Some (seat.Runs l x) → IsOutIf out l
out_next out n l x ds leased at =
    lease_out out (map at_of (idled n ds)) (map leased_by (idled n ds)) n l leased (get_map leased_by (idled n ds) n (seat.Runs l x) (idled_at n ds ∙ at))

-- once all workers are sent away, none has a lease
all_idle : (n : ℕ) (ds : List Seat) → length ds ≤ n → (w l : ℕ) → slice_get (map leased_by (idled n ds)) w ≡ Some (Some l) → ⊥
all_idle n [] le w l at = go n at
  where
    go : (n : ℕ) → slice_get (map leased_by (idled n [])) w ≡ Some (Some l) → ⊥
    go zero at = cc
    go (suc n) at = cc
all_idle zero (d ∷ ds) le w l at = absurd (omega (arith, le))
all_idle (suc n) (d ∷ ds) le zero l at = cc
all_idle (suc n) (d ∷ ds) le (suc w) l at = all_idle n ds (omega (arith, le)) w l at

-- where every worker was sent away, no lease is out
pub none_left : (out : Leases) (n : ℕ) (ds : List Seat) → LeasedFrom out n ds → length ds ≤ n → leases out ≡ 0
none_left out n ds leased past = none_out out (map at_of (idled n ds)) (map leased_by (idled n ds)) leased (all_idle n ds past)
