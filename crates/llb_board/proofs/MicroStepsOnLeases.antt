-- A micro-step over leased instances.
use Rattle.std.proofs.Common.{◌≡◌, ◌≢◌, ℕ, zero, suc, ◌<◌, ◌≤◌, Bool, true, false, ◌||◌, List, [], ◌∷◌, length, map, get_or, Option, Some}
use Rattle.std.proofs.Common.{None, inl, inr, refl, sym, ap, subst, ◌∙◌, arith}
use Rattle.std.specs.Prelude.{Result, Ok, Err, OnOk, is_ok, is_some, nat_le, slice_get, slice_set, unwrap_or, AllPairs, if◌then◌else◌}
use Rattle.std.specs.List.{All}
use Rattle.std.proofs.lemmas.Bool.{leb-true, le-leb}
use Rattle.std.proofs.lemmas.List.Elements.{All-head, All-tail}
use Rattle.llb_wire.specs.CallResults.{MemoryLast}
use Rattle.llb_cache.specs.Caches.{Row, Leases, places_of, trees_of, AreApart, AreThere}
use Rattle.llb_tree.specs.Tree.{TreeMap}
use Rattle.llb_model.specs.Caches.{Instance, Store, Has, Distinct, content, trees_at}
use Rattle.llb_model.specs.Program.{Build, MicroStep, step_on}
use Rattle.llb_model.specs.State.{Execution, WorkerStatus, Runs, program_in, is_finished, next_step, places_at}
use Rattle.llb_model.specs.TwoCacheModels.{store_of, AreLeased, HasLease, put_each, written}
use Rattle.llb_model.specs.Table.{Reply, with_step, step_reply}
use Rattle.llb_model.proofs.TwoModelsClaims.{writes_alike}
use Rattle.llb_model.proofs.Lists.{get_set_same, length_map}
use Rattle.llb_model.proofs.TwoModelsLeases.{step_keeps_lease}
use Rattle.llb_model.proofs.ProgramPrefixes.{step_keeps}
use Rattle.llb_execution.specs.ModelValues.{work_with}
use Rattle.llb_board.specs.OptionalLeases.{leased_places}
use Rattle.llb_events.specs.Faults.{step_memory, GivesStep}
use Rattle.llb_board.specs.WorkerRules.{Written, worked_by, written_by, worked_in}
use Rattle.llb_board.specs.WorkerModelValues.{at_of, leased_by, execution_of}
use Rattle.llb_events.specs.declared.event.Stepped.{Stepped}
use Rattle.llb_events.specs.declared.refusal.StepFault.{StepFault}
use Rattle.llb_board.specs.declared.workers.running_workers.Seat.{Seat}
use Rattle.llb_board.specs.declared.workers.running_workers.Seat.TheVariants as seat
use Rattle.llb_board.specs.declared.workers.running_workers.Execution as own
use Rattle.llb_board.proofs.Lists.{get_map, map_set, set_same}
use Rattle.llb_board.proofs.GrantsAndRefusals.{granted_by}
use Rattle.llb_model.proofs.TwoModelsRowWrites.{written_each}
use Rattle.llb_model.proofs.TwoModelsOverwrites.{AreKeysApart}
use Rattle.llb_model.proofs.ConstructorEqualities.{inside_ok, lease_inside, some_apart}

-- ---- what is not finished has a micro-step

-- where the rule has no refusal, in any result `Memory` is last
pub last_of : {A B : Type 0} (r : Result A StepFault) (rule : Result B StepFault) → is_ok rule ≡ true → MemoryLast step_memory r rule
last_of (Ok x) rule ok = tt
last_of (Err e) rule ok = λ memory. ok

goes_by : (rows : List Row) (x : Execution) (trees : List TreeMap) (o : Option MicroStep) → is_some o ≡ true
    → is_ok (written_by rows x.places (worked_by x trees o)) ≡ true
goes_by rows x trees None some = absurd cc
goes_by rows x trees (Some m) some = refl

there_by : (steps : List MicroStep) (f : Bool) (k : ℕ) → (f || nat_le (length steps) k) ≡ false → is_some (slice_get steps k) ≡ true
there_by steps true k is = absurd cc
there_by [] false k is = absurd (let le : nat_le 0 k ≡ true = le-leb 0 k (omega arith) in cc)
there_by (m ∷ steps) false zero is = refl
there_by (m ∷ steps) false (suc k) is = there_by steps false k (less (length steps) k is)
  where
    less : (n k : ℕ) → nat_le (suc n) (suc k) ≡ false → nat_le n k ≡ false
    less n k is = by_test (nat_le n k) refl
      where
        by_test : (b : Bool) → nat_le n k ≡ b → b ≡ false
        by_test false at = refl
        by_test true at = let le : n ≤ k = leb-true n k at in absurd (let more : nat_le (suc n) (suc k) ≡ true =
            le-leb (suc n) (suc k) (omega (arith, le)) in cc)

-- what is not finished has a next micro-step, so that `Memory` is last
pub goes_on : (b : Build) (rows : List Row) (x : Execution) {A : Type 0} (r : Result A StepFault)
    → is_finished (program_in b x).steps x ≡ false → MemoryLast step_memory r (worked_in b rows x)
goes_on b rows x {A} r open_still =
    let steps = (program_in b x).steps in
    last_of r (worked_in b rows x)
    (ap (λ (f : Bool). is_ok
    (written_by rows x.places (worked_by x (trees_at (store_of rows) x.places) (if f then None else slice_get steps x.done)))) open_still
    ∙ goes_by rows x (trees_at (store_of rows) x.places) (slice_get steps x.done) (there_by steps (is_some x.fault) x.done open_still))

-- ---- the instances of a lease

-- the instances of a worker's lease are those of its execution, none where it has no lease
pub places_are : (out : Leases) (l : Option ℕ) (ps : List Instance) → HasLease out (Some l) ps → leased_places out l ≡ ps
places_are out None ps has = elim has [
  | inl h ↦ absurd (some_apart h.0 h.1)
  | inr h ↦ sym h.1
]
places_are out (Some l) ps has = elim has [
  | inl h ↦ ap (places_of out) (lease_inside h.1) ∙ ap (λ (o : Option (Option (List Instance))). unwrap_or (unwrap_or o None) []) h.2
  | inr h ↦ absurd (some_apart l (sym h.0))
]

-- there are as many trees read as there are places
pub trees_count : (s : Store) (ps : List Instance) (ts : List TreeMap) → ts ≡ trees_at s ps → length ts ≡ length ps
trees_count s ps ts is = ap length is ∙ length_map (λ (p : Instance). unwrap_or (content s p) _) ps

all_has : (P : Instance → Type 0) (ps : List Instance) → All P ps → (p : Instance) → Has ps p → P p
all_has P [] all p h = absurd h
all_has P (q ∷ ps) all p (inl h) = subst P (sym h) (All-head P q ps all)
all_has P (q ∷ ps) all p (inr h) = all_has P ps (All-tail P q ps all) p h

has_index : (ps : List Instance) (p : Instance) → Has ps p → (i : ℕ) × (i < length ps) × (get_or ps i p ≡ p)
has_index [] p h = absurd h
has_index (q ∷ ps) p (inl h) = (0, omega arith, sym h)
has_index (q ∷ ps) p (inr h) = let r = has_index ps p h in (suc r.0, omega (arith, r.1), r.2)

other_default : (ps : List Instance) (i : ℕ) (p q : Instance) → i < length ps → get_or ps i p ≡ get_or ps i q
other_default [] i p q low = absurd (omega (arith, low))
other_default (r ∷ ps) zero p q low = refl
other_default (r ∷ ps) (suc i) p q low = other_default ps i p q (omega (arith, low))

pub apart_distinct : (ps : List Instance) → AllPairs (λ p q. p.key ≢ q.key) ps → Distinct ps
apart_distinct [] apart = tt
apart_distinct (p ∷ ps) apart = (
  λ h. let r = has_index ps p h in apart 0 (suc r.0) p (omega arith) (omega (arith, r.1)) (ap (λ (q : Instance). q.key) (sym r.2)),
  apart_distinct ps (λ i j d less low. apart (suc i) (suc j) d (omega (arith, less)) (omega (arith, low))),
)

-- no two instances of a lease have one key
pub keys_apart : (ps : List Instance) → AllPairs (λ p q. p.key ≢ q.key) ps → AreKeysApart ps
keys_apart [] apart = tt
keys_apart (p ∷ ps) apart = (
  λ q h. let r = has_index ps q h in λ e. apart 0 (suc r.0) p (omega arith) (omega (arith, r.1)) (e
      ∙ ap (λ (s : Instance). s.key) (sym (other_default ps r.0 p q r.1 ∙ r.2))),
  keys_apart ps (λ i j d less low. apart (suc i) (suc j) d (omega (arith, less)) (omega (arith, low))),
)

-- no two instances of a running worker have one key
pub held_keys : (out : Leases) (l : Option (Option ℕ)) (ps : List Instance) → AreApart out → HasLease out l ps → AreKeysApart ps
held_keys out l ps apart has = elim has [
  | inl h ↦ keys_apart ps (apart h.0 ps h.2)
  | inr h ↦ subst AreKeysApart (sym h.1) tt
]

-- the lease of a running worker, and what holds of its instances
pub record Holding (rows : List Row) (out : Leases) (ds : List Seat) (w : ℕ) (l : Option ℕ) (x : own.Execution) : Type 0 where
  pub has : HasLease out (Some l) x.places.items
  pub distinct : Distinct x.places.items
  pub within : (p : Instance) → Has x.places.items p → p.number < length (trees_of rows p.key)

held_distinct : (out : Leases) (l : Option (Option ℕ)) (ps : List Instance) → AreApart out → HasLease out l ps → Distinct ps
held_distinct out l ps apart has = elim has [
  | inl h ↦ apart_distinct ps (apart h.0 ps h.2)
  | inr h ↦ subst Distinct (sym h.1) tt
]

-- the instances of a running worker are there
pub held_within : (rows : List Row) (out : Leases) (l : Option (Option ℕ)) (ps : List Instance) → AreThere rows out → HasLease out l ps
    → (p : Instance) → Has ps p → p.number < length (trees_of rows p.key)
held_within rows out l ps there has = elim has [
  | inl h ↦ all_has (λ p. p.number < length (trees_of rows p.key)) ps (there h.0 ps h.2)
  | inr h ↦ λ p held. absurd (subst (λ qs. Has qs p) h.1 held)
]

-- a running worker has its lease, and the instances of it differ and are there
pub holding : (rows : List Row) (out : Leases) (ds : List Seat) (w : ℕ) (l : Option ℕ) (x : own.Execution) → AreApart out
    → AreThere rows out → AreLeased out (map at_of ds) (map leased_by ds)
    → slice_get ds w ≡ Some (seat.Runs l x) → Holding rows out ds w l x
holding rows out ds w l x apart there leased at =
    let h = leased.has w (execution_of x) (get_map at_of ds w (seat.Runs l x) at) in
    let has : HasLease out (Some l) x.places.items = subst (λ (o : Option (Option ℕ)). HasLease out o x.places.items)
    (get_map leased_by ds w (seat.Runs l x) at) h in
    record {
      has = has;
      distinct = held_distinct out (Some l) x.places.items apart has;
      within = held_within rows out (Some l) x.places.items there has;
    }

-- ---- from the execution to the worker

granted_ok : (ds : List Seat) (w : ℕ) (rule : Result Written StepFault) → is_ok (granted_by ds w rule) ≡ is_ok rule
granted_ok ds w (Ok p) = refl
granted_ok ds w (Err e) = refl

-- what is written back is what the contents have there
written_back : (rows : List Row) (x z : Execution) (rows' : List Row) (r : Reply) (o : Option MicroStep) → Distinct x.places
    → ((p : Instance) → Has x.places p → p.number < length (trees_of rows p.key))
    → written_by rows x.places (worked_by x (trees_at (store_of rows) x.places) o) ≡ Ok (z, rows', r) → rows' ≡ written (store_of rows') rows z.places
written_back rows x z rows' r None distinct within is = absurd cc
written_back rows x z rows' r (Some m) distinct within is =
    let trees = trees_at (store_of rows) x.places in
    let left = step_on x.done (Some m) (work_with x.own trees) in
    let whole : ◌≡◌ {A = Written} (with_step x left, put_each rows x.places left.work.trees, step_reply x.done m x.own left) (z, rows', r) = inside_ok is in
    let count : length left.work.trees ≡ length x.places = step_keeps x.done (Some m) (work_with x.own trees)
    ∙ trees_count (store_of rows) x.places trees refl in
    sym (ap (λ (p : Written). p.1) whole)
    ∙ sym (written_each rows x.places left.work.trees distinct count within)
    ∙ ap (λ s. written s rows x.places) (sym (writes_alike rows x.places left.work.trees within))
    ∙ (λ i. written (store_of (whole i).1) rows (whole i).0.places)

-- after a micro-step the lists of instances have what the contents have there, at the worker's instances
pub rows_through : (b : Build) (rows rows' : List Row) (x z : Execution) (r : Result Stepped StepFault) (f : Stepped → Reply) → Distinct x.places
    → ((p : Instance) → Has x.places p → p.number < length (trees_of rows p.key))
    → GivesStep (λ s. (z, rows', f s)) r (worked_in b rows x) → OnOk r (rows' ≡ written (store_of rows') rows z.places)
rows_through b rows rows' x z (Ok s) f distinct within gives = written_back rows x z rows' (f s) (next_step (program_in b x).steps x) distinct within gives
rows_through b rows rows' x z (Err e) f distinct within gives = tt

-- what follows from a fact of a granted call is a fact of it too
pub ok_through : {A : Type 0} (P Q : Type 0) (r : Result A StepFault) → (P → Q) → OnOk r P → OnOk r Q
ok_through P Q (Ok x) f h = f h
ok_through P Q (Err e) f h = tt

-- the instances of a worker whose seat is set
pub places_set : (ds : List Seat) (w : ℕ) (old : Seat) (l : Option ℕ) (x : own.Execution) → slice_get ds w ≡ Some old
    → places_at (slice_get (map at_of (slice_set ds w (seat.Runs l x))) w) ≡ x.places.items
places_set ds w old l x at =
    ap (λ ws. places_at (slice_get ws w)) (map_set at_of ds w (seat.Runs l x))
    ∙ ap places_at (get_set_same (map at_of ds) w (Runs (execution_of x)) (at_of old) (get_map at_of ds w old at))

-- each worker has the same lease after a micro-step as before it
pub leased_stepped : (out out' : Leases) (ds : List Seat) (w : ℕ) (l : Option ℕ) (x y : own.Execution)
    → AreLeased out (map at_of ds) (map leased_by ds) → slice_get ds w ≡ Some (seat.Runs l x)
    → out' ≡ out → y.places ≡ x.places → AreLeased out' (map at_of (slice_set ds w (seat.Runs l y))) (map leased_by (slice_set ds w (seat.Runs l y)))
leased_stepped out out' ds w l x y leased at same places =
    let kept = step_keeps_lease out (map at_of ds) (map leased_by ds) w (execution_of x) (execution_of y) leased
    (get_map at_of ds w (seat.Runs l x) at) (λ i. (places i).items) in
    let ls : map leased_by (slice_set ds w (seat.Runs l y)) ≡ map leased_by ds
    = map_set leased_by ds w (seat.Runs l y) ∙ set_same (map leased_by ds) w l (get_map leased_by ds w (seat.Runs l x) at) in
    subst (λ (o : Leases). AreLeased o (map at_of (slice_set ds w (seat.Runs l y))) (map leased_by (slice_set ds w (seat.Runs l y)))) (sym same)
    (subst (λ (ws : List WorkerStatus). AreLeased out ws (map leased_by (slice_set ds w (seat.Runs l y)))) (sym (map_set at_of ds w (seat.Runs l y)))
    (subst (AreLeased out (slice_set (map at_of ds) w (Runs (execution_of y)))) (sym ls) kept))
