-- What an event displaced is put back: the workers, their supplies, their leases and the lists of instances.
use Rattle.std.proofs.Common.{◌≡◌, ℕ, zero, suc, ◌+◌, ◌-◌, ◌<◌, List, [], ◌∷◌, map, length, Option, Some, None, unwrap_or, inl, inr, refl, sym, ap, subst}
use Rattle.std.proofs.Common.{◌∙◌, arith}
use Rattle.std.specs.Prelude.{slice_get, slice_set}
use Rattle.std.specs.Option.{ForSome}
use Rattle.std.proofs.lemmas.Option.{slice_get_within}
use Rattle.llb_cache.specs.declared.lease_additions.Growth.{Growth}
use Rattle.llb_cache.specs.Caches.{CachesValue, Leases, AreThere, trees_of}
use Rattle.llb_cache.specs.LeaseAdditions.{LentValue, CanLend, unmade}
use Rattle.llb_tree.specs.Tree.{TreeMap}
use Rattle.llb_execution.specs.SavedWorkspaces.{Saved, put_back}
use Rattle.llb_execution.specs.ModelValues.{mounts_in}
use Rattle.llb_execution.proofs.RestoredWorkspaces.{shown_back}
use Rattle.llb_model.specs.Caches.{Instance}
use Rattle.llb_model.specs.TwoCacheModels.{AreLeased, put_each}
use Rattle.llb_model.specs.State.{WorkerStatus, Idle, Runs, Execution, places_at}
use Rattle.llb_model.proofs.Lists.{length_set, length_map}
use Rattle.llb_board.specs.OptionalLeases.{IsOutIf, given_back, taken_back, leased_places, lent_of, lent_if}
use Rattle.llb_board.specs.RunningWorkerSupplies.{ready_made, supplies_of}
use Rattle.llb_board.specs.WorkersKeptForUndo.{Back, Unclaim, Unstep, Resume, back_in, workers_before, supplies_before, rows_before, step_before, IsStepped}
use Rattle.llb_board.specs.WorkersKeptForUndo.{CanPutBack}
use Rattle.llb_board.specs.WorkerUndo.{seat_before, left_in}
use Rattle.llb_board.specs.WorkerModelValues.{at_of, leased_by, execution_of}
use Rattle.llb_board.specs.declared.workers.running_workers.Seat.{Seat}
use Rattle.llb_board.specs.declared.workers.running_workers.Seat.TheVariants as seat
use Rattle.llb_board.specs.declared.workers.running_workers.Execution as own
use Rattle.llb_board.specs.declared.workers.undoing.Back as undo
use Rattle.llb_board.specs.declared.workers.undoing.End.{End}
use Rattle.llb_board.proofs.GrantsAndRefusals.{LeasedNew}
use Rattle.llb_board.proofs.RunningWorkersAndLeases.{Crew, crew_set}
use Rattle.llb_board.proofs.SuppliesAtStartAndEnd.{leased_claimed}
use Rattle.llb_board.proofs.LeasableInstances.{lease_places, leased_there, can_lend}
use Rattle.llb_board.proofs.LeaseInstances.{leased_settled, lease_out}
use Rattle.llb_board.proofs.Lists.{map_set, get_map, set_same}
use Rattle.llb_board.proofs.MicroStepsOnLeases.{leased_stepped}
use Rattle.llb_model.proofs.TwoModelsUndo.{keys_apart}
use Rattle.llb_board.proofs.TableStepOfWorker.{seen_of}

-- ---- a micro-step

-- the seat of a worker, by what the worker does
pub seat_at : (ds : List Seat) (w : ℕ) (x : Execution) → slice_get (map at_of ds) w ≡ Some (Runs x)
    → (l : Option ℕ) × (y : own.Execution) × (slice_get ds w ≡ Some (seat.Runs l y)) × (execution_of y ≡ x)
seat_at [] w x at = absurd cc
seat_at (seat.Idle ∷ ds) zero x at = absurd cc
seat_at (seat.Runs l y ∷ ds) zero x at = (l, y, refl, runs_inside at)
  where
    runs_inside : {x y : Execution} → ◌≡◌ {A = Option WorkerStatus} (Some (Runs x)) (Some (Runs y)) → x ≡ y
    runs_inside e = cc
seat_at (d ∷ ds) (suc w) x at = seat_at ds w x at

-- a worker whose micro-step is taken back keeps its lease, and has the same supplies
pub record IsUnstepped (ds new : List Seat) (out : Leases) (w : ℕ) (saved : Saved) (ts : List TreeMap) : Type 0 where
  pub low : w < length ds
  pub workers : map at_of new ≡ workers_before (Unstep w saved ts) (map at_of ds)
  pub made : map ready_made new ≡ map ready_made ds
  pub leased : AreLeased out (map at_of new) (map leased_by new)

pub unstepped : (ds new : List Seat) (out : Leases) (w : ℕ) (saved : Saved) (ts : List TreeMap) → IsStepped (map at_of ds) w saved ts
    → AreLeased out (map at_of ds) (map leased_by ds) → new ≡ slice_set ds w (seat_before saved (slice_get ds w)) → IsUnstepped ds new out w saved ts
unstepped ds new out w saved ts behind leased is =
    let r = seat_at ds w behind.x behind.runs in
    let l = r.0 in
    let x = r.1 in
    let at = r.2 in
    let y : own.Execution = record x { done = x.done - 1; fault = None; view = put_back saved x.view } in
    let seats : new ≡ slice_set ds w (seat.Runs l y) = is ∙ ap (λ e. slice_set ds w (seat_before saved e)) at in
    let mounts : mounts_in (put_back saved x.view) ≡ mounts_in x.view
    = subst (λ (z : Execution). mounts_in (put_back saved z.own) ≡ mounts_in z.own) (sym r.3) behind.mounts in
    let supplies : supplies_of y ≡ supplies_of x = λ i. record (supplies_of x) { mounts = mounts i; shown = shown_back saved x.view i } in
    record {
      low = slice_get_within ds w (seat.Runs l x) at;
      workers = ap (map at_of) seats ∙ map_set at_of ds w (seat.Runs l y)
          ∙ ap (λ o. slice_set (map at_of ds) w (step_before saved o)) (sym (get_map at_of ds w (seat.Runs l x) at));
      made = ap (map ready_made) seats ∙ map_set ready_made ds w (seat.Runs l y) ∙ ap (slice_set (map ready_made ds) w) supplies
          ∙ set_same (map ready_made ds) w (supplies_of x) (get_map ready_made ds w (seat.Runs l x) at);
      leased = subst (λ (es : List Seat). AreLeased out (map at_of es) (map leased_by es)) (sym seats)
          (leased_stepped out out ds w l x y leased at refl refl);
    }

-- ---- seats and caches after what was displaced is put back

-- what an event displaced can be put back
abbrev pub Can : List Seat → CachesValue → Back → Type 0
Can ds c k = CanPutBack (record { back = k }) (seen_of ds c.rows)

pub can_by : (ds : List Seat) (c : CachesValue) (k j : undo.Back) → k ≡ j → Can ds c (back_in k) → Can ds c (back_in j)
can_by ds c k j is can = subst (λ (i : undo.Back). Can ds c (back_in i)) is can

-- the seats and caches after what an event displaced is put back
pub record PutsBack (ds : List Seat) (c : CachesValue) (k : Back) (new : List Seat) (d : CachesValue) : Type 0 where
  pub workers : map at_of new ≡ workers_before k (map at_of ds)
  pub made : map ready_made new ≡ supplies_before k (map ready_made ds)
  pub rows : d.rows ≡ rows_before k (map at_of ds) c.rows
  pub crew : Crew new d.out

module _ (ds : List Seat) (c : CachesValue) (crew : Crew ds c.out) where
  places : (w : ℕ) (l : Option ℕ) → slice_get (map leased_by ds) w ≡ Some l → leased_places c.out l ≡ places_at (slice_get (map at_of ds) w)
  places w l there = lease_places c.out (map at_of ds) (map leased_by ds) w l crew.leased there

  -- ---- of a claim

  -- the worker's lease, if it has one, is out
  pub is_out : (w : ℕ) (l : Option ℕ) → slice_get (map leased_by ds) w ≡ Some l → IsOutIf c.out l
  is_out w l there = lease_out c.out (map at_of ds) (map leased_by ds) w l crew.leased there

  module _ (w v : ℕ) (gs : List Growth) (can : Can ds c (Unclaim w v gs)) (l : Option ℕ) (there : slice_get (map leased_by ds) w ≡ Some l) where
    idled : AreLeased (given_back c l).out (map at_of (slice_set ds w seat.Idle)) (map leased_by (slice_set ds w seat.Idle))
    idled = leased_settled c ds w l crew.leased there

    unmade_rows : (taken_back c l gs).rows ≡ rows_before (Unclaim w v gs) (map at_of ds) c.rows
    unmade_rows = ap (λ (ps : List Instance). unmade c.rows ps gs) (places w l there)

    -- the other leases keep what they have
    pub still_there : AreThere (taken_back c l gs).rows (taken_back c l gs).out
    still_there =
        leased_there (map at_of (slice_set ds w seat.Idle)) (taken_back c l gs).rows (given_back c l).out (map leased_by (slice_set ds w seat.Idle))
        (λ u x p runs has. subst (λ rows. p.number < length (trees_of rows p.key)) (sym unmade_rows)
        (can.there u x p (ap (λ (ws : List WorkerStatus). slice_get ws u) (sym (map_set at_of ds w seat.Idle)) ∙ runs) has)) idled

    pub unclaims : (new : List Seat) (d : CachesValue) → new ≡ slice_set ds w seat.Idle → d ≡ taken_back c l gs → PutsBack ds c (Unclaim w v gs) new d
    unclaims new d seats caches =
        subst (λ (s : List Seat × CachesValue). PutsBack ds c (Unclaim w v gs) s.0 s.1) (λ i. (sym seats i, sym caches i)) (record {
          workers = map_set at_of ds w seat.Idle;
          made = map_set ready_made ds w seat.Idle;
          rows = unmade_rows;
          crew = crew_set ds w seat.Idle c.out (given_back c l).out crew idled;
        })

  -- ---- of a micro-step

  module _ (w : ℕ) (saved : Saved) (ts : List TreeMap) (can : Can ds c (Unstep w saved ts)) (l : Option ℕ)
      (there : slice_get (map leased_by ds) w ≡ Some l) where
    -- there is a tree for each instance of the worker's lease
    pub as_many : length ts ≡ length (leased_places c.out l)
    as_many = can.behind.count ∙ sym (ap length (places w l there ∙ ap places_at can.behind.runs))

    pub unsteps : (new : List Seat) (d : CachesValue) → new ≡ slice_set ds w (seat_before saved (slice_get ds w))
        → d.rows ≡ put_each c.rows (leased_places c.out l) ts → d.out ≡ c.out → PutsBack ds c (Unstep w saved ts) new d
    unsteps new d seats rows out =
        let is = unstepped ds new c.out w saved ts can.behind crew.leased seats in
        let count : length (map at_of new) ≡ length (map at_of ds)
        = ap (λ (es : List Seat). length (map at_of es)) seats ∙ length_map at_of (slice_set ds w (seat_before saved (slice_get ds w)))
        ∙ length_set ds w (seat_before saved (slice_get ds w)) ∙ sym (length_map at_of ds) in
        let some = crew.some in
        let few = crew.few in
        record {
          workers = is.workers;
          made = is.made;
          rows = rows ∙ ap (λ (ps : List Instance). put_each c.rows ps ts) (places w l there);
          crew = record {
            some = omega (arith, count, some);
            few = omega (arith, count, few);
            leased = subst (λ (o : Leases). AreLeased o (map at_of new) (map leased_by new)) (sym out) is.leased;
          };
        }

  -- ---- of a settle or a cancel

  module _ (e : End) (w : ℕ) (x : own.Execution) (lent : Option LentValue) (can : Can ds c (Resume e w (left_in x) lent)) where
    lent_is : (ps : List Instance) (room : ℕ) (k : LentValue) → lent_of ps room ≡ Some k → record { places = ps; room = room } ≡ k
    lent_is [] room k is = absurd cc
    lent_is (p ∷ ps) room k is = ap (λ o. unwrap_or o k) is

    -- the lease that was prepared, if there is one, can be taken
    pub lends : ForSome lent (CanLend c)
    lends k is =
        let workers = map at_of ds in
        subst (CanLend c) (lent_is x.places.items (length workers + 1) k (sym can.behind.ready ∙ is))
        (can_lend c.rows c.out workers (map leased_by ds) w (execution_of x) (length workers + 1) can.there can.once can.behind.idle crew.leased
        (keys_apart x.places.items can.behind.keys) crew.few (omega arith))

    -- after the prepared lease of these instances is taken, it is out under a new number, or there are no instances and no lease
    lent_new : (ps : List Instance) (room : ℕ) (l : Option ℕ) (d : CachesValue) → (l, d) ≡ lent_if c (lent_of ps room) → LeasedNew c.out l ps d.out
    lent_new [] room l d is = inr (ap (λ (p : Option ℕ × CachesValue). p.0) is, refl, ap (λ (p : Option ℕ × CachesValue). p.1.out) is)
    lent_new (p ∷ ps) room l d is = inl (ap (λ (p : Option ℕ × CachesValue). p.0) is, ap (λ (p : Option ℕ × CachesValue). p.1.out) is)

    -- taking the prepared lease changes no row
    lent_rows : (o : Option LentValue) (l : Option ℕ) (d : CachesValue) → (l, d) ≡ lent_if c o → d.rows ≡ c.rows
    lent_rows None l d is = ap (λ (p : Option ℕ × CachesValue). p.1.rows) is
    lent_rows (Some k) l d is = ap (λ (p : Option ℕ × CachesValue). p.1.rows) is

    pub resumes : (l : Option ℕ) (new : List Seat) (d : CachesValue) → (l, d) ≡ lent_if c lent → new ≡ slice_set ds w (seat.Runs l x)
        → PutsBack ds c (Resume e w (left_in x) lent) new d
    resumes l new d lends seats =
        let out = lent_new x.places.items (length (map at_of ds) + 1) l d (lends ∙ ap (lent_if c) can.behind.ready) in
        subst (λ (es : List Seat). PutsBack ds c (Resume e w (left_in x) lent) es d) (sym seats) (record {
          workers = map_set at_of ds w (seat.Runs l x);
          made = map_set ready_made ds w (seat.Runs l x);
          rows = lent_rows lent l d lends;
          crew = crew_set ds w (seat.Runs l x) c.out d.out crew
              (leased_claimed c.out ds w l x x.places.items d.out crew.leased can.behind.idle refl out);
        })
