-- A landing: what a worker has after the micro-steps of an outcome.
use Rattle.std.proofs.Common.{◌≡◌, ℕ, ◌+◌, ◌<◌, ◌^◌, List, map, length, Option, Some, None, refl, sym, ap, subst, ◌∙◌, arith}
use Rattle.std.specs.Prelude.{Bool, true, false, IsTrue, ◌↔◌, option_map, slice_get, slice_set}
use Rattle.std.specs.Bool.{OnTrue, OnFalse}
use Rattle.std.proofs.lemmas.Option.{slice_get-map, slice_get_within}
use Rattle.llb_cache.specs.Caches.{Row, Leases}
use Rattle.llb_loader.specs.Graph.{IsGraph}
use Rattle.llb_model.specs.Caches.{Instance, trees_at}
use Rattle.llb_model.specs.TwoCacheModels.{store_of, HasLease, put_each}
use Rattle.llb_model.specs.Program.{Build, Left, key_of}
use Rattle.llb_model.specs.State.{WorkerStatus, Idle, Runs, Execution, program_in, places_at}
use Rattle.llb_model.specs.Table.{Job}
use Rattle.llb_model.proofs.Landing.{further_keeps}
use Rattle.llb_model.proofs.Lists.{inside, length_map}
use Rattle.llb_board.specs.OptionalLeases.{leased_places}
use Rattle.llb_execution.specs.Jobs.{OutcomeValue, IsOutcome, begun_on}
use Rattle.llb_board.specs.Jobs.{IsRunOf, job_now, seat_left}
use Rattle.llb_board.specs.RunningWorkerSupplies.{Supplies, supplies_of, needs_at}
use Rattle.llb_board.specs.Vertices.{VerticesValue}
use Rattle.llb_board.specs.WorkerModelValues.{at_of, leased_by, execution_of}
use Rattle.llb_board.specs.Workers.{WorkersValue, Fits, RunsJob, steps_left}
use Rattle.llb_board.specs.declared.workers.running_workers.Seat.{Seat}
use Rattle.llb_board.specs.declared.workers.running_workers.Seat.TheVariants as seat
use Rattle.llb_board.specs.declared.workers.running_workers.Execution as own
use Rattle.llb_board.proofs.RunningWorkersAndLeases.{Crew, crew_set}
use Rattle.llb_board.proofs.SuppliesAtStartAndEnd.{made_enough, supplies_claimed}
use Rattle.llb_board.proofs.Lists.{map_set, get_map}
use Rattle.llb_board.proofs.CachesOfViews.{few_needs}
use Rattle.llb_board.proofs.MicroStepsOnLeases.{places_are, leased_stepped, trees_count}
use Rattle.llb_board.proofs.TableStepOfWorker.{seen_of}
use Rattle.llb_model.proofs.ConstructorEqualities.{runs_inside}

-- the seat of a worker that runs a job
pub record HasSeat (b : Build) (ds : List Seat) (rows : List Row) (w : ℕ) (job : Job) : Type 0 where
  pub l : Option ℕ
  pub own : own.Execution
  pub at : slice_get ds w ≡ Some (seat.Runs l own)
  pub run : IsRunOf b (store_of rows) w (execution_of own) job

pub has_seat : (vs : VerticesValue) (ds : List Seat) (rows : List Row) (ws : WorkersValue) (w : ℕ) (job : Job) → seen_of ds rows ≡ ws
    → RunsJob vs ws w job → HasSeat vs.build ds rows w job
has_seat vs ds rows ws w job is runs =
    by_seat (slice_get ds w) refl (sym (slice_get-map at_of ds w) ∙ can.runs)
  where
    can : RunsJob vs (seen_of ds rows) w job
    can = subst (λ (v : WorkersValue). RunsJob vs v w job) (sym is) runs

    inside_at : {x y : Execution} → ◌≡◌ {A = Option WorkerStatus} (Some (Runs x)) (Some (Runs y)) → x ≡ y
    inside_at e = cc

    by_seat : (k : Option Seat) → slice_get ds w ≡ k → option_map at_of k ≡ Some (Runs can.x) → HasSeat vs.build ds rows w job
    by_seat None at is = absurd cc
    by_seat (Some seat.Idle) at is = absurd cc
    by_seat (Some (seat.Runs l own)) at is = record {
      l = l;
      own = own;
      at = at;
      run = subst (λ (x : Execution). IsRunOf vs.build (store_of rows) w x job) (sym (inside_at is)) can.own;
    }

-- ---- whether a job is what a worker has left to do

not_true : IsTrue false → ⊥
not_true e = cc

-- a worker that runs: a test of its execution tells
module _ (vs : VerticesValue) (ws : WorkersValue) (w : ℕ) (x : Execution) (job : Job) (runs : slice_get ws.workers w ≡ Some (Runs x)) where
  pub run_yes : (r : Bool) → IsTrue r ↔ IsRunOf vs.build (store_of ws.rows) w x job → OnTrue r (RunsJob vs ws w job)
  run_yes true tells = record { x = x; runs = runs; own = tells.0 refl }
  run_yes false tells = tt

  pub run_no : (r : Bool) → IsTrue r ↔ IsRunOf vs.build (store_of ws.rows) w x job → OnFalse r (RunsJob vs ws w job → ⊥)
  run_no true tells = tt
  run_no false tells =
      λ q. not_true (tells.1 (subst (λ (y : Execution). IsRunOf vs.build (store_of ws.rows) w y job) (runs_inside (sym q.runs ∙ runs)) q.own))

-- ---- the worker after the micro-steps

own_inside : {l k : Option ℕ} {x y : own.Execution} → ◌≡◌ {A = Option Seat} (Some (seat.Runs l x)) (Some (seat.Runs k y)) → x ≡ y
own_inside e = cc

module _ (b : Build) (ds : List Seat) (rows : List Row) (out : Leases) (w : ℕ) (o : OutcomeValue) (mine : HasSeat b ds rows w o.job)
    (is : IsOutcome o.job o.count o.left) (crew : Crew ds out) where
  abbrev after : own.Execution
  after = record mine.own { done = mine.own.done + o.count; fault = o.left.fault; view = o.left.work.own }

  now : IsOutcome (job_now b (store_of rows) w (execution_of mine.own)) o.count o.left
  now = subst (λ (j : Job). IsOutcome j o.count o.left) mine.run.same is

  -- the worker has a seat
  pub low_seat : w < length ds
  low_seat = slice_get_within ds w (seat.Runs mine.l mine.own) mine.at

  -- the micro-steps that are done and those that are left can be counted together
  pub few_steps : (l : Option ℕ) (x : own.Execution) → slice_get ds w ≡ Some (seat.Runs l x) → x.done + o.count < 2 ^ 32
  few_steps l x at = subst (λ (y : own.Execution). y.done + o.count < 2 ^ 32) (own_inside (sym mine.at ∙ at)) now.few

  as_many : length o.left.work.trees ≡ length mine.own.places.items
  as_many =
      ap (λ (f : Left). length f.work.trees) now.leaves
      ∙ further_keeps (program_in b (execution_of mine.own)).steps mine.own.done (begun_on (job_now b (store_of rows) w (execution_of mine.own))) o.count
      ∙ trees_count (store_of rows) mine.own.places.items (trees_at (store_of rows) mine.own.places.items) refl

  has : HasLease out (Some mine.l) mine.own.places.items
  has =
      subst (λ (k : Option (Option ℕ)). HasLease out k mine.own.places.items) (get_map leased_by ds w (seat.Runs mine.l mine.own) mine.at)
      (crew.leased.has w (execution_of mine.own) (get_map at_of ds w (seat.Runs mine.l mine.own) mine.at))

  lease_is : (k : Option ℕ) → slice_get (map leased_by ds) w ≡ Some k → leased_places out k ≡ mine.own.places.items
  lease_is k leased =
      ap (leased_places out) (inside (sym leased ∙ get_map leased_by ds w (seat.Runs mine.l mine.own) mine.at))
      ∙ places_are out mine.l mine.own.places.items has

  -- as many trees come back as the worker's lease has instances
  pub leased_count : (k : Option ℕ) → slice_get (map leased_by ds) w ≡ Some k → length o.left.work.trees ≡ length (leased_places out k)
  leased_count k leased = as_many ∙ ap length (sym (lease_is k leased))

  pub few_trees : IsGraph b.graph → Fits b (seen_of ds rows) → length o.left.work.trees < 2 ^ 32
  few_trees graph fits =
      let many : length mine.own.places.items ≡ length (needs_at (slice_get b.graph.vertices mine.own.vertex))
      = sym (length_map (λ (p : Instance). p.key) mine.own.places.items)
      ∙ ap (λ (s : Supplies). length s.keys) (made_enough b ds w mine.l mine.own fits mine.at)
      ∙ length_map key_of (needs_at (slice_get b.graph.vertices mine.own.vertex)) in
      let count = as_many in
      omega (arith, many, count, few_needs b.graph mine.own.vertex graph)

  seats_are : (new : List Seat) → new ≡ slice_set ds w (seat_left o.count o.left.fault o.left.work.own (slice_get ds w))
      → new ≡ slice_set ds w (seat.Runs mine.l after)
  seats_are new is = is ∙ ap (λ e. slice_set ds w (seat_left o.count o.left.fault o.left.work.own e)) mine.at

  pub land_crew : (new : List Seat) → new ≡ slice_set ds w (seat_left o.count o.left.fault o.left.work.own (slice_get ds w)) → Crew new out
  land_crew new is =
      subst (λ (es : List Seat). Crew es out) (sym (seats_are new is))
      (crew_set ds w (seat.Runs mine.l after) out out crew (leased_stepped out out ds w mine.l mine.own after crew.leased mine.at refl refl))

  pub land_workers : (new : List Seat) → new ≡ slice_set ds w (seat_left o.count o.left.fault o.left.work.own (slice_get ds w))
      → map at_of new ≡ slice_set (map at_of ds) w (steps_left o (slice_get (map at_of ds) w))
  land_workers new is =
      ap (map at_of) (seats_are new is) ∙ map_set at_of ds w (seat.Runs mine.l after)
      ∙ ap (λ e. slice_set (map at_of ds) w (steps_left o e)) (sym (get_map at_of ds w (seat.Runs mine.l mine.own) mine.at))

  pub land_rows : (k : Option ℕ) (new : List Row) → slice_get (map leased_by ds) w ≡ Some k
      → new ≡ put_each rows (leased_places out k) o.left.work.trees
      → new ≡ put_each rows (places_at (slice_get (map at_of ds) w)) o.left.work.trees
  land_rows k new leased is =
      is ∙ ap (λ ps. put_each rows ps o.left.work.trees)
      (lease_is k leased ∙ ap places_at (sym (get_map at_of ds w (seat.Runs mine.l mine.own) mine.at)))

  pub land_fits : (new : List Seat) (later : List Row) → new ≡ slice_set ds w (seat_left o.count o.left.fault o.left.work.own (slice_get ds w))
      → Fits b (seen_of ds rows) → Fits b (seen_of new later)
  land_fits new later is fits =
      subst (λ (es : List Seat). Fits b (seen_of es later)) (sym (seats_are new is))
      (supplies_claimed b ds w mine.l after fits
      ((λ i. record (supplies_of mine.own) { mounts = now.mounts i; shown = now.shown i }) ∙ made_enough b ds w mine.l mine.own fits mine.at))
