-- The table's step, by the micro-step of one worker.
use Rattle.std.proofs.Common.{◌≡◌, ℕ, ◌<◌, List, map, length, Option, Some, None, refl, sym, ap, subst, ◌∙◌}
use Rattle.std.specs.Prelude.{Result, Ok, Err, OnOk, is_ok, slice_get, slice_set}
use Rattle.llb_wire.specs.CallResults.{MemoryLast}
use Rattle.llb_cache.specs.Caches.{Row, Leases, trees_of, AreApart, AreThere}
use Rattle.llb_model.specs.Table.{HasStepped}
use Rattle.llb_model.specs.Caches.{Instance, Has, trees_at}
use Rattle.llb_model.specs.TwoCacheModels.{store_of, put_each, written, rows_after}
use Rattle.llb_model.specs.Program.{Build, MicroStep, step_on}
use Rattle.llb_model.specs.State.{Status, Execution, WorkerStatus, Runs, State, program_in, next_step}
use Rattle.llb_model.specs.Table.{Reply, step_grant, stepped, step_with, with_step, step_reply}
use Rattle.llb_model.proofs.TwoModelsClaims.{writes_alike}
use Rattle.llb_execution.specs.ModelValues.{work_with}
use Rattle.llb_events.specs.declared.event.Stepped.{Stepped}
use Rattle.llb_events.specs.declared.refusal.StepFault.{StepFault}
use Rattle.llb_board.specs.RunningWorkerSupplies.{ready_made, supplies_of, supplies_for}
use Rattle.llb_events.specs.Faults.{step_memory, GivesStep}
use Rattle.llb_board.specs.WorkerRules.{Written, worked_by, written_by, worked_in}
use Rattle.llb_board.specs.Vertices.{VerticesValue}
use Rattle.llb_board.specs.WorkerModelValues.{at_of, execution_of}
use Rattle.llb_board.specs.Workers.{WorkersValue, Fits, state_in, step_in}
use Rattle.llb_board.specs.declared.workers.running_workers.Seat.{Seat}
use Rattle.llb_board.specs.declared.workers.running_workers.Seat.TheVariants as seat
use Rattle.llb_board.specs.declared.workers.running_workers.Execution as own
use Rattle.llb_board.proofs.RunningWorkersAndLeases.{Crew, crew_set}
use Rattle.llb_board.proofs.SuppliesAtStartAndEnd.{made_enough, supplies_claimed}
use Rattle.llb_board.proofs.Lists.{get_map, map_set}
use Rattle.llb_board.proofs.MicroStepsOnLeases.{holding, ok_through, rows_through, places_set, leased_stepped}
use Rattle.llb_model.proofs.ConstructorEqualities.{inside_ok}

-- what contracts see of seats and caches
abbrev pub seen_of : List Seat → List Row → WorkersValue
seen_of ds rows = record { workers = map at_of ds; rows = rows; supplies = map ready_made ds }

-- a micro-step over the lists of instances, as the table's step
abbrev pub granted_in : List Status → List WorkerStatus → ℕ → Result Written StepFault → Result (State × Reply) StepFault
granted_in S ws w (Ok p) = Ok (record { statuses = S; workers = slice_set ws w (Runs p.0); store = store_of p.1 }, p.2)
granted_in S ws w (Err e) = Err e

-- the table's step is a micro-step over the lists of instances, where those of the worker are there
pub stepped_in : (b : Build) (S : List Status) (ws : List WorkerStatus) (rows : List Row) (w : ℕ) (x : Execution)
    → slice_get ws w ≡ Some (Runs x) → ((p : Instance) → Has x.places p → p.number < length (trees_of rows p.key))
    → (step_grant b (record { statuses = S; workers = ws; store = store_of rows }) w) ≡ granted_in S ws w (worked_in b rows x)
stepped_in b S ws rows w x there within =
    ap (λ o. (stepped b (record { statuses = S; workers = ws; store = store_of rows }) w o)) there
    ∙ by_next (next_step (program_in b x).steps x)
  where
    by_next : (o : Option MicroStep)
        → (step_with (record { statuses = S; workers = ws; store = store_of rows }) w x o)
        ≡ granted_in S ws w (written_by rows x.places (worked_by x (trees_at (store_of rows) x.places) o))
    by_next None = refl
    by_next (Some m) =
        let left = step_on x.done (Some m) (work_with x.own (trees_at (store_of rows) x.places)) in
        λ i. Ok (
          record {
            statuses = S;
            workers = slice_set ws w (Runs (with_step x left));
            store = sym (writes_alike rows x.places left.work.trees within) i;
          },
          step_reply x.done m x.own left,
        )

gives_by : (S : List Status) (ws : List WorkerStatus) (w : ℕ) (r : Result Stepped StepFault) (f : Stepped → Written) (rule : Result Written StepFault)
    (whole : Result (State × Reply) StepFault) → whole ≡ granted_in S ws w rule → GivesStep f r rule
    → GivesStep (λ s. (record { statuses = S; workers = slice_set ws w (Runs (f s).0); store = store_of (f s).1 }, (f s).2)) r whole
gives_by S ws w (Ok s) f rule whole is gives = is ∙ ap (granted_in S ws w) gives
gives_by S ws w (Err e) f rule whole is gives = λ memory. is ∙ ap (granted_in S ws w) (gives memory)

granted_ok : (S : List Status) (ws : List WorkerStatus) (w : ℕ) (rule : Result Written StepFault) → is_ok (granted_in S ws w rule) ≡ is_ok rule
granted_ok S ws w (Ok p) = refl
granted_ok S ws w (Err e) = refl

last_by : (S : List Status) (ws : List WorkerStatus) (w : ℕ) (r : Result Stepped StepFault) (rule : Result Written StepFault)
    (whole : Result (State × Reply) StepFault)
    → whole ≡ granted_in S ws w rule → MemoryLast step_memory r rule → MemoryLast step_memory r whole
last_by S ws w (Ok s) rule whole is last = tt
last_by S ws w (Err e) rule whole is last = λ memory. ap is_ok is ∙ granted_ok S ws w rule ∙ last memory

-- a worker that runs, with its lease: what it does on its instances is the table's step
module _ (vs : VerticesValue) (ds : List Seat) (rows : List Row) (out : Leases) (w : ℕ) (l : Option ℕ) (x : own.Execution)
    (crew : Crew ds out) (apart : AreApart out) (there : AreThere rows out) (at : slice_get ds w ≡ Some (seat.Runs l x)) where
  runs : slice_get (map at_of ds) w ≡ Some (Runs (execution_of x))
  runs = get_map at_of ds w (seat.Runs l x) at

  within : (p : Instance) → Has x.places.items p → p.number < length (trees_of rows p.key)
  within = (holding rows out ds w l x apart there crew.leased at).within

  whole : step_in vs (seen_of ds rows) w ≡ granted_in vs.statuses (map at_of ds) w (worked_in vs.build rows (execution_of x))
  whole = stepped_in vs.build vs.statuses (map at_of ds) rows w (execution_of x) runs within

  -- a step whose result is execution y and the rows `after`: the worker's seat has y, and the rows are these
  pub step_gives : (r : Result Stepped StepFault) (y : own.Execution) (after : List Row)
      → GivesStep (λ s. (execution_of y, after, HasStepped s)) r (worked_in vs.build rows (execution_of x))
      → GivesStep (λ s. (state_in vs (seen_of (slice_set ds w (seat.Runs l y)) after), HasStepped s)) r (step_in vs (seen_of ds rows) w)
  step_gives r y after gives =
      subst (λ (ws : List WorkerStatus). GivesStep (λ s. (record { statuses = vs.statuses; workers = ws; store = store_of after }, HasStepped s)) r
      (step_in vs (seen_of ds rows) w))
      (sym (map_set at_of ds w (seat.Runs l y)))
      (gives_by vs.statuses (map at_of ds) w r (λ s. (execution_of y, after, HasStepped s)) (worked_in vs.build rows (execution_of x))
      (step_in vs (seen_of ds rows) w) whole gives)

  pub step_last : (r : Result Stepped StepFault) → MemoryLast step_memory r (worked_in vs.build rows (execution_of x))
      → MemoryLast step_memory r (step_in vs (seen_of ds rows) w)
  step_last r last =
      last_by vs.statuses (map at_of ds) w r (worked_in vs.build rows (execution_of x)) (step_in vs (seen_of ds rows) w) whole last

  pub step_rows : (r : Result Stepped StepFault) (y : own.Execution) (after : List Row)
      → GivesStep (λ s. (execution_of y, after, HasStepped s)) r (worked_in vs.build rows (execution_of x))
      → OnOk r (after ≡ rows_after rows (state_in vs (seen_of (slice_set ds w (seat.Runs l y)) after)) w)
  step_rows r y after gives =
      ok_through _ _ r
      (λ (is : after ≡ written (store_of after) rows y.places.items). is
      ∙ ap (written (store_of after) rows) (sym (places_set ds w (seat.Runs l x) l y at)))
      (rows_through vs.build rows after (execution_of x) (execution_of y) r HasStepped
      (holding rows out ds w l x apart there crew.leased at).distinct within gives)

  pub step_crew : (y : own.Execution) (new : Leases) → new ≡ out → y.places ≡ x.places → Crew (slice_set ds w (seat.Runs l y)) new
  step_crew y new same places = crew_set ds w (seat.Runs l y) out new crew (leased_stepped out new ds w l x y crew.leased at same places)

  -- the worker goes on with its vertex
  vertex_stays : (y : own.Execution) (after : List Row) (q : Reply) (o : Option MicroStep)
      → written_by rows x.places.items (worked_by (execution_of x) (trees_at (store_of rows) x.places.items) o) ≡ Ok (execution_of y, after, q)
      → y.vertex ≡ x.vertex
  vertex_stays y after q None is = absurd cc
  vertex_stays y after q (Some m) is =
      let left = step_on x.done (Some m) (work_with x.view (trees_at (store_of rows) x.places.items)) in
      let whole : ◌≡◌ {A = Written}
      (with_step (execution_of x) left, put_each rows x.places.items left.work.trees, step_reply x.done m x.view left) (execution_of y, after, q)
      = inside_ok is in
      sym (ap (λ (p : Written). p.0.vertex) whole)

  pub step_fits : (r : Result Stepped StepFault) (y : own.Execution) (after : List Row) → supplies_of y ≡ supplies_of x
      → GivesStep (λ s. (execution_of y, after, HasStepped s)) r (worked_in vs.build rows (execution_of x))
      → Fits vs.build (seen_of ds rows) → OnOk r (Fits vs.build (seen_of (slice_set ds w (seat.Runs l y)) after))
  step_fits (Ok s) y after same gives fits =
      supplies_claimed vs.build ds w l y fits
      (same ∙ made_enough vs.build ds w l x fits at
      ∙ ap (λ k. supplies_for (slice_get vs.build.graph.vertices k))
      (sym (vertex_stays y after (HasStepped s) (next_step (program_in vs.build (execution_of x)).steps (execution_of x)) gives)))
  step_fits (Err e) y after same gives fits = tt
