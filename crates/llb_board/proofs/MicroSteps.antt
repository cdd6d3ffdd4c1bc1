-- A micro-step of what a worker runs, over the lists of instances, where the micro-step is known.
use Rattle.std.proofs.Common.{◌≡◌, ℕ, ◌+◌, ◌<◌, ◌^◌, List, length, map, Option, Some, None, sym, ap, subst, ◌∙◌, arith}
use Rattle.std.specs.Prelude.{Result, Ok, is_ok, true, slice_get}
use Rattle.std.specs.List.{All}
use Rattle.std.proofs.lemmas.Option.{slice_get_within}
use Rattle.llb_wire.specs.CallResults.{MemoryLast}
use Rattle.llb_cache.specs.Caches.{Row, trees_of}
use Rattle.llb_loader.specs.Graph.{IsGraph}
use Rattle.llb_loader.specs.declared.graph.Vertex.{Vertex}
use Rattle.llb_tree.specs.Tree.{TreeMap}
use Rattle.llb_events.specs.declared.event.Stepped.TheVariants as did
use Rattle.llb_model.specs.Table.{HasStepped, Reply, with_step, step_reply}
use Rattle.llb_model.specs.Caches.{Instance, Has, Distinct, trees_at}
use Rattle.llb_model.specs.TwoCacheModels.{store_of, put_each}
use Rattle.llb_model.specs.Program.{Build, MicroStep, Left, key_of, mount_of, program_at, step_on}
use Rattle.llb_model.specs.State.{Execution, program_in}
use Rattle.llb_execution.specs.ModelValues.{work_with, mounts_in, shown_in, is_skipped}
use Rattle.llb_events.specs.declared.refusal.StepFault.{StepFault}
use Rattle.llb_events.specs.Faults.{step_memory}
use Rattle.llb_board.specs.RunningWorkerSupplies.{Supplies, supplies_of, supplies_for, mounts_at, needs_at}
use Rattle.llb_board.specs.WorkerRules.{worked_to, written_by, worked_in}
use Rattle.llb_board.specs.declared.workers.running_workers.Execution as own
use Rattle.llb_model.proofs.Lists.{length_map}
use Rattle.llb_board.proofs.CachesOfViews.{few_needs}
use Rattle.llb_board.proofs.SkippedCommands.{put_each_same, skip_to}
use Rattle.llb_board.proofs.MicroStepsOnLeases.{last_of}
use Rattle.llb_board.proofs.UnfaultedMicroSteps.{goes_to}
use Rattle.llb_board.proofs.NeedsByMount.{needs_apart, needs_within}

-- the vertex has the micro-step at the number of those done, and none has faulted
module _ (b : Build) (rows : List Row) (x : Execution) (m : MicroStep) (clean : x.fault ≡ None)
    (at : slice_get (program_in b x).steps x.done ≡ Some m) where
  abbrev held : List TreeMap
  held = trees_at (store_of rows) x.places

  -- the micro-step is done on the trees of the instances
  stepped_to : worked_in b rows x ≡ written_by rows x.places (Ok (worked_to x m (step_on x.done (Some m) (work_with x.own held))))
  stepped_to = ap (written_by rows x.places) (goes_to (program_in b x).steps x held m clean at)

  -- so only want of memory can refuse the micro-step
  pub step_last : {A : Type 0} (r : Result A StepFault) → MemoryLast step_memory r (worked_in b rows x)
  step_last r = last_of r (worked_in b rows x) (ap is_ok stepped_to)

  -- a command that is skipped is counted, and that is all
  pub skipped_to : is_skipped m x.own ≡ true → ((p : Instance) → Has x.places p → p.number < length (trees_of rows p.key))
      → worked_in b rows x ≡ Ok (record x { done = x.done + 1 }, rows, HasStepped (did.Skipped x.done))
  skipped_to skips within =
      ap (written_by rows x.places) (skip_to (program_in b x).steps x held m clean at skips)
      ∙ ap (λ (rs : List Row). Ok (record x { done = x.done + 1 }, rs, HasStepped (did.Skipped x.done))) (put_each_same rows x.places within)

  -- a micro-step that is done: the execution, the lists of instances and the reply are as its result `left` says
  pub stepped_by : (ts : List TreeMap) (left : Left) (r : Reply) (after : List Row) (ps : List Instance) → ts ≡ held
      → left ≡ step_on x.done (Some m) (work_with x.own ts) → r ≡ step_reply x.done m x.own left → after ≡ put_each rows ps left.work.trees
      → ps ≡ x.places → worked_in b rows x ≡ Ok (with_step x left, after, r)
  stepped_by ts left r after ps read is told put same =
      let leaves : step_on x.done (Some m) (work_with x.own held) ≡ left
      = sym (is ∙ ap (λ l. step_on x.done (Some m) (work_with x.own l)) read) in
      let rows_are : put_each rows x.places left.work.trees ≡ after = sym (put ∙ ap (λ qs. put_each rows qs left.work.trees) same) in
      stepped_to
      ∙ (λ i. Ok (with_step x (leaves i), put_each rows x.places (leaves i).work.trees, step_reply x.done m x.own (leaves i)))
      ∙ (λ i. Ok (with_step x left, rows_are i, sym told i))

-- ---- what an execution is supplied with

-- the mounts that show caches differ, and are among the mounts
apart_at : (o : Option Vertex) → Distinct (map mount_of (needs_at o))
apart_at None = tt
apart_at (Some v) = needs_apart v

within_at : (o : Option Vertex) → All (λ m. m < length (mounts_at o)) (map mount_of (needs_at o))
within_at None = λ k d below. absurd (omega (arith, below))
within_at (Some v) = needs_within v

module _ (b : Build) (x : own.Execution) (supplies : supplies_of x ≡ supplies_for (slice_get b.graph.vertices x.vertex)) where
  abbrev vertex : Option Vertex
  vertex = slice_get b.graph.vertices x.vertex

  pub steps_are : x.steps ≡ (program_at vertex).steps
  steps_are = ap (λ (s : Supplies). s.steps) supplies

  -- a micro-step that the execution has is the vertex's
  pub step_at : (m : MicroStep) → ◌≡◌ {A = Option MicroStep} (Some m) (slice_get x.steps x.done) → slice_get (program_at vertex).steps x.done ≡ Some m
  step_at m at = ap (λ ss. slice_get ss x.done) (sym steps_are) ∙ sym at

  -- the mounts that show caches differ, and are among the view's
  pub shown_apart : Distinct (shown_in x.view)
  shown_apart = subst Distinct (sym (ap (λ (s : Supplies). s.shown) supplies)) (apart_at vertex)

  pub shown_within : All (λ m. m < mounts_in x.view) (shown_in x.view)
  shown_within =
      subst (λ (n : ℕ). All (λ m. m < n) (shown_in x.view)) (sym (ap (λ (s : Supplies). s.mounts) supplies))
      (subst (λ (ms : List ℕ). All (λ m. m < length (mounts_at vertex)) ms) (sym (ap (λ (s : Supplies). s.shown) supplies)) (within_at vertex))

  -- the execution has an instance for each mount that shows a cache
  pub places_shown : length x.places.items ≡ length (shown_in x.view)
  places_shown =
      sym (length_map (λ (p : Instance). p.key) x.places.items) ∙ ap (λ (s : Supplies). length s.keys) supplies
      ∙ length_map key_of (needs_at vertex) ∙ sym (length_map mount_of (needs_at vertex)) ∙ sym (ap (λ (s : Supplies). length s.shown) supplies)

  pub few_places : IsGraph b.graph → length x.places.items < 2 ^ 32
  few_places graph =
      let keys : length x.places.items ≡ length (needs_at (slice_get b.graph.vertices x.vertex))
      = sym (length_map (λ (p : Instance). p.key) x.places.items) ∙ ap (λ (s : Supplies). length s.keys) supplies
      ∙ length_map key_of (needs_at (slice_get b.graph.vertices x.vertex)) in
      omega (arith, keys, few_needs b.graph x.vertex graph)

  -- the micro-steps that are done can be counted on
  pub few_done : (m : MicroStep) → slice_get (program_at vertex).steps x.done ≡ Some m → length (program_at vertex).steps < 2 ^ 25 → x.done + 1 < 2 ^ 32
  few_done m at few = let low = slice_get_within (program_at vertex).steps x.done m at in omega (arith, low, few)
