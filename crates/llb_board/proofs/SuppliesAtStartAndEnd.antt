-- What a worker has and needs, as its vertex begins and ends.
use Rattle.std.proofs.Common.{◌≡◌, ℕ, List, map, inl, inr, sym, ap, subst, ◌∙◌}
use Rattle.std.specs.Prelude.{Bool, true, false, Option, Some, None, Ok, slice_get, slice_set, replicate}
use Rattle.llb_cache.specs.Caches.{Leases, free_lease, with_lease}
use Rattle.llb_tree.specs.Tree.{empty_tree}
use Rattle.llb_loader.specs.declared.graph.Vertex.{Vertex}
use Rattle.llb_model.specs.Program.{Build, program_at}
use Rattle.llb_model.specs.State.{Status, Settled, WorkerStatus, Idle, Runs, program_in, is_finished}
use Rattle.llb_model.specs.TwoCacheModels.{AreLeased}
use Rattle.llb_model.specs.Outcome.{ended}
use Rattle.llb_model.proofs.Lists.{inside}
use Rattle.llb_model.proofs.TwoModelsLeases.{claim_leases, claim_without}
use Rattle.llb_model.specs.Caches.{Instance}
use Rattle.llb_board.specs.WorkerModelValues.{at_of, leased_by, execution_of}
use Rattle.llb_board.specs.WorkerRules.{left_at}
use Rattle.llb_board.specs.RunningWorkerSupplies.{Supplies, supplies_of, supplies_for, ready_made, needed}
use Rattle.llb_board.specs.declared.workers.running_workers.Seat.{Seat}
use Rattle.llb_board.specs.declared.workers.running_workers.Seat.TheVariants as seat
use Rattle.llb_board.specs.declared.workers.running_workers.Execution as own
use Rattle.llb_board.proofs.Lists.{map_set, get_map}
use Rattle.llb_board.proofs.GrantsAndRefusals.{LeasedNew, left_if}

-- ---- a claim

-- after a claim each running worker has a lease of its own: the new one, or none where it has no instances
pub leased_claimed : (out : Leases) (ds : List Seat) (w : ℕ) (l : Option ℕ) (own : own.Execution) (ps : List Instance) (new : Leases)
    → AreLeased out (map at_of ds) (map leased_by ds)
    → slice_get (map at_of ds) w ≡ Some Idle → own.places.items ≡ ps → LeasedNew out l ps new
    → AreLeased new (map at_of (slice_set ds w (seat.Runs l own))) (map leased_by (slice_set ds w (seat.Runs l own)))
leased_claimed out ds w l own ps new leased idle same is =
    subst (λ (ws : List WorkerStatus). AreLeased new ws (map leased_by (slice_set ds w (seat.Runs l own)))) (sym (map_set at_of ds w (seat.Runs l own)))
    (subst (AreLeased new (slice_set (map at_of ds) w (Runs (execution_of own)))) (sym (map_set leased_by ds w (seat.Runs l own))) (elim is [
      | inl h ↦
          let grown : new ≡ with_lease out (free_lease out) own.places.items = h.1 ∙ ap (with_lease out (free_lease out)) (sym same) in
          subst (λ (n : Option ℕ). AreLeased new (slice_set (map at_of ds) w (Runs (execution_of own))) (slice_set (map leased_by ds) w n)) (sym h.0)
          (subst (λ (o : Leases). AreLeased o (slice_set (map at_of ds) w (Runs (execution_of own)))
          (slice_set (map leased_by ds) w (Some (free_lease out)))) (sym grown)
          (claim_leases out (map at_of ds) (map leased_by ds) w (execution_of own) leased idle))
      | inr h ↦
          subst (λ (n : Option ℕ). AreLeased new (slice_set (map at_of ds) w (Runs (execution_of own))) (slice_set (map leased_by ds) w n)) (sym h.0)
          (subst (λ (o : Leases). AreLeased o (slice_set (map at_of ds) w (Runs (execution_of own))) (slice_set (map leased_by ds) w None)) (sym h.2)
          (claim_without out (map at_of ds) (map leased_by ds) w (execution_of own) leased idle (same ∙ h.1)))
    ]))

-- the supplies of a vertex are those that are asked for at its number
pub made_for : (b : Build) (x : Vertex) (v n : ℕ) → slice_get b.graph.vertices v ≡ Some x → n ≡ v
    → supplies_for (Some x) ≡ supplies_for (slice_get b.graph.vertices n)
made_for b x v n there same = sym (ap (λ k. supplies_for (slice_get b.graph.vertices k)) same ∙ ap supplies_for there)

-- after a claim each worker has what its vertex needs, where the new execution has
pub supplies_claimed : (b : Build) (ds : List Seat) (w : ℕ) (l : Option ℕ) (x : own.Execution) → map ready_made ds ≡ map (needed b) (map at_of ds)
    → supplies_of x ≡ supplies_for (slice_get b.graph.vertices x.vertex)
    → map ready_made (slice_set ds w (seat.Runs l x)) ≡ map (needed b) (map at_of (slice_set ds w (seat.Runs l x)))
supplies_claimed b ds w l x kept made =
    map_set ready_made ds w (seat.Runs l x) ∙ (λ i. slice_set (kept i) w (made i))
    ∙ sym (map_set (needed b) (map at_of ds) w (Runs (execution_of x))) ∙ ap (map (needed b)) (sym (map_set at_of ds w (seat.Runs l x)))

-- ---- a settle

-- what a worker has ready is what its vertex needs
pub made_enough : (b : Build) (ds : List Seat) (w : ℕ) (l : Option ℕ) (x : own.Execution) → map ready_made ds ≡ map (needed b) (map at_of ds)
    → slice_get ds w ≡ Some (seat.Runs l x)
    → supplies_of x ≡ supplies_for (slice_get b.graph.vertices x.vertex)
made_enough b ds w l x kept at =
    inside (sym (get_map ready_made ds w (seat.Runs l x) at) ∙ ap (λ l. slice_get l w) kept
    ∙ get_map (needed b) (map at_of ds) w (Runs (execution_of x)) (get_map at_of ds w (seat.Runs l x) at))

-- the outputs that a running worker has ready are empty trees, one for each output of its vertex
pub all_empty : (b : Build) (ds : List Seat) (w : ℕ) (l : Option ℕ) (x : own.Execution) → map ready_made ds ≡ map (needed b) (map at_of ds)
    → slice_get ds w ≡ Some (seat.Runs l x) → x.outputs.items ≡ replicate (program_in b (execution_of x)).outputs empty_tree
all_empty b ds w l x kept at = ap (λ (s : Supplies). s.outputs) (made_enough b ds w l x kept at)

finished_at : Build → Seat → Bool
finished_at b seat.Idle = false
finished_at b (seat.Runs l x) = is_finished (program_in b (execution_of x)).steps (execution_of x)

-- the status with which a worker's execution ends: x is the execution as it was checked, and y the same one as it was taken from its seat
pub leaves : (b : Build) (ds : List Seat) (w : ℕ) (l k : Option ℕ) (x y : own.Execution) (o : Option Vertex) (stands : Status)
    → slice_get ds w ≡ Some (seat.Runs l x) → slice_get ds w ≡ Some (seat.Runs k y)
    → is_finished (program_in b (execution_of x)).steps (execution_of x) ≡ true → o ≡ slice_get b.graph.vertices y.vertex
    → stands ≡ Settled (ended (program_at o) y.view y.fault)
    → left_at b (slice_get (map at_of ds) w) ≡ Ok (y.vertex, stands)
unfolding finished_at
leaves b ds w l k x y o stands looked taken finished same ends =
    let is : finished_at b (seat.Runs k y) ≡ true = ap (finished_at b) (inside (sym taken ∙ looked)) ∙ finished in
    ap (left_at b) (get_map at_of ds w (seat.Runs k y) taken)
    ∙ ap (left_if b (execution_of y)) is
    ∙ (λ i. Ok (y.vertex, Settled (ended (program_at (sym same i)) y.view y.fault)))
    ∙ ap (λ s. Ok (y.vertex, s)) (sym ends)

-- after a settle each worker has what its vertex needs, and the one that is idle needs nothing
pub supplies_settled : (b : Build) (ds : List Seat) (w : ℕ) → map ready_made ds ≡ map (needed b) (map at_of ds)
    → map ready_made (slice_set ds w seat.Idle) ≡ map (needed b) (map at_of (slice_set ds w seat.Idle))
supplies_settled b ds w kept =
    map_set ready_made ds w seat.Idle ∙ ap (λ l. slice_set l w (supplies_for None)) kept ∙ sym (map_set (needed b) (map at_of ds) w Idle)
    ∙ ap (map (needed b)) (sym (map_set at_of ds w seat.Idle))
