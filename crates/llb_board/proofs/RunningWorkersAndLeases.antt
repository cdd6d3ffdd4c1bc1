-- What is kept of workers and leases, as a worker's seat is set.
use Rattle.std.proofs.Common.{◌≡◌, ℕ, ◌<◌, ◌≤◌, List, map, length, Option, Some, None, refl, sym, ap, subst, ◌∙◌, arith}
use Rattle.std.specs.Prelude.{replicate, slice_get, slice_set}
use Rattle.std.proofs.lemmas.List.{length-replicate}
use Rattle.llb_cache.specs.Caches.{CachesValue, Leases, leases}
use Rattle.llb_loader.specs.declared.graph.Vertex.{Vertex}
use Rattle.llb_events.specs.declared.fault.VertexFault.{VertexFault}
use Rattle.llb_model.specs.TwoCacheModels.{AreLeased}
use Rattle.llb_model.specs.Outcome.{ended}
use Rattle.llb_model.specs.Program.{Workspace, outputs_of, program_at}
use Rattle.llb_model.specs.State.{Status, Settled, WorkerStatus, Idle}
use Rattle.llb_model.proofs.Outcomes.{ended_count}
use Rattle.llb_model.proofs.Lists.{length_set, map_replicate, length_map}
use Rattle.llb_board.specs.OptionalLeases.{given_back, IsOutIf}
use Rattle.llb_board.specs.Vertices.{IsWhole}
use Rattle.llb_board.specs.WorkerModelValues.{at_of, leased_by}
use Rattle.llb_board.specs.Workers.{IsCrew}
use Rattle.llb_board.specs.declared.workers.running_workers.Seat.{Seat}
use Rattle.llb_board.specs.declared.workers.running_workers.Seat.TheVariants as seat
use Rattle.llb_board.specs.declared.workers.running_workers.Execution as own
use Rattle.llb_board.proofs.Lists.{get_map}
use Rattle.llb_board.proofs.LeaseInstances.{leased_settled, lease_out}
use Rattle.llb_board.proofs.LeaseCounts.{none_leased}

-- what is kept of seats and leases
abbrev pub Crew : List Seat → Leases → Type 0
Crew ds out = IsCrew (map at_of ds) out (map leased_by ds)

-- a seat is set, and the leases are again as they should be
pub crew_set : (ds : List Seat) (w : ℕ) (d : Seat) (out new : Leases) → Crew ds out
    → AreLeased new (map at_of (slice_set ds w d)) (map leased_by (slice_set ds w d)) → Crew (slice_set ds w d) new
crew_set ds w d out new crew leased =
    let same : length (map at_of (slice_set ds w d)) ≡ length (map at_of ds)
    = length_map at_of (slice_set ds w d) ∙ length_set ds w d ∙ sym (length_map at_of ds) in
    let some = crew.some in
    let few = crew.few in
    record { some = omega (arith, same, some); few = omega (arith, same, few); leased = leased }

-- a worker leaves, and its lease, if it has one, is given back
pub crew_idle : (ds : List Seat) (w : ℕ) (l : Option ℕ) (x : own.Execution) (c : CachesValue) → Crew ds c.out → slice_get ds w ≡ Some (seat.Runs l x)
    → Crew (slice_set ds w seat.Idle) (given_back c l).out
crew_idle ds w l x c crew at =
    crew_set ds w seat.Idle c.out (given_back c l).out crew (leased_settled c ds w l crew.leased (get_map leased_by ds w (seat.Runs l x) at))

-- the lease of a running worker, if it has one, is out
pub crew_out : (ds : List Seat) (w : ℕ) (l : Option ℕ) (x : own.Execution) (out : Leases) → Crew ds out → slice_get ds w ≡ Some (seat.Runs l x)
    → IsOutIf out l
crew_out ds w l x out crew at = lease_out out (map at_of ds) (map leased_by ds) w l crew.leased (get_map leased_by ds w (seat.Runs l x) at)

-- ---- a worker leaves its vertex

-- what a vertex is after its execution has as many trees as outputs, if it is done
pub whole_end : (o : Option Vertex) (view : Workspace) (fault : Option VertexFault) (s : Status) → s ≡ Settled (ended (program_at o) view fault) → IsWhole o s
whole_end o view fault s is = subst (IsWhole o) (sym is) (by_fault o fault)
  where
    by_fault : (o : Option Vertex) (fault : Option VertexFault) → IsWhole o (Settled (ended (program_at o) view fault))
    by_fault None fault = tt
    by_fault (Some x) (Some f) = tt
    by_fault (Some x) None = ended_count (program_at (Some x)) view None (outputs_of (program_at (Some x)) view) refl

-- ---- new workers

-- new workers are all idle, on caches of which no lease is out

pub crew_open : (ds : List Seat) (n : ℕ) (out : Leases) → ds ≡ replicate n seat.Idle → 0 < n → n ≤ 64 → leases out ≡ 0 → Crew ds out
crew_open ds n out is some few free =
    let workers : map at_of ds ≡ replicate n Idle = ap (map at_of) is ∙ map_replicate at_of n seat.Idle in
    let leased : map leased_by ds ≡ replicate n None = ap (map leased_by) is ∙ map_replicate leased_by n seat.Idle in
    let count : length (map at_of ds) ≡ n = ap length workers ∙ length-replicate n Idle in
    record {
      some = omega (arith, count, some);
      few = omega (arith, count, few);
      leased = subst (λ (ls : List (Option ℕ)). AreLeased out (map at_of ds) ls) (sym leased)
          (subst (λ (ws : List WorkerStatus). AreLeased out ws (replicate n None)) (sym workers) (none_leased out n free));
    }

-- other seats, whose workers do the same and have the same leases
pub crew_alike : (ds es : List Seat) (out new : Leases) → map at_of es ≡ map at_of ds → map leased_by es ≡ map leased_by ds → new ≡ out
    → Crew ds out → Crew es new
crew_alike ds es out new workers leased same crew =
    subst (λ (ws : List WorkerStatus). IsCrew ws new (map leased_by es)) (sym workers)
    (subst (IsCrew (map at_of ds) new) (sym leased) (subst (λ (o : Leases). IsCrew (map at_of ds) o (map leased_by ds)) (sym same) crew))
