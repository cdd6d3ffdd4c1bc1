use Rattle.std.proofs.Common.{◌≡◌, ◌≢◌, ◌∙◌, ℕ, sym, ap, subst}
use Rattle.std.specs.Prelude.{Ok, AllPairs, slice_set}
use Rattle.llb_cache.specs.declared.lease_needs.Need as cache_need
use Rattle.llb_model.specs.Table.{Claimed}
use Rattle.llb_model.specs.State.{Running}
use Rattle.llb_model.specs.Table.{Job, claim_grant}
use Rattle.llb_board.specs.OptionalLeases.{lease_if}
use Rattle.llb_model.specs.TwoCacheModels.{rows_after}
use Rattle.llb_board.specs.Vertices.{with_status}
use Rattle.llb_board.specs.Workers.{WorkersValue, IsBegunAt, Fits, state_in}
use Rattle.llb_board.specs.declared.workers.running_workers.Seat.TheVariants as seat
use Rattle.llb_board.proofs.ClaimHalves.{differ, few, start_grants, start_rows, start_crew, start_fits}
use Rattle.llb_board.proofs.TableStepOfWorker.{seen_of}
use Rattle.llb_board.proofs.workers.Workers.start.Goals as goal
use Rattle.llb_board.proofs.workers.Workers.start.Goals.{After-is_exclusive, In-Ok}

-- the claim was begun on this state, which is given here by the fields of the workers
on : (c : After-is_exclusive) → IsBegunAt c.args.vertices.now (seen_of c.self.inside.seats.items c.self.inside.caches.rows) c.args.begun.job.worker
    c.args.begun.job.vertex c.args.begun
on c =
    let g = c.args.begun in
    subst (λ (s : WorkersValue). IsBegunAt c.args.vertices.now s g.job.worker g.job.vertex g) (sym c.self.view_is) c.requires

pub lease_for-requires-clause-differ : goal.lease_for-requires-clause-differ
lease_for-requires-clause-differ c =
    let p = (goal.at.lease_for-requires-clause-differ c).After-is_exclusive in
    let s = c.self.inside in
    subst (AllPairs (λ (n m : cache_need.Need). n.key ≢ m.key)) (sym c.into_parts-job.ensures.needs)
    (differ c.args.vertices.now s.seats.items s.caches c.args.begun.job.worker c.args.begun.job.vertex c.args.begun (on p) c.self.invariant
    c.is_exclusive.ensures.apart c.is_exclusive.ensures.there c.vertex.ensures.graph)

pub lease_for-requires-clause-few : goal.lease_for-requires-clause-few
lease_for-requires-clause-few c =
    let p = (goal.at.lease_for-requires-clause-few c).After-is_exclusive in
    let s = c.self.inside in
    few c.args.vertices.now s.seats.items s.caches c.args.begun.job.worker c.args.begun.job.vertex c.args.begun (on p) c.self.invariant
    c.is_exclusive.ensures.apart c.is_exclusive.ensures.there c.vertex.ensures.graph

-- ---- the lease is taken

-- the worker's number
worker_is : (c : After-is_exclusive) → c.args.begun.job.worker ≡ c.worker-w.result
worker_is c = ap (λ (j : Job). j.worker) (sym c.into_parts-job.ensures.job) ∙ sym c.worker-w.ensures

on_w : (c : After-is_exclusive) → IsBegunAt c.args.vertices.now (seen_of c.self.inside.seats.items c.self.inside.caches.rows) c.worker-w.result
    c.args.begun.job.vertex c.args.begun
on_w c =
    let s = c.self.inside in
    subst (λ (n : ℕ). IsBegunAt c.args.vertices.now (seen_of s.seats.items s.caches.rows) n c.args.begun.job.vertex c.args.begun) (worker_is c) (on c)

leased : (c : In-Ok) → lease_if c.self.inside.caches c.args.begun.needs ≡ Ok (c.in-Ok.lease, c.lease_for.new.caches)
leased c = ap (lease_if c.self.inside.caches) (sym c.into_parts-job.ensures.needs) ∙ c.in-Ok.ensures.gives

-- the workers after it
abbrev after : In-Ok → WorkersValue
after c = seen_of (slice_set c.self.inside.seats.items c.worker-w.result (seat.Runs c.in-Ok.lease c.into_parts-job.result.1)) c.lease_for.new.caches.rows

pub invariant_of-self : goal.invariant_of-self
invariant_of-self c =
    let path = goal.at.invariant_of-self c in
    let s = c.self.inside in
    start_crew c.args.vertices.now s.seats.items s.caches c.worker-w.result c.args.begun.job.vertex c.args.begun (on_w path.After-is_exclusive)
    c.self.invariant c.is_exclusive.ensures.apart c.is_exclusive.ensures.there c.vertex.ensures.graph c.in-Ok.lease c.into_parts-job.result.1
    c.lease_for.new.caches c.into_parts-job.ensures.execution c.into_parts-job.ensures.supplies (leased path.In-Ok)

pub returns-in-Ok-clause-grants : goal.returns-in-Ok-clause-grants
returns-in-Ok-clause-grants c =
    let path = goal.at.returns-in-Ok-clause-grants c in
    let vs = c.args.vertices.now in
    let s = c.self.inside in
    let v = c.args.begun.job.vertex in
    subst (λ (n : ℕ). claim_grant vs.build (state_in vs c.args.self.now) n v
    ≡ Ok (state_in (with_status v (Running n) vs) (after path.In-Ok), Claimed c.args.begun.job)) (sym (worker_is path.After-is_exclusive))
    (subst (λ (ws : WorkersValue). claim_grant vs.build (state_in vs ws) c.worker-w.result v
    ≡ Ok (state_in (with_status v (Running c.worker-w.result) vs) (after path.In-Ok), Claimed c.args.begun.job)) c.self.view_is
    (start_grants vs s.seats.items s.caches c.worker-w.result v c.args.begun (on_w path.After-is_exclusive)
    c.self.invariant c.is_exclusive.ensures.apart c.is_exclusive.ensures.there c.vertex.ensures.graph c.in-Ok.lease c.into_parts-job.result.1
    c.lease_for.new.caches c.into_parts-job.ensures.execution c.into_parts-job.ensures.supplies (leased path.In-Ok)))

pub returns-in-Ok-clause-rows : goal.returns-in-Ok-clause-rows
returns-in-Ok-clause-rows c =
    let path = goal.at.returns-in-Ok-clause-rows c in
    let vs = c.args.vertices.now in
    let s = c.self.inside in
    let v = c.args.begun.job.vertex in
    subst (λ (n : ℕ). c.lease_for.new.caches.rows ≡ rows_after c.args.self.now.rows (state_in (with_status v (Running n) vs) (after path.In-Ok)) n)
    (sym (worker_is path.After-is_exclusive))
    (subst (λ (ws : WorkersValue). c.lease_for.new.caches.rows
    ≡ rows_after ws.rows (state_in (with_status v (Running c.worker-w.result) vs) (after path.In-Ok)) c.worker-w.result) c.self.view_is
    (start_rows vs s.seats.items s.caches c.worker-w.result v c.args.begun (on_w path.After-is_exclusive)
    c.self.invariant c.is_exclusive.ensures.apart c.is_exclusive.ensures.there c.vertex.ensures.graph c.in-Ok.lease c.into_parts-job.result.1
    c.lease_for.new.caches c.into_parts-job.ensures.execution c.into_parts-job.ensures.supplies (leased path.In-Ok)))

pub returns-in-Ok-clause-fits : goal.returns-in-Ok-clause-fits
returns-in-Ok-clause-fits c =
    let path = goal.at.returns-in-Ok-clause-fits c in
    let s = c.self.inside in
    λ fits. start_fits c.args.vertices.now s.seats.items s.caches c.worker-w.result c.args.begun.job.vertex c.args.begun (on_w path.After-is_exclusive)
    c.self.invariant c.is_exclusive.ensures.apart c.is_exclusive.ensures.there c.vertex.ensures.graph c.in-Ok.lease c.into_parts-job.result.1
    c.lease_for.new.caches c.into_parts-job.ensures.execution c.into_parts-job.ensures.supplies (leased path.In-Ok)
    (subst (Fits c.args.vertices.now.build) (sym c.self.view_is) fits)
