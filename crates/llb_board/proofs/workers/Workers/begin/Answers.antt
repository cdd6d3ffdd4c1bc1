use Rattle.std.proofs.Common.{◌≡◌, ◌∙◌, List, map, sym, ap, subst, rules}
use Rattle.std.specs.Prelude.{Option, Some, Err, IfOk, IfErr, false, true, is_ok, slice_get}
use Rattle.std.specs.List.{All}
use Rattle.llb_cache.specs.Caches.{CachesValue}
use Rattle.llb_model.specs.Table.{Claimed}
use Rattle.llb_model.specs.State.{WorkerStatus, Idle}
use Rattle.llb_model.specs.Table.{claim_start, claimed}
use Rattle.llb_model.proofs.TwoModelsLeases.{leased_holds_as}
use Rattle.llb_events.specs.Faults.{GivesClaim, claim_memory, claim_may_want}
use Rattle.llb_board.specs.WorkerModelValues.{at_of, leased_by}
use Rattle.llb_board.specs.Workers.{WorkersValue, IsBegunOn, state_in, claim_in, reply_of}
use Rattle.llb_board.specs.CacheNeeds.{IsFound}
use Rattle.llb_board.specs.declared.workers.cache_needs.Wanted.{Wanted}
use Rattle.llb_board.specs.declared.workers.running_workers.Seat.{Seat}
use Rattle.llb_board.proofs.GrantsAndRefusals.{CanClaim, Leased, can_claim}
use Rattle.llb_board.proofs.ClaimHalves.{refused_start, refused_held, wants_as, begin_gives, begin_last, begin_on, begin_at_them}
use Rattle.llb_board.proofs.NeedsByMount.{graph_edges}
use Rattle.llb_board.proofs.TableStepOfWorker.{seen_of}
use Rattle.llb_board.proofs.workers.Workers.begin.Goals as goal
use Rattle.llb_board.proofs.workers.Workers.begin.Goals.{In_ok-vertex, After-is_exclusive}

-- what contracts see of the workers, over the fields
abbrev seen : In_ok-vertex → WorkersValue
seen c = seen_of c.self.inside.seats.items c.self.inside.caches.rows

idle : (c : In_ok-vertex) → slice_get (map at_of c.self.inside.seats.items) c.args.w ≡ Some Idle
idle c =
    ap (λ (ds : List Seat). slice_get (map at_of ds) c.args.w) (sym c.deref.ensures.value) ∙ sym c.in-Some-Idle.ensures.does
    ∙ ap (λ d. Some (at_of d)) c.in-Some-Idle.field-0-is

can : (c : In_ok-vertex) → CanClaim c.args.vertices.now.build (state_in c.args.vertices.now (seen c)) c.args.w c.args.v c.in_ok-vertex.vertex.now
can c =
    let vs = c.args.vertices.now in
    can_claim vs.build (state_in vs (seen c)) c.args.w c.args.v c.in_ok-vertex.vertex.now
    (ap (λ o. is_ok (claim_start vs.statuses c.args.v o (slice_get vs.build.graph.vertices c.args.v))) (idle c) ∙ c.in_ok-vertex.ensures.first)
    c.in_ok-vertex.ensures.there

leased : (c : After-is_exclusive) → Leased c.self.inside.caches (map at_of c.self.inside.seats.items)
leased c =
    let s = c.self.inside in
    record {
      same = leased_holds_as s.caches.out (map at_of s.seats.items) (map leased_by s.seats.items) c.self.invariant.leased;
      apart = c.is_exclusive.ensures.apart;
      there = c.is_exclusive.ensures.there;
    }

-- what was found when the caches were looked at is still what they have
still : (c : CachesValue) (ws items : List Wanted) → ws ≡ items → All (IsFound c) items → All (IsFound c) ws
still c ws items same found = subst (λ (us : List Wanted). All (IsFound c) us) (sym same) found

pub returns-in-None-clause-gives : goal.returns-in-None-clause-gives
returns-in-None-clause-gives c =
    let vs = c.args.vertices.now in
    λ known. ap (λ (s : WorkersValue). reply_of (claim_in vs s c.args.w c.args.v)) (sym c.self.view_is)
    ∙ ap (λ (o : Option WorkerStatus). reply_of (
    (claimed vs.build (state_in vs (seen_of c.self.inside.seats.items c.self.inside.caches.rows))
    c.args.w c.args.v (claim_start vs.statuses c.args.v o (slice_get vs.build.graph.vertices c.args.v)))))
    (ap (λ (ds : List Seat). slice_get (map at_of ds) c.args.w) (sym c.deref.ensures.value) ∙ sym c.in-None.ensures.does)

pub returns-in-Some-Runs-clause-gives : goal.returns-in-Some-Runs-clause-gives
returns-in-Some-Runs-clause-gives c =
    let vs = c.args.vertices.now in
    λ known. ap (λ (s : WorkersValue). reply_of (claim_in vs s c.args.w c.args.v)) (sym c.self.view_is)
    ∙ ap (λ (o : Option WorkerStatus). reply_of (
    (claimed vs.build (state_in vs (seen_of c.self.inside.seats.items c.self.inside.caches.rows))
    c.args.w c.args.v (claim_start vs.statuses c.args.v o (slice_get vs.build.graph.vertices c.args.v)))))
    (ap (λ (ds : List Seat). slice_get (map at_of ds) c.args.w) (sym c.deref.ensures.value) ∙ sym c.in-Some-Runs.ensures.does
    ∙ ap (λ d. Some (at_of d)) c.in-Some-Runs.field-0-is)

pub returns-in_err-vertex-clause-gives : goal.returns-in_err-vertex-clause-gives
returns-in_err-vertex-clause-gives c =
    let vs = c.args.vertices.now in
    let e = c.in_err-vertex.field-0.0 in
    let at : slice_get (map at_of c.self.inside.seats.items) c.args.w ≡ Some Idle
    = ap (λ (ds : List Seat). slice_get (map at_of ds) c.args.w) (sym c.deref.ensures.value) ∙ sym c.in-Some-Idle.ensures.does
    ∙ ap (λ d. Some (at_of d)) c.in-Some-Idle.field-0-is in
    let refused : claim_memory e ≡ false → reply_of (claim_in vs c.args.self.now c.args.w c.args.v) ≡ Err e
    = λ known. ap (λ (s : WorkersValue). reply_of (claim_in vs s c.args.w c.args.v)) (sym c.self.view_is)
    ∙ refused_start vs.build (state_in vs (seen_of c.self.inside.seats.items c.self.inside.caches.rows)) c.args.w c.args.v _ e
    (ap (λ o. (claim_start vs.statuses c.args.v o (slice_get vs.build.graph.vertices c.args.v))) at ∙ c.in_err-vertex.ensures.first) in
    search (rules, refused)

pub wanted_by-requires-clause-seeds : goal.wanted_by-requires-clause-seeds
wanted_by-requires-clause-seeds c =
    graph_edges c.args.vertices.now.build.graph c.args.v c.in_ok-vertex.vertex.now c.in_ok-vertex.ensures.graph c.in_ok-vertex.ensures.there

pub returns-in_err-wanted-clause-gives : goal.returns-in_err-wanted-clause-gives
returns-in_err-wanted-clause-gives c =
    let path = goal.at.returns-in_err-wanted-clause-gives c in
    let p = path.In_ok-vertex in
    let vs = c.args.vertices.now in
    let e = c.in_err-wanted.field-0.0 in
    let refused : claim_memory e ≡ false → reply_of (claim_in vs c.args.self.now c.args.w c.args.v) ≡ Err e
    = λ known. ap (λ (s : WorkersValue). reply_of (claim_in vs s c.args.w c.args.v)) (sym c.self.view_is)
    ∙ refused_held vs.build (state_in vs (seen p)) c.args.w c.args.v c.in_ok-vertex.vertex.now c.self.inside.caches e (can p)
    (leased path.After-is_exclusive).same (c.in_err-wanted.ensures.gives known) in
    search (rules, refused)

pub returns-in_err-wanted-clause-last : goal.returns-in_err-wanted-clause-last
returns-in_err-wanted-clause-last c =
    let path = goal.at.returns-in_err-wanted-clause-last c in
    let p = path.In_ok-vertex in
    let vs = c.args.vertices.now in
    let may_want : claim_memory c.in_err-wanted.field-0.0 ≡ true → claim_may_want (claim_in vs c.args.self.now c.args.w c.args.v) ≡ true
    = λ memory. ap (λ (s : WorkersValue). claim_may_want (claim_in vs s c.args.w c.args.v)) (sym c.self.view_is)
    ∙ wants_as vs.build (state_in vs (seen p)) c.args.w c.args.v c.in_ok-vertex.vertex.now c.self.inside.caches (can p) (leased path.After-is_exclusive).same
    ∙ c.in_err-wanted.ensures.last memory in
    search (rules, may_want)

pub returns-clause-gives : goal.returns-clause-gives
returns-clause-gives c =
    let path = goal.at.returns-clause-gives c in
    let p = path.In_ok-vertex in
    let vs = c.args.vertices.now in
    let s = c.self.inside in
    subst (λ (n : WorkersValue). GivesClaim (λ g. Claimed g.job) c.begun_with.result (reply_of (claim_in vs n c.args.w c.args.v))) c.self.view_is
    (begin_gives vs (seen p) s.caches.out c.args.w c.args.v c.in_ok-vertex.vertex.now (can p) (leased path.After-is_exclusive) _
    c.in_ok-wanted.ensures.gives c.begun_with.result
    (c.begun_with.ensures.gives s.caches (still s.caches _ _ c.deref-2.ensures.value c.in_ok-wanted.ensures.found)))

pub returns-clause-last : goal.returns-clause-last
returns-clause-last c =
    let path = goal.at.returns-clause-last c in
    let p = path.In_ok-vertex in
    let vs = c.args.vertices.now in
    let s = c.self.inside in
    subst (λ (n : WorkersValue). IfErr c.begun_with.result (λ e. claim_memory e ≡ true → claim_may_want (claim_in vs n c.args.w c.args.v) ≡ true))
    c.self.view_is
    (begin_last vs (seen p) s.caches.out c.args.w c.args.v c.in_ok-vertex.vertex.now (can p) (leased path.After-is_exclusive) _
    c.in_ok-wanted.ensures.gives c.begun_with.result)

pub returns-clause-begun : goal.returns-clause-begun
returns-clause-begun c =
    let path = goal.at.returns-clause-begun c in
    let p = path.In_ok-vertex in
    let vs = c.args.vertices.now in
    let s = c.self.inside in
    subst (λ (n : WorkersValue). IfOk c.begun_with.result (λ g. IsBegunOn vs n g)) c.self.view_is
    (begin_on vs (seen p) s.caches.out c.args.w c.args.v c.in_ok-vertex.vertex.now (can p) (leased path.After-is_exclusive) _
    c.in_ok-wanted.ensures.gives c.begun_with.result
    (c.begun_with.ensures.gives s.caches (still s.caches _ _ c.deref-2.ensures.value c.in_ok-wanted.ensures.found)) c.begun_with.ensures.supplies)

pub returns-clause-at : goal.returns-clause-at
returns-clause-at c =
    let path = goal.at.returns-clause-at c in
    let p = path.In_ok-vertex in
    let s = c.self.inside in
    begin_at_them c.args.vertices.now (seen p) s.caches.out c.args.w c.args.v c.in_ok-vertex.vertex.now (can p) (leased path.After-is_exclusive) _
    c.in_ok-wanted.ensures.gives c.begun_with.result
    (c.begun_with.ensures.gives s.caches (still s.caches _ _ c.deref-2.ensures.value c.in_ok-wanted.ensures.found))
