use Rattle.std.proofs.Common.{◌≡◌, ◌∙◌, ◌+◌, ◌++◌, ◌∷◌, [], true, false, sym, ap, rules}
use Rattle.std.specs.Prelude.{Ok, Err, slice_get}
use Rattle.llb_model.specs.Table.{Claimed}
use Rattle.llb_events.specs.declared.event.Event.TheVariants.{Claim}
use Rattle.llb_model.specs.Table.{claim_grant}
use Rattle.llb_events.specs.Faults.{claim_memory, claim_may_want}
use Rattle.llb_board.specs.Workers.{state_in}
use Rattle.llb_board.specs.BoardValue.{BoardValue, seen}
use Rattle.llb_board.specs.EventResults.{claim_of}
use Rattle.llb_board.proofs.ClaimCorrectness.{refused_as, wants_as, granted_wants, released, granted_at, rows_at, low, room, keeps}
use Rattle.llb_board.proofs.InvariantPreservation.{recorded_as, runs_whole}
use Rattle.llb_board.proofs.board.Board.claim.Goals as goal

-- ---- a claim that is refused

pub returns-in_err-begun-clause-gives : goal.returns-in_err-begun-clause-gives
returns-in_err-begun-clause-gives c =
    let b = c.self.inside in
    let e = c.in_err-begun.field-0.0 in
    let refused : claim_memory e ≡ false → claim_of c.args.self.now c.args.w c.args.v ≡ Err e
    = λ known. ap (λ (m : BoardValue). claim_of m c.args.w c.args.v) (sym c.self.view_is)
    ∙ refused_as (seen b.vertices b.start.rows b.workers b.history.list) (Claim c.args.w c.args.v)
    (claim_grant b.vertices.build (state_in b.vertices b.workers) c.args.w c.args.v) e (c.in_err-begun.ensures.gives known) in
    search (rules, refused)

pub returns-in_err-begun-clause-last : goal.returns-in_err-begun-clause-last
returns-in_err-begun-clause-last c =
    let b = c.self.inside in
    let may_want : claim_memory c.in_err-begun.field-0.0 ≡ true → claim_may_want (claim_of c.args.self.now c.args.w c.args.v) ≡ true
    = λ memory. ap (λ (m : BoardValue). claim_may_want (claim_of m c.args.w c.args.v)) (sym c.self.view_is)
    ∙ wants_as (seen b.vertices b.start.rows b.workers b.history.list) (Claim c.args.w c.args.v)
    (claim_grant b.vertices.build (state_in b.vertices b.workers) c.args.w c.args.v) (c.in_err-begun.ensures.last memory) in
    search (rules, may_want)

pub returns-in_err-reserve-clause-last : goal.returns-in_err-reserve-clause-last
returns-in_err-reserve-clause-last c =
    let b = c.self.inside in
    let may_want : claim_may_want (claim_of c.args.self.now c.args.w c.args.v) ≡ true
    = ap (λ (m : BoardValue). claim_may_want (claim_of m c.args.w c.args.v)) (sym c.self.view_is)
    ∙ granted_wants (seen b.vertices b.start.rows b.workers b.history.list) (Claim c.args.w c.args.v)
    (claim_grant b.vertices.build (state_in b.vertices b.workers) c.args.w c.args.v) _ c.in_ok-begun.ensures.gives in
    search (rules, may_want)

pub returns-in_default-clause-last : goal.returns-in_default-clause-last
returns-in_default-clause-last c =
    let b = c.self.inside in
    λ memory. ap (λ (m : BoardValue). claim_may_want (claim_of m c.args.w c.args.v)) (sym c.self.view_is)
    ∙ granted_wants (seen b.vertices b.start.rows b.workers b.history.list) (Claim c.args.w c.args.v)
    (claim_grant b.vertices.build (state_in b.vertices b.workers) c.args.w c.args.v) _ c.in_ok-begun.ensures.gives

-- ---- a claim that is granted

pub set-requires-clause-low : goal.set-requires-clause-low
set-requires-clause-low c =
    let b = c.self.inside in
    let a = c.in_ok-begun.ensures.at in
    let e = c.in-Ok.ensures in
    let new = c.start.new.self in
    let grants = granted_at b.vertices b.workers new c.args.w c.args.v c.in_ok-begun.begun.job.worker c.in_ok-begun.begun.job.vertex _ a.0 a.1 e.grants in
    low b.vertices b.start.rows b.workers new b.history.list b.history.space c.args.w c.args.v c.steps.result (Claimed c.in_ok-begun.begun.job)
    c.self.invariant grants c.steps.ensures.all

pub set-requires-clause-whole : goal.set-requires-clause-whole
set-requires-clause-whole c = runs_whole (slice_get c.self.inside.vertices.build.graph.vertices c.args.v) c.args.w

pub record-requires : goal.record-requires
record-requires c =
    let b = c.self.inside in
    let a = c.in_ok-begun.ensures.at in
    let e = c.in-Ok.ensures in
    let new = c.start.new.self in
    let grants = granted_at b.vertices b.workers new c.args.w c.args.v c.in_ok-begun.begun.job.worker c.in_ok-begun.begun.job.vertex _ a.0 a.1 e.grants in
    rw (c.in_ok-reserve.ensures.list, c.in_ok-reserve.ensures.ok)
    (room b.vertices b.start.rows b.workers new b.history.list b.history.space c.args.w c.args.v c.steps.result (Claimed c.in_ok-begun.begun.job)
    c.self.invariant grants c.steps.ensures.all)

pub invariant_of-self-2 : goal.invariant_of-self-2
invariant_of-self-2 c =
    let b = c.self.inside in
    let a = c.in_ok-begun.ensures.at in
    let e = c.in-Ok.ensures in
    let new = c.start.new.self in
    let grants = granted_at b.vertices b.workers new c.args.w c.args.v c.in_ok-begun.begun.job.worker c.in_ok-begun.begun.job.vertex _ a.0 a.1 e.grants in
    let rows = rows_at b.vertices b.workers new c.args.w c.args.v c.in_ok-begun.begun.job.worker c.in_ok-begun.begun.job.vertex a.0 a.1 e.rows in
    rw (c.record.ensures.list, c.record.ensures.space, c.in_ok-reserve.ensures.list, c.in_ok-reserve.ensures.ok, c.set.ensures)
    (keeps b.vertices b.start.rows b.workers new b.history.list b.history.space c.args.w c.args.v c.steps.result (Claimed c.in_ok-begun.begun.job)
    c.self.invariant grants c.steps.ensures.all e.count rows (e.fits c.self.invariant.fits))

pub returns-clause-gives : goal.returns-clause-gives
returns-clause-gives c =
    let b = c.self.inside in
    let a = c.in_ok-begun.ensures.at in
    let e = c.in-Ok.ensures in
    let new = c.start.new.self in
    let grants = granted_at b.vertices b.workers new c.args.w c.args.v c.in_ok-begun.begun.job.worker c.in_ok-begun.begun.job.vertex _ a.0 a.1 e.grants in
    let rows = rows_at b.vertices b.workers new c.args.w c.args.v c.in_ok-begun.begun.job.worker c.in_ok-begun.begun.job.vertex a.0 a.1 e.rows in
    ap (λ (m : BoardValue). claim_of m c.args.w c.args.v) (sym c.self.view_is)
    ∙ recorded_as b.vertices _ b.start.rows b.workers new b.history.list (Claim c.args.w c.args.v) _ (Claimed c.in_ok-begun.begun.job)
    grants e.count rows
    ∙ (λ i. Ok (
      seen (sym c.set.ensures i) b.start.rows new (sym (c.record.ensures.list ∙ ap (λ es. es ++ Claim c.args.w c.args.v ∷ [])
          c.in_ok-reserve.ensures.list) i),
      Claimed (sym e.job i),
    ))

-- if memory for the lease is refused, the board is as it was
pub invariant_of-self-in_default : goal.invariant_of-self-in_default
invariant_of-self-in_default c =
    let b = c.self.inside in
    rw (c.release.ensures.list, c.release.ensures.space, c.in_ok-reserve.ensures.list, c.in_ok-reserve.ensures.ok, c.in_default.ensures.err)
    (rw (released c.args.v (c.steps.result + 2) b.history.space) c.self.invariant)
