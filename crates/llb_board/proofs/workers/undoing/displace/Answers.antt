use Rattle.std.proofs.Common.{◌≡◌, ◌∙◌, List, length, map, refl, sym, ap, subst, arith, rules, vec_len}
use Rattle.std.specs.Prelude.{slice_set}
use Rattle.std.proofs.lemmas.Option.{slice_get_within}
use Rattle.llb_cache.specs.declared.lease_additions.Growth.{Growth}
use Rattle.llb_cache.specs.Caches.{AreThere}
use Rattle.llb_model.specs.State.{Idle, Runs}
use Rattle.llb_board.specs.OptionalLeases.{taken_back}
use Rattle.llb_board.specs.RunningWorkerSupplies.{ready_made}
use Rattle.llb_board.specs.WorkersKeptForUndo.{Unclaim, Unstep, Resume, back_in, workers_before, supplies_before, rows_before}
use Rattle.llb_board.specs.WorkerUndo.{left_in}
use Rattle.llb_board.specs.WorkerModelValues.{at_of}
use Rattle.llb_board.specs.declared.workers.running_workers.Seat.TheVariants as seat
use Rattle.llb_board.specs.declared.workers.undoing.Back as undo
use Rattle.llb_model.proofs.Lists.{length_map}
use Rattle.llb_board.proofs.RestoredWorkers.{PutsBack, can_by, is_out, still_there, unclaims, as_many, unsteps, lends, resumes}
use Rattle.llb_board.proofs.workers.undoing.displace.Goals as goal
use Rattle.llb_board.proofs.workers.undoing.displace.Goals.{After-take_back, After-write_back, After-lend_again-lease}

-- ---- a claim

pub make_idle-lease-requires : goal.make_idle-lease-requires
make_idle-lease-requires c =
    let ds = c.args.seats.now.items in
    let low = (can_by c.args.seats.now.items c.args.caches.now c.args.back _ c.in-Unclaim.is c.requires.can).behind in
    omega (arith, low, length_map at_of ds)

pub take_back-requires-clause-out : goal.take_back-requires-clause-out
take_back-requires-clause-out c =
    is_out c.args.seats.now.items c.args.caches.now c.requires.crew c.in-Unclaim.w c.make_idle-lease.result c.make_idle-lease.ensures.leased

pub take_back-requires-clause-there : goal.take_back-requires-clause-there
take_back-requires-clause-there c =
    let ds = c.args.seats.now.items in
    let v = c.args.caches.now in
    let l = c.make_idle-lease.result in
    subst (λ (gs : List Growth). AreThere (taken_back v l gs).rows (taken_back v l gs).out) (sym c.deref.ensures.value)
    (still_there ds v c.requires.crew c.in-Unclaim.w c.in-Unclaim.vertex c.in-Unclaim.growths.items
    (can_by c.args.seats.now.items c.args.caches.now c.args.back _ c.in-Unclaim.is c.requires.can) l c.make_idle-lease.ensures.leased)

unclaimed : (c : After-take_back)
    → PutsBack c.args.seats.now.items c.args.caches.now (Unclaim c.in-Unclaim.w c.in-Unclaim.vertex c.in-Unclaim.growths.items)
    c.make_idle-lease.new.seats.items c.take_back.new.caches
unclaimed c =
    let v = c.args.caches.now in
    let l = c.make_idle-lease.result in
    unclaims c.args.seats.now.items v c.requires.crew c.in-Unclaim.w c.in-Unclaim.vertex c.in-Unclaim.growths.items
    (can_by c.args.seats.now.items c.args.caches.now c.args.back _ c.in-Unclaim.is c.requires.can) l
    c.make_idle-lease.ensures.leased c.make_idle-lease.new.seats.items c.take_back.new.caches c.make_idle-lease.ensures.idle
    (c.take_back.ensures ∙ ap (λ (gs : List Growth). taken_back v l gs) c.deref.ensures.value)

pub returns-in-Unclaim-clause-workers : goal.returns-in-Unclaim-clause-workers
returns-in-Unclaim-clause-workers c =
    (unclaimed (goal.at.returns-in-Unclaim-clause-workers c).After-take_back).workers
    ∙ ap (λ (k : undo.Back). workers_before (back_in k) (map at_of c.args.seats.now.items)) (sym c.in-Unclaim.is)

pub returns-in-Unclaim-clause-made : goal.returns-in-Unclaim-clause-made
returns-in-Unclaim-clause-made c =
    (unclaimed (goal.at.returns-in-Unclaim-clause-made c).After-take_back).made
    ∙ ap (λ (k : undo.Back). supplies_before (back_in k) (map ready_made c.args.seats.now.items)) (sym c.in-Unclaim.is)

pub returns-in-Unclaim-clause-rows : goal.returns-in-Unclaim-clause-rows
returns-in-Unclaim-clause-rows c =
    (unclaimed (goal.at.returns-in-Unclaim-clause-rows c).After-take_back).rows
    ∙ ap (λ (k : undo.Back). rows_before (back_in k) (map at_of c.args.seats.now.items) c.args.caches.now.rows) (sym c.in-Unclaim.is)

pub returns-in-Unclaim-clause-crew : goal.returns-in-Unclaim-clause-crew
returns-in-Unclaim-clause-crew c = (unclaimed (goal.at.returns-in-Unclaim-clause-crew c).After-take_back).crew

-- ---- a step

pub step_back-lease-requires : goal.step_back-lease-requires
step_back-lease-requires c =
    let ds = c.args.seats.now.items in
    let can = can_by c.args.seats.now.items c.args.caches.now c.args.back _ c.in-Unstep.is c.requires.can in
    let low = slice_get_within (map at_of ds) c.in-Unstep.w (Runs can.behind.x) can.behind.runs in
    omega (arith, low, length_map at_of ds)

pub write_back-requires-clause-count : goal.write_back-requires-clause-count
write_back-requires-clause-count c =
    as_many c.args.seats.now.items c.args.caches.now c.requires.crew c.in-Unstep.w c.in-Unstep.saved c.in-Unstep.trees.items
    (can_by c.args.seats.now.items c.args.caches.now c.args.back _ c.in-Unstep.is c.requires.can)
    c.step_back-lease.result c.step_back-lease.ensures.leased

pub write_back-requires-clause-few : goal.write_back-requires-clause-few
write_back-requires-clause-few c = (can_by c.args.seats.now.items c.args.caches.now c.args.back _ c.in-Unstep.is c.requires.can).behind.few

unstepped : (c : After-write_back)
    → PutsBack c.args.seats.now.items c.args.caches.now (Unstep c.in-Unstep.w c.in-Unstep.saved c.in-Unstep.trees.items)
    c.step_back-lease.new.seats.items c.write_back.new.caches
unstepped c =
    unsteps c.args.seats.now.items c.args.caches.now c.requires.crew c.in-Unstep.w c.in-Unstep.saved c.in-Unstep.trees.items
    (can_by c.args.seats.now.items c.args.caches.now c.args.back _ c.in-Unstep.is c.requires.can)
    c.step_back-lease.result c.step_back-lease.ensures.leased c.step_back-lease.new.seats.items c.write_back.new.caches c.step_back-lease.ensures.before
    c.write_back.ensures.rows c.write_back.ensures.out

pub returns-in-Unstep-clause-workers : goal.returns-in-Unstep-clause-workers
returns-in-Unstep-clause-workers c =
    (unstepped (goal.at.returns-in-Unstep-clause-workers c).After-write_back).workers
    ∙ ap (λ (k : undo.Back). workers_before (back_in k) (map at_of c.args.seats.now.items)) (sym c.in-Unstep.is)

pub returns-in-Unstep-clause-made : goal.returns-in-Unstep-clause-made
returns-in-Unstep-clause-made c =
    (unstepped (goal.at.returns-in-Unstep-clause-made c).After-write_back).made
    ∙ ap (λ (k : undo.Back). supplies_before (back_in k) (map ready_made c.args.seats.now.items)) (sym c.in-Unstep.is)

pub returns-in-Unstep-clause-rows : goal.returns-in-Unstep-clause-rows
returns-in-Unstep-clause-rows c =
    (unstepped (goal.at.returns-in-Unstep-clause-rows c).After-write_back).rows
    ∙ ap (λ (k : undo.Back). rows_before (back_in k) (map at_of c.args.seats.now.items) c.args.caches.now.rows) (sym c.in-Unstep.is)

pub returns-in-Unstep-clause-crew : goal.returns-in-Unstep-clause-crew
returns-in-Unstep-clause-crew c = (unstepped (goal.at.returns-in-Unstep-clause-crew c).After-write_back).crew

-- ---- a settle or a cancel

pub lend_again-lease-requires : goal.lend_again-lease-requires
lend_again-lease-requires c =
    lends c.args.seats.now.items c.args.caches.now c.requires.crew c.in-Resume.field-0 c.in-Resume.w c.in-Resume.execution c.in-Resume.lent
    (can_by c.args.seats.now.items c.args.caches.now c.args.back _ c.in-Resume.is c.requires.can)

pub index_mut-requires : goal.index_mut-requires
index_mut-requires c =
    let ds = c.args.seats.now.items in
    let low = slice_get_within (map at_of ds) c.in-Resume.w Idle
    (can_by c.args.seats.now.items c.args.caches.now c.args.back _ c.in-Resume.is c.requires.can).behind.idle in
    let len : vec_len c.args.seats.now ≡ length ds = search rules in
    omega (arith, low, len, length_map at_of ds)

resumed : (c : After-lend_again-lease)
    → PutsBack c.args.seats.now.items c.args.caches.now
    (Resume c.in-Resume.field-0 c.in-Resume.w (left_in c.in-Resume.execution) c.in-Resume.lent)
    (slice_set c.args.seats.now.items c.in-Resume.w (seat.Runs c.lend_again-lease.result c.in-Resume.execution)) c.lend_again-lease.new.caches
resumed c =
    resumes c.args.seats.now.items c.args.caches.now c.requires.crew c.in-Resume.field-0 c.in-Resume.w c.in-Resume.execution c.in-Resume.lent
    (can_by c.args.seats.now.items c.args.caches.now c.args.back _ c.in-Resume.is c.requires.can)
    c.lend_again-lease.result _ c.lend_again-lease.new.caches c.lend_again-lease.ensures refl

pub returns-in-Resume-clause-workers : goal.returns-in-Resume-clause-workers
returns-in-Resume-clause-workers c =
    (resumed (goal.at.returns-in-Resume-clause-workers c).After-lend_again-lease).workers
    ∙ ap (λ (k : undo.Back). workers_before (back_in k) (map at_of c.args.seats.now.items)) (sym c.in-Resume.is)

pub returns-in-Resume-clause-made : goal.returns-in-Resume-clause-made
returns-in-Resume-clause-made c =
    (resumed (goal.at.returns-in-Resume-clause-made c).After-lend_again-lease).made
    ∙ ap (λ (k : undo.Back). supplies_before (back_in k) (map ready_made c.args.seats.now.items)) (sym c.in-Resume.is)

pub returns-in-Resume-clause-rows : goal.returns-in-Resume-clause-rows
returns-in-Resume-clause-rows c =
    (resumed (goal.at.returns-in-Resume-clause-rows c).After-lend_again-lease).rows
    ∙ ap (λ (k : undo.Back). rows_before (back_in k) (map at_of c.args.seats.now.items) c.args.caches.now.rows) (sym c.in-Resume.is)

pub returns-in-Resume-clause-crew : goal.returns-in-Resume-clause-crew
returns-in-Resume-clause-crew c = (resumed (goal.at.returns-in-Resume-clause-crew c).After-lend_again-lease).crew
