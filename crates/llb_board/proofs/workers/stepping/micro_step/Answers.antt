use Rattle.std.proofs.Common.{◌≡◌, ◌∙◌, Option, Some, None, length, refl, ap, sym, arith}
use Rattle.std.specs.Prelude.{is_some, false}
use Rattle.llb_model.specs.Table.{HasStepped}
use Rattle.llb_model.specs.Caches.{trees_at}
use Rattle.llb_model.specs.TwoCacheModels.{store_of}
use Rattle.llb_execution.specs.ModelValues.{left_with, step_in}
use Rattle.llb_board.specs.OptionalLeases.{leased_places}
use Rattle.llb_board.specs.WorkerModelValues.{execution_of}
use Rattle.llb_board.proofs.MicroSteps.{step_at, step_last, skipped_to, stepped_by, shown_apart, shown_within, few_places, few_done}
use Rattle.llb_board.proofs.MicroStepsOnLeases.{held_within, places_are, trees_count}
use Rattle.llb_board.proofs.workers.stepping.micro_step.Goals as goal

none_of : {A : Type 0} (o : Option A) → is_some o ≡ false → o ≡ None
none_of None is = refl
none_of (Some x) is = absurd cc

pub returns-then-skips-clause-gives : goal.returns-then-skips-clause-gives
returns-then-skips-clause-gives c =
    let b = c.args.vertices.now.build in
    let rows = c.args.caches.now.rows in
    let x = execution_of c.args.execution.now in
    let m = step_in c.in-Some.next in
    let clean = none_of x.fault (sym c.is_some.ensures ∙ c.if-is_some.false) in
    let within = held_within rows c.args.caches.now.out (Some c.args.lease) x.places c.is_exclusive.ensures.there c.requires.leased in
    skipped_to b rows x m clean
    (step_at b c.args.execution.now c.requires.supplies (step_in c.in-Some.next) c.in-Some.ensures)
    (sym c.skips.ensures ∙ c.if-skips.true) within

pub returns-in_err-trees-clause-last : goal.returns-in_err-trees-clause-last
returns-in_err-trees-clause-last c =
    let b = c.args.vertices.now.build in
    let rows = c.args.caches.now.rows in
    let x = execution_of c.args.execution.now in
    let m = step_in c.in-Some.next in
    let clean = none_of x.fault (sym c.is_some.ensures ∙ c.if-is_some.false) in
    step_last b rows x m clean
    (step_at b c.args.execution.now c.requires.supplies (step_in c.in-Some.next) c.in-Some.ensures) c.from_residual.result

pub step-requires-clause-apart : goal.step-requires-clause-apart
step-requires-clause-apart c =
    let b = c.args.vertices.now.build in
    let x = c.args.execution.now in
    shown_apart b x c.requires.supplies

pub step-requires-clause-within : goal.step-requires-clause-within
step-requires-clause-within c =
    let b = c.args.vertices.now.build in
    let x = c.args.execution.now in
    shown_within b x c.requires.supplies

pub returns-in_err-fault-clause-last : goal.returns-in_err-fault-clause-last
returns-in_err-fault-clause-last c =
    let b = c.args.vertices.now.build in
    let rows = c.args.caches.now.rows in
    let x = execution_of c.args.execution.now in
    let m = step_in c.in-Some.next in
    let clean = none_of x.fault (sym c.is_some.ensures ∙ c.if-is_some.false) in
    step_last b rows x m clean
    (step_at b c.args.execution.now c.requires.supplies (step_in c.in-Some.next) c.in-Some.ensures) c.from_residual-in_err-fault.result

pub overflow_add-execution-2 : goal.overflow_add-execution-2
overflow_add-execution-2 c =
    let b = c.args.vertices.now.build in
    let x = c.args.execution.now in
    let few = few_done b x c.requires.supplies (step_in c.in-Some.next)
    (step_at b c.args.execution.now c.requires.supplies (step_in c.in-Some.next) c.in-Some.ensures)
    c.vertex.ensures.few in
    omega (arith, few)

pub write_back-requires-clause-few : goal.write_back-requires-clause-few
write_back-requires-clause-few c =
    let b = c.args.vertices.now.build in
    let x = c.args.execution.now in
    let few = few_places b x c.requires.supplies c.vertex.ensures.graph in
    let read = trees_count (store_of c.args.caches.now.rows) c.deref.result.now c.in_ok-trees.trees.items c.in_ok-trees.ensures in
    omega (arith, few, read, ap length c.deref.ensures.value, c.in_ok-fault.ensures.count)

pub returns-clause-gives : goal.returns-clause-gives
returns-clause-gives c =
    let b = c.args.vertices.now.build in
    let rows = c.args.caches.now.rows in
    let x = execution_of c.args.execution.now in
    let m = step_in c.in-Some.next in
    let clean = none_of x.fault (sym c.is_some.ensures ∙ c.if-is_some.false) in
    let left = left_with c.step.new.self c.step.new.trees.items c.in_ok-fault.fault in
    stepped_by b rows x m clean
    (step_at b c.args.execution.now c.requires.supplies (step_in c.in-Some.next) c.in-Some.ensures)
    c.in_ok-trees.trees.items left (HasStepped c.told.result) c.write_back.new.caches.rows (leased_places c.args.caches.now.out c.args.lease)
    (c.in_ok-trees.ensures ∙ ap (trees_at (store_of rows)) c.deref.ensures.value) c.in_ok-fault.ensures.left
    (c.told.ensures x.own left (sym c.skips.ensures ∙ c.if-skips.false) (sym c.last.ensures) refl) c.write_back.ensures.rows
    (places_are c.args.caches.now.out c.args.lease x.places c.requires.leased)
