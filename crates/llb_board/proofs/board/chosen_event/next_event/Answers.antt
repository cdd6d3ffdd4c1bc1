use Rattle.std.proofs.Common.{◌≡◌, ◌∙◌, Some, true, false, sym, ap, rules}
use Rattle.std.specs.Prelude.{slice_get, if◌then◌else◌}
use Rattle.llb_events.specs.declared.event.Event.TheVariants.{Step, Settle}
use Rattle.llb_board.proofs.WorkerSearch.{runs_at, idle_at, none_at, next_idle, next_runs, next_none}
use Rattle.llb_board.proofs.board.chosen_event.next_event.Goals as goal

pub returns-in-None : goal.returns-in-None
returns-in-None c =
    let b = c.args.vertices.now.build in
    let ws = c.args.workers.now.workers in
    next_none b ws c.loop-w.w c.loop-w.invariant.so_far
    (none_at b (slice_get ws c.loop-w.w) (sym c.look-in-loop-w.ensures.looks ∙ c.in-None.is))

pub returns-in-Some-Runs-default-default-true : goal.returns-in-Some-Runs-default-default-true
returns-in-Some-Runs-default-default-true c =
    let b = c.args.vertices.now.build in
    let ws = c.args.workers.now.workers in
    let r = runs_at b (slice_get ws c.loop-w.w) c.in-Some-Runs-default-default-true.field-0-0 c.in-Some-Runs-default-default-true.field-0-1
    c.in-Some-Runs-default-default-true.field-0-2
    (sym c.look-in-loop-w.ensures.looks ∙ c.in-Some-Runs-default-default-true.is ∙ ap (λ a. Some a) c.in-Some-Runs-default-default-true.field-0-is) in
    let is : c.in-Some-Runs-default-default-true.field-0-2 ≡ true = search rules in
    sym (next_runs b ws c.loop-w.w r.0 c.loop-w.invariant.so_far r.1 ∙ ap (λ f. Some (if f then Settle c.loop-w.w else Step c.loop-w.w)) (r.2 ∙ is))

pub returns-in-Some-Runs-default-default-false : goal.returns-in-Some-Runs-default-default-false
returns-in-Some-Runs-default-default-false c =
    let b = c.args.vertices.now.build in
    let ws = c.args.workers.now.workers in
    let r = runs_at b (slice_get ws c.loop-w.w) c.in-Some-Runs-default-default-false.field-0-0 c.in-Some-Runs-default-default-false.field-0-1
    c.in-Some-Runs-default-default-false.field-0-2
    (sym c.look-in-loop-w.ensures.looks ∙ c.in-Some-Runs-default-default-false.is ∙ ap (λ a. Some a) c.in-Some-Runs-default-default-false.field-0-is) in
    let is : c.in-Some-Runs-default-default-false.field-0-2 ≡ false = search rules in
    sym (next_runs b ws c.loop-w.w r.0 c.loop-w.invariant.so_far r.1 ∙ ap (λ f. Some (if f then Settle c.loop-w.w else Step c.loop-w.w)) (r.2 ∙ is))

pub loop-w-preserved : goal.loop-w-preserved
loop-w-preserved c =
    let b = c.args.vertices.now.build in
    let ws = c.args.workers.now.workers in
    let idle = idle_at b (slice_get ws c.loop-w.w)
    (sym c.look-in-loop-w.ensures.looks ∙ c.in-Some-Idle.is ∙ ap (λ a. Some a) c.in-Some-Idle.field-0-is) in
    record { so_far = next_idle b ws c.loop-w.w c.loop-w.invariant.so_far idle; few = c.loop-w.invariant.few }
