use Rattle.std.proofs.Common.{◌≡◌, ◌∙◌, Option, Some, sym, ap, subst}
use Rattle.std.specs.List.{list_any}
use Rattle.std.specs.Prelude.{slice_get}
use Rattle.llb_model.specs.Caches.{Instance}
use Rattle.llb_model.specs.State.{WorkerStatus, places_at}
use Rattle.llb_board.specs.Jobs.{is_shared, has_shared}
use Rattle.llb_board.specs.BoardValue.{BoardValue, seen}
use Rattle.llb_board.specs.Landing.{RunsAlone, RunsShared}
use Rattle.llb_board.proofs.WorkerSearch.{runs_at}
use Rattle.llb_board.proofs.LandedBoards.{runs_vertex, on_false}
use Rattle.llb_board.proofs.board.Board.can_land.Goals as goal

pub is_run_of-requires : goal.is_run_of-requires
is_run_of-requires c =
    let b = c.self.inside in
    record {
      there = runs_vertex (seen b.vertices b.start.rows b.workers b.history.list) c.self.invariant.replays c.args.w;
      fits = c.self.invariant.fits;
    }

pub returns-then-has_shared-clause-err : goal.returns-then-has_shared-clause-err
returns-then-has_shared-clause-err c =
    let b = c.self.inside in
    let r = runs_at b.vertices.build (slice_get b.workers.workers c.args.w) c.in-Some-Runs.field-0-0 c.in-Some-Runs.field-0-1 c.in-Some-Runs.field-0-2
    (sym c.look.ensures.looks ∙ c.in-Some-Runs.is ∙ ap (λ a. Some a) c.in-Some-Runs.field-0-is) in
    let x = r.0 in
    let held : has_shared x ≡ c.has_shared.result
    = ap (λ (o : Option WorkerStatus). list_any (λ (p : Instance). is_shared p.key.mode) (places_at o)) (sym r.1)
    ∙ ap (list_any (λ (p : Instance). is_shared p.key.mode)) (sym c.places.ensures) ∙ sym c.has_shared.ensures in
    subst (λ (m : BoardValue). RunsShared m c.args.w) c.self.view_is (record { x = x; runs = r.1; shared = held ∙ c.if-has_shared.true })

pub returns-then-not-is_run_of-clause-err : goal.returns-then-not-is_run_of-clause-err
returns-then-not-is_run_of-clause-err c =
    let b = c.self.inside in
    let r = runs_at b.vertices.build (slice_get b.workers.workers c.args.w) c.in-Some-Runs.field-0-0 c.in-Some-Runs.field-0-1 c.in-Some-Runs.field-0-2
    (sym c.look.ensures.looks ∙ c.in-Some-Runs.is ∙ ap (λ a. Some a) c.in-Some-Runs.field-0-is) in
    let x = r.0 in
    let held : has_shared x ≡ c.has_shared.result
    = ap (λ (o : Option WorkerStatus). list_any (λ (p : Instance). is_shared p.key.mode) (places_at o)) (sym r.1)
    ∙ ap (list_any (λ (p : Instance). is_shared p.key.mode)) (sym c.places.ensures) ∙ sym c.has_shared.ensures in
    subst (λ (m : BoardValue). RunsAlone m c.args.w c.args.job.now) c.self.view_is (record {
      x = x;
      runs = r.1;
      alone = held ∙ c.if-has_shared.false;
      other = λ is. on_false c.is_run_of.result _ c.is_run_of.ensures.no c.if-not-is_run_of.true (record { x = x; runs = r.1; own = is });
    })
