use Rattle.std.proofs.Common.{◌≡◌, ◌<◌, List, map, length, sym, ap, subst, ◌∙◌, arith}
use Rattle.std.specs.Prelude.{All, Some, slice_get, slice_set}
use Rattle.llb_model.specs.State.{Status, ending_of, is_failed}
use Rattle.llb_model.proofs.Lists.{get_within, length_map}
use Rattle.llb_model.proofs.StoppedVertices.{stopped_length}
use Rattle.llb_board.specs.Vertices.{status_of, done_in}
use Rattle.llb_board.proofs.UsersOverStatuses.{all_counted}
use Rattle.llb_board.proofs.DerivedVertexData.{marks_as, marks_spread}
use Rattle.llb_board.proofs.vertices.failed_and_downstream.mark.Goals as goal
use Rattle.llb_board.proofs.vertices.failed_and_downstream.mark.Goals.{After-has_failed}

-- the statuses before
before : (c : After-has_failed) → List Status
before c = slice_set (map status_of c.args.stages.now) c.args.v (status_of c.args.had.now)

-- there is a mark for each vertex
count : (c : After-has_failed) → length c.args.stop_marks.now ≡ length c.args.build.now.graph.vertices
count c = ap length c.requires.marks ∙ stopped_length c.args.build.now (slice_set (map status_of c.args.stages.now) c.args.v (status_of c.args.had.now))

-- the vertex has a status now
now : (c : After-has_failed) → (x : Status) × (slice_get (map status_of c.args.stages.now) c.args.v ≡ Some x)
now c = get_within (map status_of c.args.stages.now) c.args.v (omega (arith, c.requires.low, length_map status_of c.args.stages.now))

pub mark_stopped-requires : goal.mark_stopped-requires
mark_stopped-requires c = count (goal.at.mark_stopped-requires c).After-has_failed ∙ ap length (sym c.vertices.ensures.all)

pub spread-requires-clause-count : goal.spread-requires-clause-count
spread-requires-clause-count c =
    let marks = count (goal.at.spread-requires-clause-count c).After-has_failed in
    (c.requires.linked.same_users ∙ sym marks, c.requires.linked.same_counts ∙ sym marks)

pub spread-requires-clause-low : goal.spread-requires-clause-low
spread-requires-clause-low c =
    let marks = count (goal.at.spread-requires-clause-low c).After-has_failed in omega (arith, c.requires.low, c.requires.count, marks)

pub spread-requires-clause-below : goal.spread-requires-clause-below
spread-requires-clause-below c =
    let b = c.args.build.now in
    subst (λ n. All (λ us. All (λ x. x < n) us) c.args.links.now.users) (sym (count (goal.at.spread-requires-clause-below c).After-has_failed))
    (all_counted b.graph.vertices (done_in (slice_set (map status_of c.args.stages.now) c.args.v (status_of c.args.had.now))) c.args.links.now
    c.requires.linked)

pub returns-then-has_failed-2-clause-marks : goal.returns-then-has_failed-2-clause-marks
returns-then-has_failed-2-clause-marks c =
    let p = (goal.at.returns-then-has_failed-2-clause-marks c).After-has_failed in
    let b = c.args.build.now in
    marks_spread b (map status_of c.args.stages.now) c.args.v (status_of c.args.had.now) (now p).0 c.args.links.now c.args.stop_marks.now c.spread.new.marks
    c.requires.graph (now p).1 (omega (arith, c.requires.low, c.requires.count)) (sym c.has_failed.ensures ∙ c.if-has_failed.false)
    (ap (λ o. is_failed (ending_of o)) (sym (now p).1) ∙ sym c.has_failed-else-has_failed.ensures ∙ c.if-has_failed-2.true) c.requires.linked c.requires.marks
    c.spread.ensures.marks

pub returns-else-has_failed-2-clause-marks : goal.returns-else-has_failed-2-clause-marks
returns-else-has_failed-2-clause-marks c =
    let p = (goal.at.returns-else-has_failed-2-clause-marks c).After-has_failed in
    c.requires.marks
    ∙ marks_as c.args.build.now (map status_of c.args.stages.now) c.args.v (status_of c.args.had.now) (now p).0 (now p).1
    (sym c.has_failed.ensures ∙ c.if-has_failed.false)
    (ap (λ o. is_failed (ending_of o)) (sym (now p).1) ∙ sym c.has_failed-else-has_failed.ensures ∙ c.if-has_failed-2.false)
