use Rattle.std.proofs.Common.{◌≡◌, ◌<◌, ◌+◌, ◌^◌, ◌∙◌, ℕ, List, length, get_or, map, sym, ap, subst, arith, rules, vec_len}
use Rattle.std.specs.Prelude.{All, Some, slice_get, slice_set}
use Rattle.std.specs.Vec.{with_items}
use Rattle.std.proofs.lemmas.List.{with_items_is}
use Rattle.std.proofs.lemmas.Option.{slice_get-get_or}
use Rattle.llb_model.specs.Program.{Build}
use Rattle.llb_model.specs.State.{Status, ending_of, is_done, stopped}
use Rattle.llb_model.proofs.StoppedVertices.{stopped_length}
use Rattle.llb_board.specs.UsersAndOpenInputs.{Linked, IsLinked, users_at}
use Rattle.llb_board.specs.Vertices.{VerticesValue, AreCounted, AreOver, IsWhole, TellsInputs, status_of, done_in, with_status}
use Rattle.llb_board.specs.declared.vertices.vertex_state.Stage.{Stage}
use Rattle.llb_board.proofs.UsersOverStatuses.{low_user, users_counted, counts_fit}
use Rattle.llb_board.proofs.DerivedVertexData.{before_is, whole_after, over_after, linked_after, in_step_after, low_vertex, tells_in}
use Rattle.llb_board.proofs.Lists.{map_set}
use Rattle.llb_model.proofs.Lists.{length_map}
use Rattle.llb_board.proofs.vertices.Vertices.set.Goals as goal
use Rattle.llb_board.proofs.vertices.Vertices.set.Goals.{After-replace-had, After-mark, After-count}

pub index_mut-requires : goal.index_mut-requires
index_mut-requires c =
    let b = c.self.inside in
    let len : vec_len b.stages ≡ length b.stages.items = search rules in
    let many = length_map status_of b.stages.items in
    let same = ap (λ (n : VerticesValue). length n.statuses) c.self.view_is in
    omega (arith, c.requires.low, len, many, same)

-- there is a state for the vertex
low : (c : After-replace-had) → c.args.v < length c.self.inside.stages.items
low c =
    let many = length_map status_of c.self.inside.stages.items in
    let same = ap (λ (n : VerticesValue). length n.statuses) c.self.view_is in
    omega (arith, c.requires.low, many, same)

-- the new state is whole
whole : (c : After-replace-had) → IsWhole (slice_get c.self.inside.build.graph.vertices c.args.v) (status_of c.replace-had.new.dest)
whole c =
    subst (λ (s : Stage). IsWhole (slice_get c.self.inside.build.graph.vertices c.args.v) (status_of s)) (sym c.replace-had.ensures.after)
    (subst (λ (n : VerticesValue). IsWhole (slice_get n.build.graph.vertices c.args.v) (status_of c.args.stage)) (sym c.self.view_is) c.requires.whole)

was : (c : After-replace-had) → slice_get c.self.inside.stages.items c.args.v ≡ Some c.replace-had.result
was c =
    slice_get-get_or c.self.inside.stages.items c.args.v c.index_mut.result.now (low c)
    ∙ ap (λ s. Some s) (sym (c.replace-had.ensures.value ∙ c.index_mut.ensures.value))

-- with the former state put back, the statuses are the former ones
before : (c : After-replace-had)
    → slice_set (map status_of (slice_set c.self.inside.stages.items c.args.v c.replace-had.new.dest)) c.args.v (status_of c.replace-had.result)
    ≡ map status_of c.self.inside.stages.items
before c =
    let b = c.self.inside in
    before_is b.build b.stages.items c.args.v c.replace-had.new.dest b.stop_marks.items b.links b.first_open c.self.invariant (low c) (whole c)
    c.replace-had.result (was c)

there : (c : After-replace-had) → c.args.v < length c.self.inside.build.graph.vertices
there c =
    let b = c.self.inside in
    low_vertex b.build b.stages.items c.args.v c.replace-had.new.dest b.stop_marks.items b.links b.first_open c.self.invariant (low c) (whole c)

pub mark-requires-clause-marks : goal.mark-requires-clause-marks
mark-requires-clause-marks c =
    let p = (goal.at.mark-requires-clause-marks c).After-replace-had in
    let b = c.self.inside in
    c.deref_mut.ensures.value ∙ c.self.invariant.marks ∙ ap (stopped b.build) (sym (before p))
    ∙ ap (λ ss. stopped b.build (slice_set (map status_of ss) c.args.v (status_of c.replace-had.result))) (sym c.deref.ensures.value)

-- the links of the former statuses
linked : (c : After-replace-had)
    → IsLinked c.self.inside.build.graph.vertices
    (done_in (slice_set (map status_of (slice_set c.self.inside.stages.items c.args.v c.replace-had.new.dest)) c.args.v (status_of c.replace-had.result)))
    c.self.inside.links
linked c =
    let b = c.self.inside in subst (λ S. IsLinked b.build.graph.vertices (done_in S) b.links) (sym (before c)) c.self.invariant.linked

pub mark-requires-clause-linked : goal.mark-requires-clause-linked
mark-requires-clause-linked c =
    let p = (goal.at.mark-requires-clause-linked c).After-replace-had in
    let b = c.self.inside in
    subst (λ ss. IsLinked b.build.graph.vertices (done_in (slice_set (map status_of ss) c.args.v (status_of c.replace-had.result))) b.links)
    (sym c.deref.ensures.value) (linked p)

pub count-requires-clause-low : goal.count-requires-clause-low
count-requires-clause-low c =
    let p = (goal.at.count-requires-clause-low c).After-replace-had in
    let b = c.self.inside in
    subst (λ (l : Linked). c.args.v < length l.users) (sym c.mark.ensures.links)
    (low_user b.build.graph.vertices (done_in (map status_of b.stages.items)) b.links c.self.invariant.linked c.args.v (there p))

pub count-requires-clause-below : goal.count-requires-clause-below
count-requires-clause-below c =
    let p = (goal.at.count-requires-clause-below c).After-replace-had in
    let b = c.self.inside in
    subst (λ (l : Linked). All (λ x. x < length l.counts) (users_at l c.args.v)) (sym c.mark.ensures.links)
    (users_counted b.build.graph.vertices (done_in (map status_of b.stages.items)) b.links c.self.invariant.linked c.args.v (there p))

pub count-requires-clause-few : goal.count-requires-clause-few
count-requires-clause-few c =
    let p = (goal.at.count-requires-clause-few c).After-replace-had in
    let b = c.self.inside in
    subst (λ (l : Linked). (x : ℕ) → get_or l.counts x 0 + length (users_at l c.args.v) < 2 ^ 32) (sym c.mark.ensures.links)
    (counts_fit b.build.graph.vertices (done_in (map status_of b.stages.items)) b.links c.self.invariant.linked c.args.v (there p) c.self.invariant.graph.few)

-- the users of the vertex are counted anew
users : (c : After-count) → c.count.new.links.users ≡ c.self.inside.links.users
users c = rw c.mark.ensures.links at c.count.ensures.users

counts : (c : After-count)
    → AreCounted (is_done (ending_of (Some (status_of c.replace-had.result)))) (is_done (ending_of (Some (status_of c.replace-had.new.dest))))
    (users_at c.self.inside.links c.args.v) c.self.inside.links.counts c.count.new.links.counts
counts c =
    subst (λ (l : Linked). AreCounted (is_done (ending_of (Some (status_of c.replace-had.result))))
    (is_done (ending_of (Some (status_of c.replace-had.new.dest)))) (users_at l c.args.v) l.counts c.count.new.links.counts) c.mark.ensures.links
    (subst (λ t. AreCounted (is_done (ending_of (Some (status_of c.replace-had.result)))) t (users_at c.mark.new.links c.args.v) c.mark.new.links.counts
    c.count.new.links.counts)
    (c.is_done-is_done.ensures ∙ ap (λ (s : Stage). is_done (ending_of (Some (status_of s)))) (sym c.replace-had.ensures.after))
    (subst (λ t. AreCounted t c.is_done-is_done.result (users_at c.mark.new.links c.args.v) c.mark.new.links.counts c.count.new.links.counts)
    c.is_done.ensures c.count.ensures.counts))

pub first_open-self-inside-requires-clause-tells : goal.first_open-self-inside-requires-clause-tells
first_open-self-inside-requires-clause-tells c =
    let at = goal.at.first_open-self-inside-requires-clause-tells c in
    let p = at.After-replace-had in
    let b = c.self.inside in
    let s = c.replace-had.new.dest in
    subst (λ ss. TellsInputs b.build (map status_of ss) c.count.new.links) (sym c.deref-2.ensures.value)
    (tells_in b.build (map status_of (slice_set b.stages.items c.args.v s)) c.count.new.links c.self.invariant.graph
    (whole_after b.build b.stages.items c.args.v s b.stop_marks.items b.links b.first_open c.self.invariant (low p) (whole p))
    (linked_after b.build b.stages.items c.args.v s b.stop_marks.items b.links b.first_open c.self.invariant (low p) (whole p)
    c.replace-had.result (was p) c.count.new.links (users at.After-count) (counts at.After-count)))

pub first_open-self-inside-requires-clause-over : goal.first_open-self-inside-requires-clause-over
first_open-self-inside-requires-clause-over c =
    let p = (goal.at.first_open-self-inside-requires-clause-over c).After-replace-had in
    let b = c.self.inside in
    subst (λ ss. AreOver b.build (map status_of ss) c.min.result) (sym c.deref-2.ensures.value)
    (over_after b.build b.stages.items c.args.v c.replace-had.new.dest b.stop_marks.items b.links b.first_open c.self.invariant (low p) (whole p)
    c.min.result (omega (arith, c.min.ensures)) (omega (arith, c.min.ensures)))

-- the marks are those of the new statuses
marks : (c : After-mark)
    → c.mark.new.stop_marks ≡ stopped c.self.inside.build (map status_of (slice_set c.self.inside.stages.items c.args.v c.replace-had.new.dest))
marks c = c.mark.ensures.marks ∙ ap (λ ss. stopped c.self.inside.build (map status_of ss)) c.deref.ensures.value

written : (c : After-mark) → (with_items c.self.inside.stop_marks c.mark.new.stop_marks).items ≡ c.mark.new.stop_marks
written c =
    let b = c.self.inside in
    let len : vec_len b.stop_marks ≡ length b.stop_marks.items = search rules in
    with_items_is b.stop_marks c.mark.new.stop_marks
    (ap length (marks c) ∙ stopped_length b.build (map status_of (slice_set b.stages.items c.args.v c.replace-had.new.dest))
    ∙ sym (stopped_length b.build (map status_of b.stages.items)) ∙ ap length (sym c.self.invariant.marks) ∙ sym len)

pub invariant_of-self : goal.invariant_of-self
invariant_of-self c =
    let at = goal.at.invariant_of-self c in
    let p = at.After-replace-had in
    let b = c.self.inside in
    let s = c.replace-had.new.dest in
    in_step_after b.build b.stages.items c.args.v s b.stop_marks.items b.links b.first_open c.self.invariant (low p) (whole p)
    (with_items b.stop_marks c.mark.new.stop_marks).items c.count.new.links c.first_open-self-inside.result (written at.After-mark ∙ marks at.After-mark)
    (linked_after b.build b.stages.items c.args.v s b.stop_marks.items b.links b.first_open c.self.invariant (low p) (whole p)
    c.replace-had.result (was p) c.count.new.links (users at.After-count) (counts at.After-count))
    (subst (λ ss. AreOver b.build (map status_of ss) c.first_open-self-inside.result) c.deref-2.ensures.value c.first_open-self-inside.ensures)

with_statuses : Build → List Status → VerticesValue
with_statuses b S = record { build = b; statuses = S }

pub returns : goal.returns
unfolding with_statuses
returns c =
    let b = c.self.inside in
    ap (with_statuses b.build)
    (map_set status_of b.stages.items c.args.v c.replace-had.new.dest
    ∙ ap (λ s. slice_set (map status_of b.stages.items) c.args.v (status_of s)) c.replace-had.ensures.after)
    ∙ ap (with_status c.args.v (status_of c.args.stage)) c.self.view_is
