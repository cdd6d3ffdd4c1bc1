use Rattle.std.proofs.Common.{◌≡◌, ◌∙◌, Some, None, sym, ap, subst}
use Rattle.std.specs.Prelude.{slice_set, option_map}
use Rattle.llb_loader.specs.Graph.{IsGraph}
use Rattle.llb_board.specs.WorkersKeptForUndo.{change_in, change_of}
use Rattle.llb_board.specs.Vertices.{status_of}
use Rattle.llb_board.specs.BoardValue.{BoardValue, seen}
use Rattle.llb_board.specs.UndoableEvents.{CanUndo}
use Rattle.llb_board.proofs.UndoCorrectness.{can_put_back, changed, unchanged, change_whole, change_low, ends_with, space_changed, space_unchanged}
use Rattle.llb_board.proofs.UndoCorrectness.{Leaves, undo_keeps}
use Rattle.llb_board.proofs.board.Board.undo.Goals as goal

pub put_back-requires : goal.put_back-requires
put_back-requires c =
    let b = c.self.inside in
    let can : CanUndo c.args.undo (seen b.vertices b.start.rows b.workers b.history.list)
    = subst (λ (m : BoardValue). CanUndo c.args.undo m) (sym c.self.view_is) c.requires in
    can_put_back b.vertices b.start.rows b.workers b.history.list c.args.undo
    (subst (λ (m : BoardValue). IsGraph m.build.graph) (sym c.self.view_is) c.is_graph.ensures) c.self.invariant.replays can

pub set-requires-clause-low : goal.set-requires-clause-low
set-requires-clause-low c =
    let b = c.self.inside in
    let can : CanUndo c.args.undo (seen b.vertices b.start.rows b.workers b.history.list)
    = subst (λ (m : BoardValue). CanUndo c.args.undo m) (sym c.self.view_is) c.requires in
    let is : Some (c.in-Some.change.vertex, status_of c.in-Some.change.stage) ≡ change_in c.args.undo.back
    = ap (option_map change_of) (sym c.in-Some.is) ∙ c.put_back.ensures.change in
    change_low (seen b.vertices b.start.rows b.workers b.history.list) c.args.undo.back c.in-Some.change.vertex
    (status_of c.in-Some.change.stage) can is

pub set-requires-clause-whole : goal.set-requires-clause-whole
set-requires-clause-whole c =
    let is : Some (c.in-Some.change.vertex, status_of c.in-Some.change.stage) ≡ change_in c.args.undo.back
    = ap (option_map change_of) (sym c.in-Some.is) ∙ c.put_back.ensures.change in
    change_whole c.args.undo.back _ c.in-Some.change.vertex (status_of c.in-Some.change.stage) is

pub invariant_of-self : goal.invariant_of-self
invariant_of-self c =
    let b = c.self.inside in
    let n = seen b.vertices b.start.rows b.workers b.history.list in
    let u = c.args.undo in
    let can : CanUndo u n = subst (λ (m : BoardValue). CanUndo u m) (sym c.self.view_is) c.requires in
    let ends = ends_with n b.workers b.history.space u c.self.invariant can in
    let new = c.put_back.new.self in
    let e = c.put_back.ensures in
    let v = c.in-Some.change.vertex in
    let s = status_of c.in-Some.change.stage in
    let is : Some (v, s) ≡ change_in u.back = ap (option_map change_of) (sym c.in-Some.is) ∙ e.change in
    let leaves : Leaves b.vertices b.workers new (slice_set b.vertices.statuses v s) u
    = record { statuses = sym (changed u.back b.vertices.statuses v s is); workers = e.workers; rows = e.rows; supplies = e.supplies } in
    let before = space_changed n b.history.space u.back v c.steps.result s c.self.invariant.replays ends can is
    (rw c.set.ensures at c.steps.ensures.all) in
    rw (c.take_back.ensures.list, c.take_back.ensures.space, c.set.ensures)
    (undo_keeps b.vertices b.start.rows b.workers new b.history.list b.history.space _ (slice_set b.vertices.statuses v s) u c.self.invariant can ends before
    leaves)

pub invariant_of-self-in-None : goal.invariant_of-self-in-None
invariant_of-self-in-None c =
    let b = c.self.inside in
    let n = seen b.vertices b.start.rows b.workers b.history.list in
    let u = c.args.undo in
    let can : CanUndo u n = subst (λ (m : BoardValue). CanUndo u m) (sym c.self.view_is) c.requires in
    let ends = ends_with n b.workers b.history.space u c.self.invariant can in
    let new = c.put_back.new.self in
    let e = c.put_back.ensures in
    let is : None ≡ change_in u.back = ap (option_map change_of) (sym c.in-None.is) ∙ e.change in
    let leaves : Leaves b.vertices b.workers new b.vertices.statuses u
    = record { statuses = sym (unchanged u.back b.vertices.statuses is); workers = e.workers; rows = e.rows; supplies = e.supplies } in
    let before = space_unchanged n b.history.space u.back 0 0 ends can is in
    rw (c.take_back-in-None.ensures.list, c.take_back-in-None.ensures.space)
    (undo_keeps b.vertices b.start.rows b.workers new b.history.list b.history.space _ b.vertices.statuses u c.self.invariant can ends before leaves)
