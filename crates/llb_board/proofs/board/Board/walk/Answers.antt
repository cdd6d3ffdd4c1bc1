use Rattle.std.proofs.Common.{◌≡◌, ◌∙◌, false, sym, ap, subst, rules}
use Rattle.std.specs.Prelude.{Err}
use Rattle.llb_loader.specs.Graph.{IsGraph}
use Rattle.llb_board.specs.WorkersKeptForUndo.{walk_memory}
use Rattle.llb_board.specs.BoardValue.{BoardValue}
use Rattle.llb_board.specs.UndoableEvents.{walk_of}
use Rattle.llb_board.proofs.UndoOfGrantedEvents.{walk_back, walk_can, walk_refused}
use Rattle.llb_board.proofs.board.Board.walk.Goals as goal

pub returns-in_err-undo-clause-gives : goal.returns-in_err-undo-clause-gives
returns-in_err-undo-clause-gives c =
    let b = c.self.inside in
    let e = c.in_err-undo.field-0.0 in
    let refused : walk_memory e ≡ false → walk_of c.args.self.now c.args.event ≡ Err e
    = λ known. ap (λ (m : BoardValue). walk_of m c.args.event) (sym c.self.view_is)
    ∙ walk_refused b.vertices b.start.rows b.workers b.history.list c.args.event e (c.in_err-undo.ensures.refused known) in
    search (rules, refused)

pub returns-clause-undo : goal.returns-clause-undo
returns-clause-undo c =
    let b = c.self.inside in
    walk_back b.vertices b.start.rows b.workers b.history.list
    (subst (λ (m : BoardValue). IsGraph m.build.graph) (sym c.self.view_is) c.is_graph.ensures) _
    c.args.event c.in_ok-reply.reply c.in_ok-undo.undo c.self.invariant.replays
    (ap (λ (m : BoardValue). walk_of m c.args.event) c.self.view_is ∙ c.in_ok-reply.ensures.gives)
    c.in_ok-undo.ensures.marks
    ∙ c.self.view_is

pub returns-clause-can : goal.returns-clause-can
returns-clause-can c =
    let b = c.self.inside in
    walk_can b.vertices b.start.rows b.workers b.history.list
    (subst (λ (m : BoardValue). IsGraph m.build.graph) (sym c.self.view_is) c.is_graph.ensures) _
    c.args.event c.in_ok-reply.reply c.in_ok-undo.undo c.self.invariant.replays
    (ap (λ (m : BoardValue). walk_of m c.args.event) c.self.view_is ∙ c.in_ok-reply.ensures.gives)
    c.in_ok-undo.ensures.marks
