use Rattle.std.proofs.Common.{◌∙◌, take, sym, subst, List, ℕ}
use Rattle.std.proofs.lemmas.List.{take_more}
use Rattle.llb_board.specs.UsersAndOpenInputs.{Visits}
use Rattle.llb_board.proofs.DownstreamMarks.{visits_more}
use Rattle.llb_board.proofs.users_and_open_inputs.downstream_marks.visit.Goals as goal

pub loop-user-preserved : goal.loop-user-preserved
loop-user-preserved c = (
  subst (λ (us : List ℕ). Visits us c.args.marks.now c.reach.new.marks c.args.reached.now.items c.reach.new.reached.items)
      (sym (take_more c.args.users.now c.loop-user.user-index 0 c.loop-user-test.true))
      (visits_more (take c.loop-user.user-index c.args.users.now) _ c.args.marks.now c.loop-user.marks c.reach.new.marks c.args.reached.now.items
      c.loop-user.reached.items c.reach.new.reached.items
      c.loop-user.invariant.0 c.reach.ensures.visits),
  c.reach.ensures.room ∙ c.loop-user.invariant.1,
)
