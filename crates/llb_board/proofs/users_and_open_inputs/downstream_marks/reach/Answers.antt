use Rattle.std.proofs.Common.{◌≡◌, [], ◌∷◌, length, set, false, true, sym, subst, rules, arith, vec_len}
use Rattle.llb_board.specs.UsersAndOpenInputs.{Visits, is_marked}
use Rattle.llb_board.proofs.DownstreamMarks.{visits_known, visits_new, some_unmarked}
use Rattle.llb_board.proofs.users_and_open_inputs.downstream_marks.reach.Goals as goal

pub push_reserved-requires : goal.push_reserved-requires
push_reserved-requires c =
    let len : vec_len c.args.reached.now ≡ length c.args.reached.now.items = search rules in
    let is : is_marked c.args.marks.now c.args.x ≡ false = search rules in
    omega (arith, len, c.requires.room, some_unmarked c.args.marks.now c.args.x c.requires.low is)

pub returns-then-marks-x-clause-visits : goal.returns-then-marks-x-clause-visits
returns-then-marks-x-clause-visits c =
    let is : is_marked c.args.marks.now c.args.x ≡ true = search rules in
    visits_known c.args.marks.now c.args.reached.now.items c.args.x is

pub returns-clause-visits : goal.returns-clause-visits
returns-clause-visits c =
    let is : is_marked c.args.marks.now c.args.x ≡ false = search rules in
    subst (Visits (c.args.x ∷ []) c.args.marks.now (set c.args.marks.now c.args.x true) c.args.reached.now.items) (sym c.push_reserved.ensures.items)
    (visits_new c.args.marks.now c.args.reached.now.items c.args.x c.requires.low is)
