use Rattle.std.proofs.Common.{◌<◌, ◌+◌, length, get_or, set, take, sym, subst, List, ℕ, arith}
use Rattle.std.proofs.lemmas.List.{take_more, length-take-le}
use Rattle.llb_board.specs.UsersAndOpenInputs.{AreRaised}
use Rattle.llb_board.proofs.UserListConstruction.{raised_more, raised_fits}
use Rattle.llb_board.proofs.users_and_open_inputs.raise.Goals as goal

pub overflow_add-counts : goal.overflow_add-counts
overflow_add-counts c =
    let us = c.args.users.now in
    let i = c.loop-user.user-index in
    let fits = raised_fits (take i us) (get_or us i 0) c.args.counts.now c.loop-user.counts (length us) (c.requires.below i 0 c.loop-user-test.true)
    c.loop-user.invariant (c.requires.few (get_or us i 0))
    (omega (arith, length-take-le i us (omega (arith, c.loop-user-test.true)), c.loop-user-test.true)) in
    omega (arith, fits)

pub loop-user-preserved : goal.loop-user-preserved
loop-user-preserved c =
    let us = c.args.users.now in
    let i = c.loop-user.user-index in
    let now = c.loop-user.counts in
    let low : get_or us i 0 < length now = omega (arith, c.requires.below i 0 c.loop-user-test.true, c.loop-user.invariant.0) in
    subst (λ (l : List ℕ). AreRaised l c.args.counts.now (set now (get_or us i 0) (get_or now (get_or us i 0) 0 + 1))) (sym (take_more us i 0
    c.loop-user-test.true))
    (raised_more (take i us) (get_or us i 0) c.args.counts.now now low c.loop-user.invariant)
