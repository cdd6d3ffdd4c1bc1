use Rattle.std.proofs.Common.{◌≡◌, ◌<◌, ◌-◌, [], ◌∷◌, ◌++◌, length, get_or, set, take, sym, subst, List, ℕ, rules, arith}
use Rattle.std.proofs.lemmas.List.{take_more}
use Rattle.llb_board.specs.UsersAndOpenInputs.{AreLowered}
use Rattle.llb_board.proofs.UserListConstruction.{lowered_more}
use Rattle.llb_board.proofs.users_and_open_inputs.lower.Goals as goal

pub loop-user-preserved : goal.loop-user-preserved
loop-user-preserved c =
    let us = c.args.users.now in
    let i = c.loop-user.user-index in
    let now = c.loop-user.counts in
    let low : get_or us i 0 < length now = omega (arith, c.requires i 0 c.loop-user-test.true, c.loop-user.invariant.0) in
    let is : c.saturating_sub.result ≡ get_or now (get_or us i 0) 0 - 1 = search rules in
    subst (λ (l : List ℕ). AreLowered l c.args.counts.now (set now (get_or us i 0) c.saturating_sub.result)) (sym (take_more us i 0 c.loop-user-test.true))
    (subst (λ (n : ℕ). AreLowered (take i us ++ get_or us i 0 ∷ []) c.args.counts.now (set now (get_or us i 0) n)) (sym is)
    (lowered_more (take i us) (get_or us i 0) c.args.counts.now now low c.loop-user.invariant))
