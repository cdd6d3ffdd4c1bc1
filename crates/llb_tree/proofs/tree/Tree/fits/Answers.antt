use Rattle.std.proofs.Common.{◌≡◌, ◌+◌, ◌-◌, ◌≤◌, length, sym, ap, subst, ◌∙◌, true≢false, arith}
use Rattle.llb_tree.specs.Tree.{height}
use Rattle.llb_tree.proofs.NodeDepths.{fit_all, fit_none, less}
use Rattle.llb_tree.proofs.tree.Tree.fits.Goals as goal

pub returns-then-self-room-clause-fit : goal.returns-then-self-room-clause-fit
returns-then-self-room-clause-fit c =
    let deep : height c.args.self.now ≤ c.self.inside.depth + 1 = subst (λ m. height m ≤ c.self.inside.depth + 1) c.self.view_is c.self.invariant.deep in
    let names : length c.names.result.now ≡ length c.args.path.now = ap length c.names.ensures.all in
    fit_all _ _ (omega (arith, deep, names, c.names.ensures.short, c.if-self-room.true))

pub returns-then-is_within-clause-fit : goal.returns-then-is_within-clause-fit
returns-then-is_within-clause-fit c =
    let deep : height c.args.self.now ≤ (128 - length c.names.result.now) + 1 =
    subst (λ m. height m ≤ (128 - length c.names.result.now) + 1) c.self.view_is (c.is_within.ensures.0 c.if-is_within.true) in
    let names : length c.names.result.now ≡ length c.args.path.now = ap length c.names.ensures.all in
    fit_all _ _ (omega (arith, deep, names, c.names.ensures.short))

pub returns-clause-fit : goal.returns-clause-fit
returns-clause-fit c =
    let names : length c.names.result.now ≡ length c.args.path.now = ap length c.names.ensures.all in
    let short = c.names.ensures.short in
    fit_none _ _ short (less _ _ (λ le.
    let within : height c.args.self.now ≤ (128 - length c.names.result.now) + 1 = omega (arith, le, names, short) in
    let root = subst (λ m. height m ≤ (128 - length c.names.result.now) + 1) (sym c.self.view_is) within in
    true≢false (sym (c.is_within.ensures.1 root) ∙ c.if-is_within.false)))
