use Rattle.std.proofs.Common.{◌≡◌, ℤ, None, ap, sym, subst, arith, to_z, of_z, w64}
use Rattle.std.specs.Prelude.{IfOk, Option, option_map, unwrap_or}
use Rattle.std.proofs.lemmas.Int.{to_z-of_z}
use Rattle.llb_tree.specs.Tree.{TreeMap}
use Rattle.llb_model.specs.Program.{base_in}
use Rattle.llb_board.proofs.workers.cache_needs.first_tree.Goals as goal

pub returns-in-None : goal.returns-in-None
returns-in-None c =
    let want = c.args.want.now in
    let none : option_map (λ t. t.now) want.found.tree ≡ None = ap (option_map (λ t. t.now)) c.in-None.is in
    let own : to_z w64 (of_z w64 want.input) ≡ want.input = grind (arith, to_z-of_z) in
    subst (λ (o : Option TreeMap). IfOk c.seed_tree.result (λ t. t ≡ unwrap_or o (base_in want.input c.args.inputs.now))) (sym none)
    (subst (λ (z : ℤ). IfOk c.seed_tree.result (λ t. t ≡ base_in z c.args.inputs.now)) own c.seed_tree.ensures)
