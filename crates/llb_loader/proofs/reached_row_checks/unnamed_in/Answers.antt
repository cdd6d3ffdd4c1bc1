use Rattle.std.proofs.Common.{ℕ, List, [], pos, length, ap, arith}
use Rattle.llb_ops.specs.declared.op.Input.{Input}
use Rattle.llb_loader.specs.RowLookup.{row_named}
use Rattle.llb_loader.proofs.InputRowCollection.{each_there}
use Rattle.llb_loader.proofs.reached_row_checks.unnamed_in.Goals as goal

pub returns-then-named-len : goal.returns-then-named-len
returns-then-named-len c = each_there (λ (i : Input). row_named c.args.rows.now c.args.terminal i.digest) c.args.op.now.inputs
    (record { digest = []; index = pos 0; extra = [] })
    (let a = c.if-named-len.true in let b = c.len.ensures in let n = ap (λ (xs : List ℕ). length xs) c.requires.named in omega (arith, a, b, n))
