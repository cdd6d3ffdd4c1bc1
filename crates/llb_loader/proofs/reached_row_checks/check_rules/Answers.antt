use Rattle.std.proofs.Common.{Option, sym, subst, MatchOption}
use Rattle.llb_ops.specs.declared.op.Op.{Op}
use Rattle.llb_loader.specs.declared.fault.Rule.{Rule}
use Rattle.llb_loader.specs.WaitingRows.{IsMarked}
use Rattle.llb_loader.specs.GraphOfRows.{op_at}
use Rattle.llb_loader.specs.Rules.{MeetsRules, BreaksFirst}
use Rattle.llb_loader.proofs.FirstRowOfDigest.{below_step}
use Rattle.llb_loader.proofs.OpAndInputReads.{op_read}
use Rattle.llb_loader.proofs.reached_row_checks.check_rules.Goals as goal

pub loop-k-preserved : goal.loop-k-preserved
loop-k-preserved c = below_step (λ j. IsMarked c.args.seen.now j → MeetsRules (op_at c.args.ops.now j)) c.loop-k.k c.loop-k.invariant (λ _.
    let read = op_read c.args.ops.now c.loop-k.k c.index-ops-k.result c.loop-k-test.true c.index-ops-k.is in
    subst (λ (o : Op). MeetsRules o) (sym read)
    (subst (λ (o : Option Rule). MatchOption o (MeetsRules c.index-ops-k.result) (BreaksFirst c.index-ops-k.result)) c.in_default.is c.in_ok-rule.ensures))
