use Rattle.std.proofs.Common.{rules, ◌≡◌, None, sym, ◌∙◌, ap}
use Rattle.llb_loader.specs.WaitingRows.{IsMarked}
use Rattle.llb_loader.specs.GraphOfRows.{op_at}
use Rattle.llb_loader.specs.Features.{feature_of}
use Rattle.llb_loader.proofs.FirstRowOfDigest.{below_step}
use Rattle.llb_loader.proofs.OpAndInputReads.{op_read}
use Rattle.llb_loader.proofs.reached_row_checks.check_features.Goals as goal
use Rattle.llb_loader.proofs.reached_row_checks.check_features.Goals.{then-seen-k+in_default, else-seen-k}

pub loop-k-preserved : goal.loop-k-preserved
loop-k-preserved c = below_step (λ j. IsMarked c.args.seen.now j → feature_of (op_at c.args.ops.now j) ≡ None) c.loop-k.k
    c.loop-k.invariant (elim c.if-seen-k.branch [
      | then-seen-k+in_default w ↦ (λ _.
          ap feature_of (op_read c.args.ops.now c.loop-k.k w.index-ops-k.result c.loop-k-test.true w.index-ops-k.is)
          ∙ sym w.first_feature.ensures ∙ w.in_default.is)
      | else-seen-k w ↦ (λ m. absurd (search rules))
    ])
