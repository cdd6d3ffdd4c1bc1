use Rattle.std.proofs.Common.{◌+◌, take, drop, ap, sym, ◌∙◌, arith}
use Rattle.llb_ops.specs.Records.{views, is_other}
use Rattle.llb_ops.proofs.OneofMembers.{since_keeps, since_clears}
use Rattle.llb_ops.proofs.records.since.Goals as goal
use Rattle.llb_ops.proofs.records.since.Goals.{then-is_other, else-is_other}

pub loop-i-preserved : goal.loop-i-preserved
loop-i-preserved c =
    let rs = c.args.records.now in
    let i = c.loop-i.i in
    let p = is_other c.args.members.now c.args.number in
    elim c.if-is_other.branch [
      | then-is_other w ↦ record {
        place = omega (arith, w.start-is);
        rest = since_clears p rs i _ c.loop-i-test.true (sym c.is_other.ensures ∙ w.if-is_other.true)
            ∙ ap (λ s. drop s (views (take (i + 1) rs))) (sym w.start-is);
      }
      | else-is_other w ↦ record {
        place = omega (arith, w.start-is);
        rest = since_keeps p rs c.loop-i.start i _ c.loop-i-test.true c.loop-i.invariant.place
            (sym c.is_other.ensures ∙ w.if-is_other.false) c.loop-i.invariant.rest ∙ ap (λ s. drop s (views (take (i + 1) rs))) (sym w.start-is);
      }
    ]
