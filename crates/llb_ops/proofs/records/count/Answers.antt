use Rattle.std.proofs.Common.{◌≡◌, ◌∙◌, arith}
use Rattle.std.specs.Prelude.{count_by}
use Rattle.std.specs.Bool.{◌==◌}
use Rattle.std.proofs.lemmas.Grind.{common_steps}
use Rattle.llb_ops.specs.Records.{views}
use Rattle.llb_ops.proofs.FieldRecordCounts.{count_all}
use Rattle.llb_ops.proofs.records.count.Goals as goal

pub returns : goal.returns
returns c =
    let counted : c.count.result ≡ count_by (λ r. r.number == c.args.number) (views c.args.records.now) = grind (arith, common_steps) in
    counted ∙ count_all c.args.number (views c.args.records.now)
