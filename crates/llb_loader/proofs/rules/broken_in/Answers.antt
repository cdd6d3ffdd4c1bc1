use Rattle.llb_loader.proofs.FirstBrokenRule.{of_source_at}
use Rattle.llb_loader.proofs.rules.broken_in.Goals as goal

pub returns-in-Source : goal.returns-in-Source
returns-in-Source c = of_source_at c.args.inputs.now c.args.kind.now c.in-Source.source c.broken_in_source.result c.in-Source.is
    (rw c.get.ensures at c.broken_in_source.ensures c.args.inputs.now)
