use Rattle.std.proofs.Common.{rules, ◌+◌, subst, drop}
use Rattle.llb_commands.specs.Sources.{Gathers}
use Rattle.llb_commands.proofs.SourceFileReading.{gathers_more, gathers_none}
use Rattle.llb_commands.proofs.sources.locals_of.Goals as goal

pub returns-in_err-add_file : goal.returns-in_err-add_file
returns-in_err-add_file g c =
    c.loop-local.invariant c.from_residual.result
    (gathers_none (g.F.Sources.bytes c.args.files.now) c.args.locals.now c.loop-local.local-index _ c.loop-local.trees
    c.in_err-add_file.field-0.0 c.from_residual.result c.loop-local-test.true c.in_err-add_file.ensures.0 (search rules))

pub loop-local-preserved : goal.loop-local-preserved
loop-local-preserved g c = λ r rest.
    let (tree, reads, added) = c.in_ok-add_file.ensures in
    c.loop-local.invariant r
    (gathers_more (g.F.Sources.bytes c.args.files.now) c.args.locals.now c.loop-local.local-index _ c.loop-local.trees tree r
    c.loop-local-test.true reads
    (subst (λ ts. Gathers (g.F.Sources.bytes c.args.files.now) (drop (c.loop-local.local-index + 1) c.args.locals.now) ts r) added rest))
