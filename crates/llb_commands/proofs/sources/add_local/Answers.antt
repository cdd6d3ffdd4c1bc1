use Rattle.std.proofs.Common.{◌∙◌, ap, refl}
use Rattle.llb_loader.specs.LocalSources.{with_local}
use Rattle.llb_commands.proofs.SourceFileReading.{reads_adding}
use Rattle.llb_commands.proofs.sources.add_local.Goals as goal

pub returns-in-Ok-add : goal.returns-in-Ok-add
returns-in-Ok-add g c =
    let named = ap (λ n. with_local c.args.locals.now n c.in-Ok.tree) c.in-Ok-from_str.ensures in
    (c.in-Ok.tree, c.in-Ok.ensures, c.in-Ok-add.ensures.ok ∙ named)

pub returns-in_default : goal.returns-in_default
returns-in_default g c = (reads_adding (g.R.Read.remaining c.args.input.now) c.in-Ok.tree c.in-Ok.ensures, refl)

pub returns-in-Err-add : goal.returns-in-Err-add
returns-in-Err-add g c = (reads_adding (g.R.Read.remaining c.args.input.now) c.in-Ok.tree c.in-Ok.ensures, c.in-Err-add.ensures.err)
