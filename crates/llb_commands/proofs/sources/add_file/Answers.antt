use Rattle.std.proofs.Common.{◌≡◌, ℕ, List, Option, Some, None, subst}
use Rattle.std.specs.Prelude.{Result, Ok, Err, IfSome}
use Rattle.llb_loader.specs.LocalSources.{Local}
use Rattle.llb_commands.specs.Sources.{Adds}
use Rattle.llb_commands.specs.declared.sources.SourceFault.{SourceFault}
use Rattle.llb_commands.proofs.sources.add_file.Goals as goal

-- a text that is added is that of the file, if the file's bytes are known
adds_known : (name : List ℕ) (known left : Option (List ℕ)) (old new : List Local) (r : Result (Unit {0}) SourceFault)
    → IfSome known (λ xs. left ≡ Some xs) → Adds name left old new r → Adds name known old new r
adds_known name (Some xs) left old new r is adds = subst (λ o. Adds name o old new r) is adds
adds_known name None left old new (Ok u) is (t, reads, added) = (t, tt, added)
adds_known name None left old new (Err e) is (reads, same) = (tt, same)

pub returns : goal.returns
returns g c =
    adds_known c.args.local.now.name.now (g.F.Sources.bytes c.args.files.now c.args.local.now.file.now) _ c.args.locals.now c.add_local.new.locals
    c.add_local.result c.in-Ok.ensures c.add_local.ensures
