-- The result of the files of the sources that are left, over the trees so far, is the result for all.
use Rattle.std.proofs.Common.{drop, []}
use Rattle.std.specs.Prelude.{List, Result}
use Rattle.llb_loader.specs.LocalSources.{Local}
use Rattle.llb_commands.specs.Sources.{Gathers}
use Rattle.llb_commands.specs.declared.sources.SourceFault.{SourceFault}
use Rattle.llb_commands.proofs.sources.locals_of.Given as goal

abbrev pub invariant-loop-local : goal.invariant-loop-local
invariant-loop-local g l =
    (r : Result (List Local) SourceFault) → Gathers (g.F.Sources.bytes l.files) (drop l.local-index l.locals) l.trees r
    → Gathers (g.F.Sources.bytes l.files) l.locals [] r
