use Rattle.std.proofs.Common.{◌≡◌, drop}
use Rattle.llb_fileop.specs.Copying.{copy_each}
use Rattle.llb_fileop.proofs.copying.copy_matches.Given as goal

abbrev pub invariant-loop-path : goal.invariant-loop-path
invariant-loop-path l = copy_each l.action (l.dest.path, l.dest.inside) l.second (drop l.path-index l.path-items) l.tree
    ≡ copy_each l.action (l.dest.path, l.dest.inside) l.second l.path-items l.base
