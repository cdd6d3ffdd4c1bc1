use Rattle.std.proofs.Common.{◌≡◌, drop}
use Rattle.llb_fileop.specs.Refusals.{no_copies}
use Rattle.llb_fileop.proofs.refused_copy.no_match_copy.Given as goal

abbrev pub invariant-loop-path : goal.invariant-loop-path
invariant-loop-path l = no_copies l.action (l.dest.path, l.dest.inside) l.second (drop l.path-index l.path-items) l.tree
    ≡ no_copies l.action (l.dest.path, l.dest.inside) l.second l.path-items l.base
