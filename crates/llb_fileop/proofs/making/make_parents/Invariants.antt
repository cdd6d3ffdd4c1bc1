use Rattle.llb_fileop.proofs.Parents.{MadeSoFar}
use Rattle.llb_fileop.proofs.making.make_parents.Given as goal

abbrev pub invariant-loop-name : goal.invariant-loop-name
invariant-loop-name l = MadeSoFar l.meta l.initial.path l.initial.tree l.name-index l.parent l.tree
