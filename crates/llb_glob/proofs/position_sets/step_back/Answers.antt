use Rattle.std.proofs.Common.{◌∷◌, subst, sym}
use Rattle.llb_glob.specs.PositionSets.{AreStarts}
use Rattle.llb_glob.proofs.PositionSetMoves.{run_starts, one_starts}
use Rattle.llb_glob.proofs.position_sets.step_back.Goals as goal

pub returns-in-Run : goal.returns-in-Run
returns-in-Run c = λ rest starts.
    let moved = run_starts rest c.args.name.now c.args.places.now c.widen.new.places starts c.widen.ensures in
    subst (λ item. AreStarts (item ∷ rest) c.args.name.now c.widen.new.places) (sym c.in-Run.is) moved

pub returns-in-One : goal.returns-in-One
returns-in-One c = λ rest starts.
    let e = c.narrow.ensures in
    let moved = one_starts rest c.args.name.now c.args.places.now c.narrow.new.places starts c.in-One.letter e.before e.«end» in
    subst (λ item. AreStarts (item ∷ rest) c.args.name.now c.narrow.new.places) (sym c.in-One.is) moved
