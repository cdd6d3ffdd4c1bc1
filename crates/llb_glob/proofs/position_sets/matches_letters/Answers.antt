use Rattle.std.proofs.Common.{◌≤◌, subst, sym, set, replicate, length, drop, ◌∷◌, ◌≡◌, false, true, arith, ◌<◌}
use Rattle.std.proofs.Math.Seq.{drop-length}
use Rattle.llb_glob.specs.PositionSets.{AreStarts}
use Rattle.llb_glob.proofs.PositionSetMoves.{first_starts, starts_back}
use Rattle.llb_glob.proofs.position_sets.matches_letters.Goals as goal

pub loop-k-init : goal.loop-k-init
loop-k-init c =
    let name = c.args.name.now in
    let first = first_starts name 256 (let fits : length name < 256 = omega arith in fits) in
    subst (λ items. AreStarts items name (set (replicate 256 false) (length name) true)) (sym (drop-length c.args.items.now)) first

pub loop-k-preserved : goal.loop-k-preserved
loop-k-preserved c =
    let some : 0 < c.loop-k.k = omega arith in
    let within : c.loop-k.k ≤ length c.args.items.now = omega arith in
    let item = c.index-items-k in
    starts_back c.args.items.now c.loop-k.k item.result c.args.name.now c.loop-k.places c.step_back.new.places some within
    (λ rest starts. subst (λ first. AreStarts (first ∷ rest) c.args.name.now c.step_back.new.places) item.is (c.step_back.ensures rest starts))
    c.loop-k.invariant

pub returns : goal.returns
returns c =
    let first : c.loop-k.k ≡ 0 = omega arith in
    let starts = subst (λ k. AreStarts (drop k c.args.items.now) c.args.name.now c.loop-k.places) first c.loop-k.invariant in
    starts.at 0 (omega arith)
