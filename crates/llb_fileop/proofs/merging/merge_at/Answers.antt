use Rattle.std.proofs.Common.{rules, ◌≡◌, map, subst, sym, ap, ◌∙◌, Ok, Err, false}
use Rattle.std.specs.FinMap as finite
use Rattle.llb_wire.specs.CallResults.{◌>>=◌}
use Rattle.llb_tree.specs.Tree.{Gives, graft, is_memory, moved}
use Rattle.llb_fileop.specs.Owners.{copied}
use Rattle.llb_fileop.specs.Copying.{land, laid_on}
use Rattle.llb_fileop.proofs.EntryPlacement.{lands_below}
use Rattle.llb_fileop.proofs.TreeOverlays.{overlaid_is}
use Rattle.llb_fileop.proofs.Grafting.{agrees, graft_lands, IsTree-subtree}
use Rattle.llb_fileop.proofs.merging.merge_at.Goals as goal

pub returns-in_err-may_land : goal.returns-in_err-may_land
returns-in_err-may_land c =
    let given = copied c.args.action.now.mode c.args.action.now.owner in
    let t = c.args.tree.now in
    let es = map (moved 0 c.args.goal.now) (finite.entries c.args.source.now) in
    let f : is_memory c.in_err-may_land.field-0.0 ≡ false → land given es t ≡ Err c.in_err-may_land.field-0.0
    = λ m.
    ap (λ r. r >>= λ _. Ok (laid_on given t es))
    (sym (lands_below c.in_ok-here.here t c.args.goal.now c.in_ok-here.ensures.places (finite.entries c.args.source.now)) ∙ c.in_err-may_land.ensures m) in
    search rules

pub returns : goal.returns
returns c =
    let given = copied c.args.action.now.mode c.args.action.now.owner in
    let t = c.args.tree.now in
    let here = c.in_ok-here.here in
    let source = c.args.source.now in
    let same = c.in_ok-here.ensures.places in
    let all = sym (lands_below here t c.args.goal.now same (finite.entries source)) ∙ c.in_ok-may_land.ensures in
    let agree = agrees given here source t c.args.goal.now c.requires.tree same all in
    let tree = IsTree-subtree t c.args.goal.now here c.requires.tree c.in_ok-here.ensures.gives in
    let both = overlaid_is c.settings.result given c.settings.ensures.given c.settings.ensures.keeps here source tree agree
    c.in_ok-merged.merged c.in_ok-merged.ensures.paths in
    let lands = ap (λ u. graft t c.args.goal.now u) (sym both) ∙ graft_lands given here source t c.args.goal.now c.requires.tree same all c.requires.dir in
    subst (λ r. Gives (λ _. c.graft.new.self) c.graft.result r) lands c.graft.ensures.gives
