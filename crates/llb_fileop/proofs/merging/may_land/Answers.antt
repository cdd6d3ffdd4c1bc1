use Rattle.std.proofs.Common.{ap, sym, ◌∙◌, subst}
use Rattle.std.specs.Prelude.{is_ok}
use Rattle.std.specs.FinMap as finite
use Rattle.llb_tree.specs.Tree.{Gives, places_fit}
use Rattle.llb_fileop.proofs.ResultEqualities.{granted}
use Rattle.llb_fileop.proofs.EntryPlacement.{meet_where_fit}
use Rattle.llb_fileop.proofs.merging.may_land.Goals as goal

pub returns-then-is_ok : goal.returns-then-is_ok
returns-then-is_ok c =
    let fit = granted (places_fit c.args.goal.now (finite.keys c.args.source.now))
    (ap is_ok (sym c.fits.ensures.fit) ∙ sym c.is_ok.ensures.value ∙ c.if-is_ok.true) in
    subst (λ r. Gives (λ u. u) c.may_meet.result r)
    (sym (meet_where_fit c.args.here.now c.args.goal.now (finite.entries c.args.source.now) fit)) c.may_meet.ensures
