use Rattle.std.proofs.Common.{◌≡◌, ap, sym, ◌∙◌}
use Rattle.std.specs.Prelude.{unwrap_or}
use Rattle.llb_cache.specs.Caches.{trees_of}
use Rattle.llb_tree.specs.Tree.{empty_tree}
use Rattle.llb_model.specs.TwoCacheModels.{store_of}
use Rattle.llb_model.proofs.TwoModelsContents.{shows_instances}
use Rattle.llb_model.proofs.Lists.{get_within}
use Rattle.llb_model.specs.Caches.{tree_of}
use Rattle.llb_model.proofs.ConstructorEqualities.{none_some}
use Rattle.llb_board.proofs.workers.comparing.has_tree.Goals as goal

pub returns-in-Some : goal.returns-in-Some
returns-in-Some c =
    let rows = c.args.caches.now.rows in
    let p = c.args.place.now in
    let is : tree_of (store_of rows) p ≡ c.in-Some.found.now = ap (λ o. unwrap_or o empty_tree) (shows_instances rows p ∙ sym c.in-Some.ensures) in
    (λ yes. c.same.ensures.0 yes ∙ sym is, λ same. c.same.ensures.1 (same ∙ is))

pub returns-in-None : goal.returns-in-None
returns-in-None c =
    let got = get_within (trees_of c.args.caches.now.rows c.args.place.now.key) c.args.place.now.number c.requires in
    absurd (none_some (c.in-None.ensures ∙ got.1))
