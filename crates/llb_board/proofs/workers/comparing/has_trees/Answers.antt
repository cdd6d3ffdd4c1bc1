use Rattle.std.proofs.Common.{◌≡◌, ◌<◌, ◌∙◌, ap, length, get_or, rules}
use Rattle.std.specs.Prelude.{Some}
use Rattle.std.proofs.lemmas.Option.{slice_get-get_or}
use Rattle.llb_cache.specs.declared.lease_needs.Instance.{Instance}
use Rattle.llb_board.proofs.Lists.{got_has}
use Rattle.llb_board.proofs.workers.comparing.has_trees.Goals as goal

pub has_tree-requires : goal.has_tree-requires
has_tree-requires c =
    let p = c.index-places-i.result in
    let low : c.loop-i.i < length c.args.places.now = search rules in
    let is : get_or c.args.places.now c.loop-i.i p ≡ p = search rules in
    c.requires p (got_has c.args.places.now c.loop-i.i p (slice_get-get_or c.args.places.now c.loop-i.i p low ∙ ap (λ (q : Instance). Some q) is))
