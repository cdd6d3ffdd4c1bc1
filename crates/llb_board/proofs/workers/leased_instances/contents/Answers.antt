use Rattle.std.proofs.Common.{◌≡◌, ◌++◌, ◌∷◌, [], map, length, rules, refl, ap, ◌∙◌, arith, vec_len}
use Rattle.std.specs.Prelude.{slice_get, Some}
use Rattle.std.proofs.lemmas.Option.{slice_get_read}
use Rattle.std.proofs.lemmas.List.{take_all}
use Rattle.llb_tree.specs.Tree.{TreeMap}
use Rattle.llb_model.specs.TwoCacheModels.{store_of}
use Rattle.llb_model.specs.Caches.{tree_of}
use Rattle.llb_board.proofs.Lists.{copied_length, copied_more}
use Rattle.llb_board.proofs.workers.leased_instances.contents.Goals as goal

pub loop-place-init : goal.loop-place-init
loop-place-init c = record { front = c.in_ok-trees.ensures.items; reserved = search rules }

pub push_reserved-requires : goal.push_reserved-requires
push_reserved-requires c =
    let len : vec_len c.loop-place.trees ≡ length c.loop-place.trees.items = search rules in
    omega (
      arith,
      len,
      c.loop-place-test.true,
      c.loop-place.invariant.reserved,
      copied_length (tree_of (store_of c.args.caches.now.rows)) c.args.places.now c.loop-place.place-index c.loop-place.trees.items
          c.loop-place.invariant.front c.loop-place-test.true,
    )

pub loop-place-preserved : goal.loop-place-preserved
loop-place-preserved c =
    let at : slice_get c.args.places.now c.loop-place.place-index ≡ Some c.place-item.result
    = slice_get_read c.args.places.now (length c.args.places.now) c.loop-place.place-index c.place-item.result refl c.loop-place-test.true c.place-item.is in
    record {
      front = c.push_reserved.ensures.items ∙ ap (λ (t : TreeMap). c.loop-place.trees.items ++ t ∷ []) c.in_ok-content.ensures
          ∙ copied_more (tree_of (store_of c.args.caches.now.rows)) c.args.places.now c.loop-place.place-index c.loop-place.trees.items
          c.place-item.result c.loop-place.invariant.front at;
      reserved = search rules;
    }

pub returns : goal.returns
returns c =
    c.loop-place.invariant.front ∙ ap (map (tree_of (store_of c.args.caches.now.rows)))
    (take_all c.loop-place.place-index c.args.places.now c.loop-place-test.false)
