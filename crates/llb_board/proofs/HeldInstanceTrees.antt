-- The trees of the instances that a worker holds.
use Rattle.std.proofs.Common.{◌≡◌, ℕ, List, length, Option, Some, None, unwrap_or, sym, ap, ◌∙◌}
use Rattle.std.specs.Prelude.{slice_get, option_map}
use Rattle.std.proofs.lemmas.Option.{slice_get-map}
use Rattle.llb_cache.specs.Caches.{Row, trees_of}
use Rattle.llb_tree.specs.Tree.{TreeMap, empty_tree}
use Rattle.llb_model.specs.Caches.{Instance, trees_at, tree_of}
use Rattle.llb_model.specs.TwoCacheModels.{store_of}
use Rattle.llb_model.proofs.TwoModelsContents.{shows_instances}
use Rattle.llb_model.proofs.Lists.{get_within, length_map}
use Rattle.llb_board.proofs.Lists.{got_has}
use Rattle.llb_model.proofs.TwoModelsOverwrites.{AreWithin}

-- the tree of an instance that is there is the one that the rows have at its number
pub instance_there : (rows : List Row) (ps : List Instance) (k : ℕ) (p : Instance) (o : Option TreeMap) → AreWithin rows ps → slice_get ps k ≡ Some p
    → o ≡ slice_get (trees_of rows p.key) p.number → o ≡ slice_get (trees_at (store_of rows) ps) k
instance_there rows ps k p o within at is =
    let got = get_within (trees_of rows p.key) p.number (within p (got_has ps k p at)) in
    let shown : tree_of (store_of rows) p ≡ got.0 = ap (λ o. unwrap_or o empty_tree) (shows_instances rows p ∙ got.1) in
    is ∙ got.1 ∙ ap (λ (t : TreeMap). Some t) (sym shown)
    ∙ sym (slice_get-map (tree_of (store_of rows)) ps k ∙ ap (option_map (tree_of (store_of rows))) at)

-- past the last instance there is no tree
pub instance_past : (rows : List Row) (ps : List Instance) (k : ℕ) → slice_get ps k ≡ None → slice_get (trees_at (store_of rows) ps) k ≡ None
instance_past rows ps k none = slice_get-map (tree_of (store_of rows)) ps k ∙ ap (option_map (tree_of (store_of rows))) none

-- there are as many trees as instances
pub as_many_trees : (rows : List Row) (ps : List Instance) → length (trees_at (store_of rows) ps) ≡ length ps
as_many_trees rows ps = length_map (tree_of (store_of rows)) ps
