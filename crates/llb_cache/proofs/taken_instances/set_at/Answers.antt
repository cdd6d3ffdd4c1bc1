use Rattle.std.proofs.Common.{◌≡◌, List, Some, length, position, slice_get, slice_set, sym, ap, ◌∙◌, arith}
use Rattle.std.specs.Map.{keys_of, values_of}
use Rattle.llb_tree.specs.Tree.{TreeMap}
use Rattle.llb_cache.specs.declared.key.Key.{Key}
use Rattle.llb_cache.specs.Key.{same_key}
use Rattle.llb_cache.specs.Caches.{Row}
use Rattle.llb_cache.specs.FirstRowOfKey.{set_trees}
use Rattle.llb_cache.proofs.TreesOfKeys.{trees_there, tree_put}
use Rattle.llb_cache.proofs.MarksByRow.{keys_stay}
use Rattle.llb_cache.proofs.RowInsertion.{ordered_again}
use Rattle.llb_cache.proofs.RowTreeWrites.{trees_read, row_written}
use Rattle.llb_cache.proofs.taken_instances.set_at.Goals as goal
use Rattle.llb_cache.proofs.taken_instances.set_at.Goals.{After-index_mut}

abbrev rows : After-index_mut → List Row
rows c = c.args.rows.now.entries.items

-- the row of the key, its trees, and the rows after others are written into it
at : (c : After-index_mut) → position (same_key c.args.place.now.key) (keys_of (rows c)) ≡ Some c.in-Some.i
at c = ap (λ (k : Key). position (same_key k) (keys_of (rows c))) (sym c.by_ref.ensures) ∙ sym c.row_of.ensures.at ∙ c.in-Some.is

read : (c : After-index_mut) → slice_get (values_of (rows c)) c.in-Some.i ≡ Some c.index_mut.result.now.1
read c = trees_read (rows c) c.in-Some.i c.index_mut.result.now c.in-Some.ensures.within c.index_mut.ensures.value

written : (c : After-index_mut) (w : List TreeMap) → slice_set (rows c) c.in-Some.i (c.index_mut.result.now.0, w) ≡ set_trees (rows c) c.in-Some.i w
written c w = row_written (rows c) c.in-Some.i c.index_mut.result.now w c.in-Some.ensures.within c.index_mut.ensures.value

keys : (c : After-index_mut) (w : List TreeMap) → keys_of (slice_set (rows c) c.in-Some.i (c.index_mut.result.now.0, w)) ≡ keys_of (rows c)
keys c w = ap (λ (es : List Row). keys_of es) (written c w) ∙ keys_stay (rows c) c.in-Some.i w

pub set-requires : goal.set-requires
set-requires c =
    let s = (goal.at.set-requires c).After-index_mut in
    let there = c.requires.there in
    let trees = ap (λ (ts : List TreeMap). length ts) (trees_there (rows s) c.args.place.now.key c.in-Some.i c.index_mut.result.now.1 (at s) (read s)) in
    omega (arith, there, trees)

pub returns-in-Some-clause-rows : goal.returns-in-Some-clause-rows
returns-in-Some-clause-rows c =
    let s = (goal.at.returns-in-Some-clause-rows c).After-index_mut in
    written s c.set.new.self
    ∙ tree_put (rows s) c.args.place.now c.args.tree c.in-Some.i c.index_mut.result.now.1 c.set.new.self (at s) (read s) c.set.ensures

pub returns-in-Some-clause-keys : goal.returns-in-Some-clause-keys
returns-in-Some-clause-keys c = keys (goal.at.returns-in-Some-clause-keys c).After-index_mut c.set.new.self

pub returns-in-Some-clause-order : goal.returns-in-Some-clause-order
returns-in-Some-clause-order c =
    ordered_again _ _ _ (keys (goal.at.returns-in-Some-clause-order c).After-index_mut c.set.new.self) c.requires.order
