use Rattle.std.proofs.Common.{◌≡◌, List, Some, Option, position, slice_set, sym, ap, ◌∙◌}
use Rattle.std.specs.Map.{keys_of, lookup}
use Rattle.llb_tree.specs.Tree.{TreeMap}
use Rattle.llb_cache.specs.declared.key.Key.{Key}
use Rattle.llb_cache.specs.Key.{same_key}
use Rattle.llb_cache.specs.Caches.{Row, with_trees}
use Rattle.llb_cache.specs.FirstRowOfKey.{set_trees}
use Rattle.llb_cache.specs.LeaseAdditions.{shorter}
use Rattle.llb_cache.proofs.TreesOfKeys.{trees_written}
use Rattle.llb_cache.proofs.MarksByRow.{keys_stay}
use Rattle.llb_cache.proofs.RowInsertion.{ordered_again}
use Rattle.llb_cache.proofs.RowTreeWrites.{trees_read, row_written}
use Rattle.llb_cache.proofs.rows.pop_instance.Goals as goal
use Rattle.llb_cache.proofs.rows.pop_instance.Goals.{After-pop}

-- the rows after the trees are written
written : (c : After-pop) → slice_set c.args.rows.now.entries.items c.in-Some.i (c.index_mut.result.now.0, c.pop.new.self)
    ≡ set_trees c.args.rows.now.entries.items c.in-Some.i c.pop.new.self
written c = row_written c.args.rows.now.entries.items c.in-Some.i c.index_mut.result.now c.pop.new.self c.in-Some.ensures.within c.index_mut.ensures.value

keys : (c : After-pop) → keys_of (slice_set c.args.rows.now.entries.items c.in-Some.i (c.index_mut.result.now.0, c.pop.new.self))
    ≡ keys_of c.args.rows.now.entries.items
keys c = ap (λ (es : List Row). keys_of es) (written c) ∙ keys_stay c.args.rows.now.entries.items c.in-Some.i c.pop.new.self

pub returns-in-Some-clause-rows : goal.returns-in-Some-clause-rows
returns-in-Some-clause-rows c =
    let es = c.args.rows.now.entries.items in
    let key = c.args.key.now in
    let at : position (same_key key) (keys_of es) ≡ Some c.in-Some.i =
    ap (λ (k : Key). position (same_key k) (keys_of es)) (sym c.by_ref.ensures) ∙ sym c.row_of.ensures.at ∙ c.in-Some.is in
    let look : lookup (same_key key) es ≡ Some c.index_mut.result.now.1 =
    ap (λ (k : Key). lookup (same_key k) es) (sym c.by_ref.ensures) ∙ sym c.in-Some.ensures.value
    ∙ trees_read es c.in-Some.i c.index_mut.result.now c.in-Some.ensures.within c.index_mut.ensures.value in
    written (goal.at.returns-in-Some-clause-rows c).After-pop ∙ trees_written es key c.in-Some.i c.pop.new.self at
    ∙ ap (λ (ts : List TreeMap). with_trees es key ts) c.pop.ensures ∙ sym (ap (λ (o : Option (List TreeMap)). shorter es key o) look)

pub returns-in-Some-clause-keys : goal.returns-in-Some-clause-keys
returns-in-Some-clause-keys c = keys (goal.at.returns-in-Some-clause-keys c).After-pop

pub returns-in-Some-clause-order : goal.returns-in-Some-clause-order
returns-in-Some-clause-order c =
    ordered_again c.args.rows.now.entries.items _ c.args.rows.now.order.items (keys (goal.at.returns-in-Some-clause-order c).After-pop) c.requires
