use Rattle.std.proofs.Common.{◌≡◌, ℕ, ◌+◌, ◌-◌, List, length, vec_len, rules, sym, ◌∙◌, subst, arith}
use Rattle.llb_cache.specs.declared.key.Key.{Key}
use Rattle.llb_cache.specs.Caches.{Row}
use Rattle.llb_cache.specs.RowOrder.{key_at, IsOrdered, IsPlace}
use Rattle.llb_cache.proofs.RowInsertion.{key_read}
use Rattle.llb_cache.proofs.RowOrderWithoutLast.{found_at, ordered_popped}
use Rattle.llb_cache.proofs.rows.pop_row.Goals as goal
use Rattle.llb_cache.proofs.rows.pop_row.Goals.{After-place_of-place}

long : (c : After-place_of-place) → length c.args.rows.now.entries.items ≡ c.len-len.result - 1 + 1
long c =
    let len : vec_len c.args.rows.now.entries ≡ length c.args.rows.now.entries.items = search rules in
    omega (arith, len, c.len-len.ensures, c.if-len-gt0.true)

at : (c : After-place_of-place)
    → IsPlace c.args.rows.now.entries.items c.args.rows.now.order.items (key_at c.args.rows.now.entries.items (c.len-len.result - 1)) c.place_of-place.result
at c =
    let es = c.args.rows.now.entries.items in
    let key = c.by_ref.ensures ∙ key_read es (c.len-len.result - 1) c.index.result.now (omega (arith, long c)) c.index.ensures in
    subst (λ (k : Key). IsPlace es c.args.rows.now.order.items k c.place_of-place.result) key c.place_of-place.ensures

pub remove-requires : goal.remove-requires
remove-requires c =
    let p = (goal.at.remove-requires c).After-place_of-place in
    let order = c.args.rows.now.order.items in
    let len : vec_len c.args.rows.now.order ≡ length order = search rules in
    let found = found_at c.args.rows.now.entries.items order (c.len-len.result - 1) c.place_of-place.result c.requires (omega (arith, long p)) (at p) in
    omega (arith, len, found.0)

pub returns-then-len-gt0-clause-order : goal.returns-then-len-gt0-clause-order
returns-then-len-gt0-clause-order c =
    let p = (goal.at.returns-then-len-gt0-clause-order c).After-place_of-place in
    subst (λ (s : List Row × List ℕ). IsOrdered s.0 s.1) (λ i. ((sym c.truncate.ensures.items) i, (sym c.remove.ensures.items) i))
    (ordered_popped c.args.rows.now.entries.items c.args.rows.now.order.items (c.len-len.result - 1) c.place_of-place.result c.requires (long p) (at p))
