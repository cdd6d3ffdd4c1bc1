use Rattle.std.proofs.Common.{◌≡◌, ◌<◌, ◌≤◌, false, true, length, sym, ap, ◌∙◌, arith}
use Rattle.std.proofs.lemmas.List.{get_or_default}
use Rattle.llb_cache.specs.Key.{same_key}
use Rattle.llb_cache.specs.RowOrder.{key_at, row_at}
use Rattle.llb_cache.specs.FirstRowOfKey.{IsAbsent}
use Rattle.llb_cache.proofs.RowInsertion.{IsRow, none_here, row_here, nowhere, key_read}
use Rattle.llb_cache.proofs.rows.row_of.Goals as goal
use Rattle.llb_cache.proofs.rows.row_of.Goals.{After-is, After-len}

-- past the last row of the order there is none
ended : (c : After-len) → length c.args.rows.now.order.items ≤ c.place_of-place.result → IsAbsent c.args.key.now c.args.rows.now.entries.items
ended c end = none_here c.args.rows.now.entries.items c.args.rows.now.order.items c.args.key.now c.place_of-place.result c.requires c.place_of-place.ensures
    (λ below. absurd (omega (arith, below, end)))

inside : (c : After-is) → c.place_of-place.result < length c.args.rows.now.order.items
inside c = omega (arith, c.if-place-len.false, c.len.ensures)

row : (c : After-is) → c.index-row.result.now ≡ row_at c.args.rows.now.order.items c.place_of-place.result
row c = c.index-row.ensures ∙ get_or_default c.args.rows.now.order.items c.place_of-place.result c.index-row.result.now 0 (inside c)

there : (c : After-is) → c.index-row.result.now < length c.args.rows.now.entries.items
there c = let h = c.requires.within c.place_of-place.result (inside c) in omega (arith, h, row c)

-- what the test says of the row at the place
tested : (c : After-is) → same_key c.args.key.now (key_at c.args.rows.now.entries.items c.index-row.result.now) ≡ c.is.result
tested c =
    ap (same_key c.args.key.now)
    (sym (c.by_ref.ensures ∙ key_read c.args.rows.now.entries.items c.index-row.result.now c.index.result.now (there c) c.index.ensures)) ∙ sym c.is.ensures

hit : (c : After-is) → c.is.result ≡ true → IsRow c.args.rows.now.entries.items c.args.key.now c.index-row.result.now
hit c is = row_here c.args.rows.now.entries.items c.args.key.now c.index-row.result.now c.requires.distinct (there c) (tested c ∙ is)

missed : (c : After-is) → c.is.result ≡ false → IsAbsent c.args.key.now c.args.rows.now.entries.items
missed c is = none_here c.args.rows.now.entries.items c.args.rows.now.order.items c.args.key.now c.place_of-place.result c.requires c.place_of-place.ensures
    (λ _. ap (λ n. same_key c.args.key.now (key_at c.args.rows.now.entries.items n)) (sym (row c)) ∙ tested c ∙ is)

pub returns-then-place-len-clause-at : goal.returns-then-place-len-clause-at
returns-then-place-len-clause-at c =
    (nowhere c.args.rows.now.entries.items c.args.key.now
    (ended (goal.at.returns-then-place-len-clause-at c).After-len (omega (arith, c.if-place-len.true, c.len.ensures)))).0

pub returns-then-place-len-clause-found : goal.returns-then-place-len-clause-found
returns-then-place-len-clause-found c =
    (nowhere c.args.rows.now.entries.items c.args.key.now
    (ended (goal.at.returns-then-place-len-clause-found c).After-len (omega (arith, c.if-place-len.true, c.len.ensures)))).1

pub returns-then-is-clause-at : goal.returns-then-is-clause-at
returns-then-is-clause-at c = (hit (goal.at.returns-then-is-clause-at c).After-is c.if-is.true).at

pub returns-then-is-clause-found : goal.returns-then-is-clause-found
returns-then-is-clause-found c = (hit (goal.at.returns-then-is-clause-found c).After-is c.if-is.true).found

pub returns-then-is-clause-value : goal.returns-then-is-clause-value
returns-then-is-clause-value c = (hit (goal.at.returns-then-is-clause-value c).After-is c.if-is.true).value

pub returns-else-is-clause-at : goal.returns-else-is-clause-at
returns-else-is-clause-at c =
    (nowhere c.args.rows.now.entries.items c.args.key.now (missed (goal.at.returns-else-is-clause-at c).After-is c.if-is.false)).0

pub returns-else-is-clause-found : goal.returns-else-is-clause-found
returns-else-is-clause-found c =
    (nowhere c.args.rows.now.entries.items c.args.key.now (missed (goal.at.returns-else-is-clause-found c).After-is c.if-is.false)).1
