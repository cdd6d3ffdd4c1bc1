use Rattle.std.proofs.Common.{◌≡◌, Bool, true, false, ◌&&◌, length, nat_lt, refl, sym, ◌∙◌, true≢false}
use Rattle.std.proofs.lemmas.Bool.{ltb-true}
use Rattle.llb_cache.specs.Key.{same_key}
use Rattle.llb_cache.specs.RowOrder.{key_at}
use Rattle.llb_cache.proofs.RowInsertion.{IsRow, row_here}
use Rattle.llb_cache.proofs.rows.row_near.Goals as goal
use Rattle.llb_cache.proofs.rows.row_near.Goals.{Then-has_key}

both : (a b : Bool) → (a && b) ≡ true → (a ≡ true) × (b ≡ true)
both true b is = (refl, is)
both false b is = absurd (true≢false (sym is))

-- the row that is tried first is the row of the key
here : (c : Then-has_key) → IsRow c.args.rows.now.entries.items c.args.key.now c.in-Some.row
here c =
    let es = c.args.rows.now.entries.items in
    let key = c.args.key.now in
    let i = c.in-Some.row in
    let has = both (nat_lt i (length es)) (same_key key (key_at es i)) (sym c.has_key.ensures ∙ c.if-has_key.true) in
    row_here es key i c.requires.distinct (ltb-true i (length es) has.0) has.1

pub returns-then-has_key-clause-at : goal.returns-then-has_key-clause-at
returns-then-has_key-clause-at c = (here (goal.at.returns-then-has_key-clause-at c).Then-has_key).at

pub returns-then-has_key-clause-found : goal.returns-then-has_key-clause-found
returns-then-has_key-clause-found c = (here (goal.at.returns-then-has_key-clause-found c).Then-has_key).found

pub returns-then-has_key-clause-value : goal.returns-then-has_key-clause-value
returns-then-has_key-clause-value c = (here (goal.at.returns-then-has_key-clause-value c).Then-has_key).value
