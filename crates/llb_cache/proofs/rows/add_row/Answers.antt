use Rattle.std.proofs.Common.{◌≡◌, List, ℕ, insert, length, Result, Ok, Err, IsOk, is_ok, refl, subst, sym, ap, ◌∙◌, arith, true≢false}
use Rattle.std.specs.Prelude.{if◌then◌else◌}
use Rattle.llb_cache.specs.declared.key.Key.{Key}
use Rattle.llb_cache.specs.Caches.{Row}
use Rattle.llb_cache.proofs.FirstRowOfKey.{absent_found, written_absent}
use Rattle.llb_cache.specs.RowOrder.{IsOrdered, IsPlace}
use Rattle.llb_cache.proofs.RowInsertion.{ordered_pushed}
use Rattle.llb_cache.proofs.rows.add_row.Goals as goal

pub returns-clause-rows : goal.returns-clause-rows
returns-clause-rows c =
    c.push_reserved.ensures.items
    ∙ sym (written_absent c.args.key c.args.rows.now.entries.items c.args.trees (absent_found c.args.key c.args.rows.now.entries.items c.requires.apart))

put_there : {A E : Type 0} (r : Result A E) (new old : List ℕ) → IsOk r → (if is_ok r then new else old) ≡ new
put_there (Ok x) new old ok = refl
put_there (Err e) new old ok = absurd (true≢false (sym ok))

pub returns-clause-order : goal.returns-clause-order
returns-clause-order c =
    let es : List Row = c.args.rows.now.entries.items in
    let order : List ℕ = c.args.rows.now.order.items in
    let place = c.place_of-place.result in
    let at : IsPlace es order c.args.key place = subst (λ (k : Key). IsPlace es order k place) c.by_ref.ensures c.place_of-place.ensures in
    let room = c.requires.room.1 in
    let long : c.len.result ≡ length es = omega (arith, c.len.ensures) in
    let items = c.insert.ensures.items
    ∙ put_there c.insert.result (insert order place c.len.result) order (c.insert.ensures.succeeds (omega (arith, room)))
    ∙ ap (λ n. insert order place n) long in
    subst (λ (s : List Row × List ℕ). IsOrdered s.0 s.1) (λ i. ((sym c.push_reserved.ensures.items) i, (sym items) i))
    (ordered_pushed es order c.args.key c.args.trees place c.requires.order at (absent_found c.args.key es c.requires.apart))
