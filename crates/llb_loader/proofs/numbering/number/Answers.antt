use Rattle.std.proofs.Common.{ℕ, ◌+◌, ◌<◌, ◌≤◌, Bool, true, length, get_or, set, List, arith, ap, ◌∙◌, subst}
use Rattle.std.proofs.lemmas.List.{length-set, length_push}
use Rattle.std.proofs.lemmas.List.Elements.{Contains-get_or}
use Rattle.std.specs.List.{Contains}
use Rattle.std.specs.Ordering.{nat_cmp}
use Rattle.std.specs.BTreeSet.{contains}
use Rattle.llb_loader.specs.declared.numbering.Waiter.{Waiter}
use Rattle.std.specs.Global.{Vec}
use Rattle.llb_loader.specs.ReachedRows.{lists}
use Rattle.llb_loader.specs.WaitingRows.{IsMarked, IsPlacing}
use Rattle.llb_loader.proofs.RowReadsAndMarks.{unmarked-mark, unmarked-none}
use Rattle.llb_loader.proofs.RowSets.{set_cut, set_least, set_drained}
use Rattle.llb_loader.proofs.NumberingSteps.{IsFresh, WokenFrom, no_waiter, place_step, placed_weaker, woken_step, woken_end, fresh_all, order_start}
use Rattle.llb_loader.proofs.NumberingSteps.{order_step, turn_taken, taken_pending, reached_below, looked_placed, looked_past, cycle_from_stuck}
use Rattle.llb_loader.proofs.numbering.number.Goals as goal
use Rattle.llb_loader.proofs.numbering.number.Goals.{then-seen-row+in_ok-place, else-seen-row}

pub placing-preserved : goal.placing-preserved
placing-preserved c =
    let all = c.in_ok-done.ensures.items_if_clones_equal (λ y e. e) in
    let len = c.requires.len in
    elim c.if-seen-row.branch [
      | then-seen-row+in_ok-place w ↦ (
          let reached = (c.requires.exact c.placing.row).0 w.if-seen-row.true in
          let fresh : IsFresh c.in_ok-done.done.items c.placing.row = rw all (fresh_all (length c.args.rows.now) c.placing.row) in
          let placing = subst
          (λ (marks : List Bool). IsPlacing (lists c.args.rows.now) marks (record { row = c.placing.row; checked = 0 })
          (contains nat_cmp c.placing.ready) (contains nat_cmp w.place.new.ready) (lists c.placing.waiting.items) (lists w.place.new.waiting.items))
          w.deref.ensures.value w.in_ok-place.ensures.placed in
          rw (w.ready-is, w.waiting-is) (record {
            len_waiting = w.place.ensures.len ∙ c.placing.invariant.len_waiting;
            placed = place_step (lists c.args.rows.now) c.args.start c.in_ok-done.done.items (record { row = c.placing.row; checked = 0 })
                (contains nat_cmp c.placing.ready) (contains nat_cmp w.place.new.ready) (lists c.placing.waiting.items) (lists w.place.new.waiting.items)
                (λ k. c.placing.row ≤ k) (λ k. c.placing.row + 1 ≤ k) (λ k l. looked_placed k c.placing.row l)
                (record { reached = reached; fresh = fresh; checked = record { within = omega arith; passed = λ i l. absurd (omega arith) } })
                placing c.placing.invariant.placed;
          }))
      | else-seen-row w ↦ rw (w.ready-is, w.waiting-is) (record {
        len_waiting = c.placing.invariant.len_waiting;
        placed = placed_weaker _ _ _ _ _ _ _
            (looked_past (lists c.args.rows.now) c.args.start c.args.seen.now c.requires.exact c.placing.row w.if-seen-row.false)
            c.placing.invariant.placed;
      })
    ]

pub turns-init : goal.turns-init
turns-init c =
    let all = c.in_ok-done.ensures.items_if_clones_equal (λ y e. e) in
    record {
      len_done = omega (arith, c.in_ok-done.ensures.len);
      len_waiting = c.placing.invariant.len_waiting;
      placed = placed_weaker _ _ _ _ _ _ _ (λ k t l. let h = reached_below (lists c.args.rows.now) c.args.start
          (length c.args.rows.now) c.args.seen.now c.requires.exact c.requires.len k t in omega (arith, h, l)) c.placing.invariant.placed;
      order = rw (all, c.new-order.ensures.items) (order_start (lists c.args.rows.now) c.args.start (length c.args.rows.now));
      counted = rw (all, c.new-order.ensures.items) (let u = unmarked-none (length c.args.rows.now) in omega (arith, u));
    }

pub index_mut-requires : goal.index_mut-requires
index_mut-requires c =
    let t = (c.turns.invariant.placed.sound c.in-Some.next c.in-Some.ensures.member).reached in
    let h = reached_below (lists c.args.rows.now) c.args.start (length c.args.rows.now) c.args.seen.now c.requires.exact c.requires.len c.in-Some.next t in
    omega (arith, h)

pub index_mut-requires-in-Some : goal.index_mut-requires-in-Some
index_mut-requires-in-Some c =
    let t = (c.turns.invariant.placed.sound c.in-Some.next c.in-Some.ensures.member).reached in
    let h = reached_below (lists c.args.rows.now) c.args.start (length c.args.rows.now) c.args.seen.now c.requires.exact c.requires.len c.in-Some.next t in
    omega (arith, h)

pub woken-init : goal.woken-init
woken-init c =
    let t = (c.turns.invariant.placed.sound c.in-Some.next c.in-Some.ensures.member).reached in
    let h = reached_below (lists c.args.rows.now) c.args.start (length c.args.rows.now) c.args.seen.now c.requires.exact c.requires.len c.in-Some.next t in
    let hd : c.in-Some.next < length c.turns.done.items = omega (arith, h) in
    let hw : c.in-Some.next < length c.turns.waiting.items = omega (arith, h) in
    let e = c.deref-waiter-items.ensures.value ∙ ap (λ (v : Vec Waiter). v.items) c.replace-woken.ensures.value in
    let nothing = ap (λ (v : Vec Waiter). v.items) c.replace-woken.ensures.after ∙ c.new.ensures.items in
    record {
      len_waiting = c.turns.invariant.len_waiting;
      pending = λ w m. taken_pending (lists c.args.rows.now) c.args.start c.turns.done.items
          (contains nat_cmp c.turns.ready) c.turns.waiting.items c.in-Some.next
          c.index_mut-in-Some.result.now hd hw c.in-Some.ensures.member c.index_mut-in-Some.ensures.value c.turns.invariant.placed w
          (subst (λ (xs : List Waiter). Contains xs w) e m);
      placed = rw e (turn_taken (lists c.args.rows.now) c.args.start c.turns.done.items (contains nat_cmp c.turns.ready)
          (contains nat_cmp c.pop_first.new.self) c.turns.waiting.items c.in-Some.next
          c.index_mut-in-Some.result.now c.replace-woken.new.dest hd hw c.in-Some.ensures.member
          (set_cut c.turns.ready c.pop_first.new.self c.in-Some.next c.in-Some.ensures.updates)
          c.index_mut-in-Some.ensures.value nothing c.turns.invariant.placed);
    }

pub place-requires-in-woken-clause-row : goal.place-requires-in-woken-clause-row
place-requires-in-woken-clause-row c =
    let t = (c.woken.invariant.pending _ (Contains-get_or c.deref-waiter-items.result.now c.woken.waiter-index no_waiter c.woken-test.true)).reached in
    reached_below (lists c.args.rows.now) c.args.start (length c.args.rows.now) c.args.seen.now c.requires.exact c.requires.len _ t

pub place-requires-in-woken-clause-checked : goal.place-requires-in-woken-clause-checked
place-requires-in-woken-clause-checked c =
    rw c.deref-in-woken.ensures.value
    (c.woken.invariant.pending _ (Contains-get_or c.deref-waiter-items.result.now c.woken.waiter-index no_waiter c.woken-test.true)).checked

pub woken-preserved : goal.woken-preserved
woken-preserved c =
    let placing = subst
    (λ (marks : List Bool). IsPlacing (lists c.args.rows.now) marks (get_or c.deref-waiter-items.result.now c.woken.waiter-index no_waiter)
    (contains nat_cmp c.woken.ready) (contains nat_cmp c.place-in-woken.new.ready) (lists c.woken.waiting.items)
    (lists c.place-in-woken.new.waiting.items))
    c.deref-in-woken.ensures.value c.in_ok-place-2.ensures.placed in
    record {
      len_waiting = c.place-in-woken.ensures.len ∙ c.woken.invariant.len_waiting;
      pending = c.woken.invariant.pending;
      placed = place_step (lists c.args.rows.now) c.args.start (set c.turns.done.items c.in-Some.next true)
          (get_or c.deref-waiter-items.result.now c.woken.waiter-index no_waiter)
          (contains nat_cmp c.woken.ready) (contains nat_cmp c.place-in-woken.new.ready) (lists c.woken.waiting.items)
          (lists c.place-in-woken.new.waiting.items)
          (WokenFrom c.deref-waiter-items.result.now c.woken.waiter-index) (WokenFrom c.deref-waiter-items.result.now (c.woken.waiter-index + 1))
          (λ k v. woken_step c.deref-waiter-items.result.now c.woken.waiter-index k v)
          (c.woken.invariant.pending _ (Contains-get_or c.deref-waiter-items.result.now c.woken.waiter-index no_waiter c.woken-test.true))
          placing c.woken.invariant.placed;
    }

pub turns-smaller : goal.turns-smaller
turns-smaller c =
    let o = c.turns.invariant.placed.sound c.in-Some.next c.in-Some.ensures.member in
    let h = reached_below (lists c.args.rows.now) c.args.start (length c.args.rows.now) c.args.seen.now c.requires.exact c.requires.len
    c.in-Some.next o.reached in
    let hd : c.in-Some.next < length c.turns.done.items = omega (arith, h) in
    let u = unmarked-mark c.turns.done.items c.in-Some.next hd o.fresh in
    omega (arith, u)

pub turns-preserved : goal.turns-preserved
turns-preserved c =
    let o = c.turns.invariant.placed.sound c.in-Some.next c.in-Some.ensures.member in
    let h = reached_below (lists c.args.rows.now) c.args.start (length c.args.rows.now) c.args.seen.now c.requires.exact c.requires.len
    c.in-Some.next o.reached in
    let hd : c.in-Some.next < length c.turns.done.items = omega (arith, h) in
    record {
      len_done = length-set c.turns.done.items c.in-Some.next true ∙ c.turns.invariant.len_done;
      len_waiting = c.woken.invariant.len_waiting;
      placed = placed_weaker _ _ _ _ _ _ _ (λ k t v. woken_end c.deref-waiter-items.result.now c.woken.waiter-index c.woken-test.false k v)
          c.woken.invariant.placed;
      order = rw c.in_ok-push.ensures.items (order_step _ _ _ _ _ _ _ hd c.in-Some.ensures.member
          (set_least c.turns.ready c.in-Some.next c.in-Some.ensures.least) c.turns.invariant.placed c.turns.invariant.order);
      counted = (let u = unmarked-mark c.turns.done.items c.in-Some.next hd o.fresh in
          let l = ap (λ (xs : List ℕ). length xs) c.in_ok-push.ensures.items in
          let p = length_push c.turns.order.items c.in-Some.next in
          let k = c.turns.invariant.counted in
          omega (arith, u, l, p, k));
    }

pub returns-in-Some-first_stuck-clause-cycle : goal.returns-in-Some-first_stuck-clause-cycle
returns-in-Some-first_stuck-clause-cycle c =
    let stuck = c.in-Some-first_stuck.ensures in
    cycle_from_stuck (lists c.args.rows.now) c.args.start c.turns.done.items (contains nat_cmp c.turns.ready)
    (lists c.turns.waiting.items) c.in-Some-first_stuck.field-0
    (set_drained c.turns.ready c.in_default.ensures.variant.1) c.turns.invariant.placed ((c.requires.exact c.in-Some-first_stuck.field-0).0 stuck.0)
    (subst (λ (marks : List Bool). IsFresh marks c.in-Some-first_stuck.field-0) c.deref-2.ensures.value stuck.1)

pub returns-clause-numbering : goal.returns-clause-numbering
returns-clause-numbering c = record {
  each = c.turns.invariant.order.each;
  whole = λ k t.
      c.turns.invariant.order.has k (subst (λ (marks : List Bool). IsMarked marks k) c.deref-2.ensures.value (c.in-None.ensures k ((c.requires.exact k).1 t)));
}
