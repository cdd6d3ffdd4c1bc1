use Rattle.std.proofs.Common.{◌≡◌, ◌∙◌, ◌<◌, [], ◌∷◌, ◌++◌, map, length, get_or, set, true, sym, ap, subst, List, ℕ, rules, arith}
use Rattle.std.specs.Prelude.{All}
use Rattle.std.proofs.lemmas.List.Elements.{Contains-get_or}
use Rattle.llb_board.specs.UsersAndOpenInputs.{Visits}
use Rattle.llb_board.proofs.DownstreamMarks.{Spreading, spreading_start, spreading_next, marked_low, got_mapped}
use Rattle.llb_board.proofs.users_and_open_inputs.downstream_marks.spread.Goals as goal
use Rattle.llb_board.proofs.users_and_open_inputs.downstream_marks.spread.Goals.{In-Some}

pub loop-i-init : goal.loop-i-init
loop-i-init c =
    let us = map (λ u. u.items) c.args.users.now in
    let is : c.push_reserved.new.self.items ≡ c.args.v ∷ [] = c.push_reserved.ensures.items ∙ ap (λ l. l ++ c.args.v ∷ []) c.requires.empty in (
      subst (λ (r : List ℕ). Spreading us c.args.v c.args.marks.now (set c.args.marks.now c.args.v true) r 0) (sym is) (spreading_start us c.args.v
          c.args.marks.now c.requires.low),
      search rules,
    )

is_there : (c : In-Some) → c.loop-i.i < length c.loop-i.reached.items
is_there c = search rules

is_next : (c : In-Some) → c.in-Some.next ≡ get_or c.loop-i.reached.items c.loop-i.i 0
is_next c = search rules

low_next : (c : In-Some) → c.in-Some.next < length c.args.marks.now
low_next c =
    let s = c.loop-i.invariant.0 in
    let low = marked_low c.loop-i.marks (get_or c.loop-i.reached.items c.loop-i.i 0)
    (s.marked (get_or c.loop-i.reached.items c.loop-i.i 0) (Contains-get_or c.loop-i.reached.items c.loop-i.i 0 (is_there c))) in
    omega (arith, low, s.same, is_next c)

pub bounds-users-next : goal.bounds-users-next
bounds-users-next c = omega (arith, low_next (goal.at.bounds-users-next c).In-Some, c.requires.count)

pub visit-requires-clause-below : goal.visit-requires-clause-below
visit-requires-clause-below c =
    let s = c.loop-i.invariant.0 in
    let users = c.index-users-next.result in
    let low : All (λ x. x < length c.args.marks.now) users.items
    = subst (λ l. All (λ x. x < length c.args.marks.now) l.items) (sym c.index-users-next.is) (c.requires.below c.in-Some.next users (omega (
      arith,
      low_next
          (goal.at.visit-requires-clause-below c).In-Some,
      c.requires.count,
    ))) in
    let of_marks : All (λ x. x < length c.loop-i.marks) users.items = subst (λ n. All (λ x. x < n) users.items) (sym s.same) low in
    subst (All (λ x. x < length c.loop-i.marks)) (sym c.deref-in-loop-i.ensures.value) of_marks

pub loop-i-preserved : goal.loop-i-preserved
loop-i-preserved c =
    let p = (goal.at.loop-i-preserved c).In-Some in
    let us : List (List ℕ) = map (λ u. u.items) c.args.users.now in
    let next = get_or c.loop-i.reached.items c.loop-i.i 0 in
    let low : c.in-Some.next < length c.args.users.now = omega (arith, low_next p, c.requires.count) in
    let seen : c.deref-in-loop-i.result.now ≡ get_or us next []
    = c.deref-in-loop-i.ensures.value ∙ sym (got_mapped (λ u. u.items) c.args.users.now c.in-Some.next c.index-users-next.result [] low c.index-users-next.is)
    ∙ ap (λ n. get_or us n []) (is_next p) in (
      spreading_next us c.args.v c.args.marks.now c.loop-i.marks c.visit.new.marks c.loop-i.reached.items c.visit.new.reached.items c.loop-i.i
          c.loop-i.invariant.0 (is_there p)
          (subst (λ l. Visits l c.loop-i.marks c.visit.new.marks c.loop-i.reached.items c.visit.new.reached.items) seen c.visit.ensures.visits),
      c.visit.ensures.room ∙ c.loop-i.invariant.1,
    )
