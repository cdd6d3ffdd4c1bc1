use Rattle.std.proofs.Common.{◌≡◌, ◌∙◌, ◌<◌, ◌+◌, ◌^◌, [], ◌∷◌, ◌++◌, length, map, get_or, set, take, sym, subst, ap, rules, arith}
use Rattle.std.proofs.lemmas.List.{take_more, length-map, map-set, get_or_default}
use Rattle.std.specs.Prelude.{All, if◌then◌else◌, false}
use Rattle.llb_board.specs.UsersAndOpenInputs.{IsEntered, leads}
use Rattle.llb_board.proofs.DownstreamMarks.{got_mapped}
use Rattle.llb_board.proofs.UserListConstruction.{entered_none, entered_more}
use Rattle.llb_board.proofs.OpenInputs.{count_few}
use Rattle.llb_loader.specs.declared.graph.Edge.{Edge}
use Rattle.llb_board.proofs.users_and_open_inputs.enter.Goals as goal
use Rattle.llb_board.proofs.users_and_open_inputs.enter.Goals.{In_ok-more}

abbrev edge_at : In_ok-more → Edge
edge_at c = get_or c.args.edges.now c.loop-edge.edge-index (record { vertex = 0; index = 0 })

pub loop-edge-init : goal.loop-edge-init
loop-edge-init c = entered_none c.args.v (map (λ u. u.items) c.args.users.now.items)

same_length : (c : In_ok-more) → length (map (λ u. u.items) c.args.users.now.items) ≡ length c.args.users.now.items
same_length c = length-map c.args.users.now.items _

-- the list as it was, and what is left of it
list_was : (c : In_ok-more) → c.index_mut.result.now.items ≡ get_or (map (λ u. u.items) c.loop-edge.users.items) (edge_at c).vertex []
list_was c =
    let low : (edge_at c).vertex < length c.loop-edge.users.items
    = omega (
      arith,
      c.requires.below c.loop-edge.edge-index (record { vertex = 0; index = 0 }) c.loop-edge-test.true,
      same_length c,
      length-map
          c.loop-edge.users.items (λ u. u.items),
      c.loop-edge.invariant.same,
    ) in
    sym (got_mapped (λ u. u.items) c.loop-edge.users.items (edge_at c).vertex c.index_mut.result.now [] low (search rules))

below : (c : In_ok-more) → leads (take c.loop-edge.edge-index c.args.edges.now) (edge_at c).vertex ≡ false
    → All (λ x. x < c.args.v) c.index_mut.result.now.items
below c none =
    let u = (edge_at c).vertex in
    let old = c.args.users.now.items in
    let first = c.index_mut.result.now in
    let so = c.loop-edge.invariant in
    let low : u < length old = c.requires.below c.loop-edge.edge-index (record { vertex = 0; index = 0 }) c.loop-edge-test.true in
    let fits : u < length (map (λ u. u.items) old) = omega (arith, low, same_length c) in
    let was : get_or (map (λ u. u.items) old) u [] ≡ (get_or old u first).items
    = got_mapped (λ u. u.items) old u (get_or old u first) [] low (get_or_default old u first (get_or old u first) low) in
    let is : c.index_mut.result.now.items ≡ (get_or old u first).items
    = list_was c ∙ so.lists u fits
    ∙ ap (λ b. if b then get_or (map (λ u. u.items) old) u [] ++ c.args.v ∷ [] else get_or (map (λ u. u.items) old) u []) none ∙ was in
    subst (All (λ x. x < c.args.v)) (sym is) (c.requires.above u first low)

entered : (c : In_ok-more) → IsEntered (take (c.loop-edge.edge-index + 1) c.args.edges.now) c.args.v (map (λ u. u.items) c.args.users.now.items)
    (set (map (λ u. u.items) c.loop-edge.users.items) (edge_at c).vertex c.enter_once.new.list.items) (c.loop-edge.more + c.in_ok-more.field-0)
entered c =
    let es = c.args.edges.now in
    let i = c.loop-edge.edge-index in
    let old = map (λ u. u.items) c.args.users.now.items in
    let now = map (λ u. u.items) c.loop-edge.users.items in
    let so = c.loop-edge.invariant in
    let e = edge_at c in
    let low : e.vertex < length old = omega (arith, c.requires.below i (record { vertex = 0; index = 0 }) c.loop-edge-test.true, same_length c) in
    subst (λ l. IsEntered l c.args.v old (set now e.vertex c.enter_once.new.list.items) (c.loop-edge.more + c.in_ok-more.field-0))
    (sym (take_more es i (record { vertex = 0; index = 0 }) c.loop-edge-test.true))
    (entered_more (take i es) e c.args.v old now c.loop-edge.more c.in_ok-more.field-0 c.enter_once.new.list.items low so
    (λ led. let r = c.in_ok-more.ensures.again (get_or old e.vertex []) (list_was c ∙ so.lists e.vertex low
    ∙ ap (λ b. if b then get_or old e.vertex [] ++ c.args.v ∷ [] else get_or old e.vertex []) led) in (r.0 ∙ list_was c, r.1))
    (λ led. let r = c.in_ok-more.ensures.fresh (below c led) in (r.0 ∙ ap (λ l. l ++ c.args.v ∷ []) (list_was c), r.1)))

pub overflow_add-more : goal.overflow_add-more
overflow_add-more c =
    let so = entered c in
    let few = count_few (leads (take (c.loop-edge.edge-index + 1) c.args.edges.now)) (length (map (λ u. u.items) c.args.users.now.items)) in
    let fits : c.loop-edge.more + c.in_ok-more.field-0 < 2 ^ 32 = omega (arith, few, so.counted, same_length c, c.requires.few) in
    search (rules, fits)

pub loop-edge-preserved : goal.loop-edge-preserved
loop-edge-preserved c =
    subst (λ l. IsEntered (take (c.loop-edge.edge-index + 1) c.args.edges.now) c.args.v (map (λ u. u.items) c.args.users.now.items) l (c.loop-edge.more +
    c.in_ok-more.field-0))
    (sym (map-set (λ u. u.items) c.loop-edge.users.items (edge_at c).vertex c.enter_once.new.list)) (entered c)
