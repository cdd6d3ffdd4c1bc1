use Rattle.std.proofs.Common.{◌≡◌, ◌+◌, ◌≤◌, [], Option, Some, None}
use Rattle.std.proofs.Common.{Vec, Global, arith, map, option_map, unwrap_or, sym, ap, subst, ◌∙◌, refl}
use Rattle.std.proofs.lemmas.List.{take_all}
use denote.Param.Weighed.{most}
use Rattle.std.specs.Arc.{arc_value}
use Rattle.std.specs.FinMap as finite
use Rattle.llb_tree.specs.Nodes.{AreSorted, name_of, child, look_in, kids_of, kids_in, left_in, rows_in, map_of, pair_of}
use Rattle.llb_tree.specs.ChildPieces.{ArePieced, row_pairs}
use Rattle.llb_tree.proofs.ChildLookup.{le_pieces}
use Rattle.llb_tree.specs.Overlay.{below_file, over, over_at}
use Rattle.llb_tree.specs.Laying.{Lays, IsOver, AreLaid, PiecesLaid, those, those_pieces}
use Rattle.llb_tree.specs.declared.node.Child.{Child}
use Rattle.llb_tree.specs.declared.node.Node.TheDeep.{deep-Child, deep-Piece}
use Rattle.llb_tree.specs.declared.node.Kind.TheVariants as kind
use Rattle.llb_tree.proofs.CoveringChildren.{HasLaid, none_yet, same_length, one_stays, one_written, all_laid, file_stays, new_stays, dir_stays}
use Rattle.llb_tree.proofs.ChildCursor.{at_start, at_next, at_end, fewer}
use Rattle.llb_tree.proofs.ModeAndOwnerSetting.{get-dress, dress_same}
use Rattle.llb_tree.proofs.NodeDepths.{next_below}
use Rattle.llb_tree.proofs.LaidChildInsertion.{err_holds, laid_pushed}
use Rattle.llb_tree.proofs.LaidPieces.{HaveLaid, no_piece_yet, as_many, piece_stays, piece_written, all_pieces, lays_pieces, laid_pieced, lays_put}
use Rattle.llb_tree.proofs.NodeLaying.{lone_file, root_there, on_ok, node_laid, over_file, over_none, under_file}
use Rattle.llb_tree.proofs.PiecesAroundName.{sorted_kids}
use Rattle.llb_tree.proofs.NodeReplacement.{same_dir, same_pieces}
use Rattle.llb_tree.proofs.overlay.+lay.Goals.{lay_node-in_default-via-in-Dir+in_default, lay_node-in_default-via-in_default}
use Rattle.llb_tree.proofs.overlay.+lay.Goals.{laid_rows-in-Dir+in_ok-node+in-Some+in_ok-with_node}
use Rattle.llb_tree.proofs.overlay.+lay.Goals.{laid_rows-in-Dir+in_ok-node+in_default-2}
use Rattle.llb_tree.proofs.overlay.+lay.Goals.{laid_rows-in_default}
use Rattle.llb_tree.proofs.overlay.+lay.Goals.{laid_all-in-Some+in_ok-with_rows, laid_all-in_default}
use Rattle.llb_tree.proofs.overlay.+lay.Goals as goal

-- ---- one upper child

pub laid_child-returns-in_ok-lay_node-in-Some : goal.laid_child-returns-in_ok-lay_node-in-Some
laid_child-returns-in_ok-lay_node-in-Some t c =
    let kid = c.args.upper.now in
    let kids = kids_in c.args.kids.now in
    record {
      named = c.in_ok-name.ensures;
      laid = λ q. c.in_ok-lay_node-in-Some.ensures.ok q ∙ ap (λ o. over_at c.args.settings.now (look_in o) (finite.get kid.node) q)
          (ap (λ t. Some t) c.in_ok-node-in-Some.ensures ∙ c.in-Some.ensures ∙ ap (λ n. child n kids) c.deref.ensures);
    }

pub laid_child-returns-in_ok-node-in-None : goal.laid_child-returns-in_ok-node-in-None
laid_child-returns-in_ok-node-in-None t c =
    let kid = c.args.upper.now in
    let kids = kids_in c.args.kids.now in
    let settings = c.args.settings.now in
    record {
      named = c.in_ok-name.ensures;
      laid = λ q. ap (λ t. finite.get t q) c.in_ok-node-in-None.ensures ∙ get-dress settings kid.node q
          ∙ sym (over_none settings (finite.get kid.node q) (below_file (finite.get kid.node) q))
          ∙ ap (λ o. over_at settings (look_in o) (finite.get kid.node) q) (c.in-None.ensures ∙ ap (λ n. child n kids) c.deref.ensures);
    }

pub laid_over-returns-in_default : goal.laid_over-returns-in_default
laid_over-returns-in_default t c old there =
    new_stays c.args.settings.now c.requires.settings old c.args.upper.now (sym there ∙ ap (option_map (λ k. k.now.node)) c.in_default.is)

pub laid_over-returns-then-branch : goal.laid_over-returns-then-branch
laid_over-returns-then-branch t c old there q =
    let kid = c.args.upper.now in
    let laid = c.in_ok-lay_node.ensures in
    ap (λ s. finite.get s q) (sym (laid.whole c.if-branch.true)) ∙ laid.ok q
    ∙ ap (λ o. over_at c.args.settings.now (look_in o) (finite.get kid.node) q)
    (ap (λ t. Some t) c.in_ok-node.ensures ∙ sym (ap (option_map (λ k. k.now.node)) c.in-Some.is) ∙ there)

pub laid_over-returns : goal.laid_over-returns
laid_over-returns t c old there q =
    let kid = c.args.upper.now in
    c.in_ok-lay_node.ensures.ok q
    ∙ ap (λ o. over_at c.args.settings.now (look_in o) (finite.get kid.node) q)
    (ap (λ t. Some t) c.in_ok-node.ensures ∙ sym (ap (option_map (λ k. k.now.node)) c.in-Some.is) ∙ there)

-- ---- upper children over those whose names they have

pub laid_rows-loop-i-init : goal.laid_rows-loop-i-init
laid_rows-loop-i-init t c = none_yet c.args.settings.now (kids_in c.args.kids.now) c.args.upper.now

pub laid_rows-with_node-requires : goal.laid_rows-with_node-requires
laid_rows-with_node-requires t c = omega (
  arith,
  c.loop-i-test.true,
  same_length c.args.settings.now (kids_in c.args.kids.now) c.loop-i.i c.args.upper.now (those c.loop-i.made c.args.upper.now) c.loop-i.invariant,
)

pub laid_rows-loop-i-preserved : goal.laid_rows-loop-i-preserved
laid_rows-loop-i-preserved t c =
    let w = c.args.settings.now in
    let old = kids_in c.args.kids.now in
    let upper = c.args.upper.now in
    let kid = c.index-upper-i.result in
    let so_far = map pair_of (those c.loop-i.made upper) in
    let stays = one_stays w old c.loop-i.i upper so_far kid c.loop-i-test.true c.index-upper-i.is c.loop-i.invariant in
    let kept = λ (o : Option (Vec Child Global)). HasLaid w old (c.loop-i.i + 1) upper (map pair_of (those o upper)) in
    elim c.match-kid.branch [
      | laid_rows-in-Dir+in_ok-node+in-Some+in_ok-with_node x ↦
          let there = x.child_near-lower.ensures ∙ ap (λ n. child n old) (x.deref.ensures ∙ ap name_of c.kid.view_is) in
          one_written w old c.loop-i.i upper so_far kid c.loop-i-test.true c.index-upper-i.is c.loop-i.invariant x.in-Some.node _
          (subst (λ o. IsOver w old kid (unwrap_or o kid.node)) x.in-Some.is (x.in_ok-node.ensures old there))
          (ap (λ o. map pair_of (those o upper)) x.made-is ∙ x.in_ok-with_node.ensures)
      | laid_rows-in-Dir+in_ok-node+in_default-2 x ↦
          let there = x.child_near-lower.ensures ∙ ap (λ n. child n old) (x.deref.ensures ∙ ap name_of c.kid.view_is) in
          subst kept (sym x.made-is)
          (stays (subst (λ o. IsOver w old kid (unwrap_or o kid.node)) x.in_default-2.is (x.in_ok-node.ensures old there)))
      | laid_rows-in_default x ↦ subst kept (sym x.made-is) (stays (file_stays w c.requires.settings old kid
          (lone_file _ x.in_default.field-0 x.in_default.field-1 kid.node (ap (λ (k : Child). k.node) c.kid.view_is) x.in_default.is)))
    ]

pub laid_rows-returns : goal.laid_rows-returns
laid_rows-returns t c =
    all_laid c.args.settings.now (kids_in c.args.kids.now) c.loop-i.i c.args.upper.now (those c.loop-i.made c.args.upper.now)
    c.loop-i-test.false c.loop-i.invariant

pub lay_all-returns-in_ok-kids-in-None-clause-ok : goal.lay_all-returns-in_ok-kids-in-None-clause-ok
lay_all-returns-in_ok-kids-in-None-clause-ok t c =
    let w = c.args.wanted.now in
    let old = (arc_value c.args.kids.now).items in
    let upper = (arc_value c.args.upper.now).items in
    let laid : PiecesLaid w (kids_in old) upper (those_pieces c.in_ok-laid_all.field-0 upper) =
    (subst (λ ks. PiecesLaid w (kids_in ks) upper (those_pieces c.in_ok-laid_all.field-0 upper))
    (c.as_slice.ensures.value ∙ ap (λ v. v.items) c.deref.ensures)
    (subst (λ us. PiecesLaid w (kids_in c.as_slice.result.now) us (those_pieces c.in_ok-laid_all.field-0 us))
    (c.as_slice-2.ensures.value ∙ ap (λ v. v.items) c.deref-2.ensures) c.in_ok-laid_all.ensures)) in
    let same = ap (λ v. v.items) (sym c.in_ok-kids-in-None.ensures) in
    subst (λ ks. Lays w (kids_in upper) (kids_in old) (kids_in ks)) same (lays_pieces w (kids_in old) upper upper c.requires.upper c.requires.covers
    (subst (λ o. PiecesLaid w (kids_in old) upper (those_pieces o upper)) c.in-None.is laid))

pub lay_all-returns-in_ok-kids-in-Some-clause-ok : goal.lay_all-returns-in_ok-kids-in-Some-clause-ok
lay_all-returns-in_ok-kids-in-Some-clause-ok t c =
    let w = c.args.wanted.now in
    let old = (arc_value c.args.kids.now).items in
    let upper = (arc_value c.args.upper.now).items in
    let laid : PiecesLaid w (kids_in old) upper (those_pieces c.in_ok-laid_all.field-0 upper) =
    (subst (λ ks. PiecesLaid w (kids_in ks) upper (those_pieces c.in_ok-laid_all.field-0 upper))
    (c.as_slice.ensures.value ∙ ap (λ v. v.items) c.deref.ensures)
    (subst (λ us. PiecesLaid w (kids_in c.as_slice.result.now) us (those_pieces c.in_ok-laid_all.field-0 us))
    (c.as_slice-2.ensures.value ∙ ap (λ v. v.items) c.deref-2.ensures) c.in_ok-laid_all.ensures)) in
    let same = ap (λ v. v.items) (sym c.in_ok-kids-in-Some.ensures.ok) in
    subst (λ ks. Lays w (kids_in upper) (kids_in old) (kids_in ks)) same
    (lays_pieces w (kids_in old) upper c.in-Some.list.items c.requires.upper c.requires.covers
    (subst (λ o. PiecesLaid w (kids_in old) upper (those_pieces o upper)) c.in-Some.is laid))

pub lay_all-returns-in_ok-kids-in-Some-clause-pieced : goal.lay_all-returns-in_ok-kids-in-Some-clause-pieced
lay_all-returns-in_ok-kids-in-Some-clause-pieced t c =
    let w = c.args.wanted.now in
    let old = (arc_value c.args.kids.now).items in
    let upper = (arc_value c.args.upper.now).items in
    let laid : PiecesLaid w (kids_in old) upper (those_pieces c.in_ok-laid_all.field-0 upper) =
    (subst (λ ks. PiecesLaid w (kids_in ks) upper (those_pieces c.in_ok-laid_all.field-0 upper))
    (c.as_slice.ensures.value ∙ ap (λ v. v.items) c.deref.ensures)
    (subst (λ us. PiecesLaid w (kids_in c.as_slice.result.now) us (those_pieces c.in_ok-laid_all.field-0 us))
    (c.as_slice-2.ensures.value ∙ ap (λ v. v.items) c.deref-2.ensures) c.in_ok-laid_all.ensures)) in
    let same = ap (λ v. v.items) (sym c.in_ok-kids-in-Some.ensures.ok) in
    subst ArePieced same (laid_pieced w (kids_in old) upper c.in-Some.list.items c.requires.upper c.requires.covers
    (subst (λ o. PiecesLaid w (kids_in old) upper (those_pieces o upper)) c.in-Some.is laid))

pub laid_all-loop-i-init : goal.laid_all-loop-i-init
laid_all-loop-i-init t c = no_piece_yet c.args.settings.now (kids_in c.args.kids.now) c.args.upper.now

pub laid_all-with_rows-requires : goal.laid_all-with_rows-requires
laid_all-with_rows-requires t c = omega (
  arith,
  c.loop-i-test.true,
  as_many c.args.settings.now (kids_in c.args.kids.now) c.loop-i.i c.args.upper.now (those_pieces c.loop-i.made c.args.upper.now) c.loop-i.invariant,
)

pub laid_all-loop-i-preserved : goal.laid_all-loop-i-preserved
laid_all-loop-i-preserved t c =
    let w = c.args.settings.now in
    let old = kids_in c.args.kids.now in
    let us = c.args.upper.now in
    let piece = c.index-upper-i.result in
    let so_far = map row_pairs (those_pieces c.loop-i.made us) in
    let rows : c.as_slice.result.now ≡ rows_in piece = c.as_slice.ensures.value ∙ ap (λ v. v.items) c.deref.ensures in
    let laid = λ (o : Option (Vec Child Global)) (is : c.in_ok-rows.field-0 ≡ o). subst (λ ks. AreLaid w old ks (those o ks)) rows
    (subst (λ o. AreLaid w old c.as_slice.result.now (those o c.as_slice.result.now)) is c.in_ok-rows.ensures) in
    elim c.match-branch-2.branch [
      | laid_all-in-Some+in_ok-with_rows x ↦
          piece_written w old c.loop-i.i us so_far piece c.loop-i-test.true c.index-upper-i.is c.loop-i.invariant x.in-Some.rows.items _ (laid _ x.in-Some.is)
          (ap (λ o. map row_pairs (those_pieces o us)) x.made-is ∙ x.in_ok-with_rows.ensures)
      | laid_all-in_default x ↦
          subst (λ o. HaveLaid w old (c.loop-i.i + 1) us (map row_pairs (those_pieces o us))) (sym x.made-is)
          (piece_stays w old c.loop-i.i us so_far piece c.loop-i-test.true c.index-upper-i.is c.loop-i.invariant (laid _ x.in_default.is))
    ]

pub laid_all-returns : goal.laid_all-returns
laid_all-returns t c =
    all_pieces c.args.settings.now (kids_in c.args.kids.now) c.loop-i.i c.args.upper.now (those_pieces c.loop-i.made c.args.upper.now) c.loop-i-test.false
    c.loop-i.invariant

-- ---- children over children

pub laid_children-loop-kid-init : goal.laid_children-loop-kid-init
laid_children-loop-kid-init t c = (
  0,
  at_start (left_in c.args.upper),
  subst (AreLaid c.args.settings.now (kids_in c.args.kids.now) []) (sym c.new-ready.ensures.items) tt,
)

pub laid_children-loop-kid-smaller : goal.laid_children-loop-kid-smaller
laid_children-loop-kid-smaller t c = fewer _ _ _ c.in-Some.ensures

pub laid_children-laid_child-requires : goal.laid_children-laid_child-requires
laid_children-laid_child-requires t c =
    let all = left_in c.args.upper in
    let so_far = c.loop-kid.invariant in
    let kid = c.in-Some.kid.now in
    let next = at_next all (left_in c.loop-kid.left) (left_in c.in-Some.rest) kid so_far.0 so_far.1 c.in-Some.ensures in
    let low = next_below all (left_in c.in-Some.rest) so_far.0 kid next in
    (omega (arith, low, c.decreases), c.requires)

pub laid_children-loop-kid-preserved : goal.laid_children-loop-kid-preserved
laid_children-loop-kid-preserved t c =
    let all = left_in c.args.upper in
    let so_far = c.loop-kid.invariant in
    let kid = c.in-Some.kid.now in
    let next = at_next all (left_in c.loop-kid.left) (left_in c.in-Some.rest) kid so_far.0 so_far.1 c.in-Some.ensures in (
      so_far.0 + 1,
      next.at,
      laid_pushed c.args.settings.now (kids_in c.args.kids.now) all c.loop-kid.ready.items c.push.new.self.items so_far.0 kid _
          next.within next.here c.in_ok-push.ensures.items so_far.2 c.in_ok-laid_child.ensures,
    )

pub laid_children-returns : goal.laid_children-returns
laid_children-returns t c =
    let all = left_in c.args.upper in
    let so_far = c.loop-kid.invariant in
    subst (λ us. AreLaid c.args.settings.now (kids_in c.args.kids.now) us c.loop-kid.ready.items)
    (take_all so_far.0 all (at_end all (left_in c.loop-kid.left) so_far.0 so_far.1 c.in_default.ensures)) so_far.2

pub lay_each-laid_children-requires : goal.lay_each-laid_children-requires
lay_each-laid_children-requires t c =
    let low : most deep-Child (left_in c.of.result) ≤ most deep-Piece c.args.upper.now =
    subst (λ ks. most deep-Child ks ≤ most deep-Piece c.args.upper.now) (sym c.of.ensures) (le_pieces _ c.args.upper.now (omega arith)) in (
      omega (arith, low, c.decreases),
      subst ArePieced (sym (c.as_slice.ensures.value ∙ ap (λ v. v.items) c.deref.ensures)) c.requires.lower,
    )

pub lay_each-returns-clause-ok : goal.lay_each-returns-clause-ok
lay_each-returns-clause-ok t c =
    let settings = c.args.settings.now in
    let upper = c.args.upper.now in
    let old = (arc_value c.args.kids.now).items in
    let ready = c.in_ok-ready.ready.items in
    let laid : AreLaid settings (kids_in old) (kids_in upper) ready = subst (λ us. AreLaid settings (kids_in old) us ready) c.of.ensures
    (subst (λ ks. AreLaid settings (kids_in ks) (left_in c.of.result) ready) (c.as_slice.ensures.value ∙ ap (λ v. v.items) c.deref.ensures)
    c.in_ok-ready.ensures) in
    on_ok c.put_all.result (lays_put settings old upper (arc_value c.put_all.new.kids).items ready c.requires.lower c.requires.upper laid) c.put_all.ensures.ok

-- ---- a node over a node

pub lay_node-returns-in_err-whole-in-Dir-Dir-clause-err : goal.lay_node-returns-in_err-whole-in-Dir-Dir-clause-err
lay_node-returns-in_err-whole-in-Dir-Dir-clause-err t c =
    let at = c.in-Dir-Dir in
    err_holds c.from_residual.result
    (same_pieces (kind.Dir at.meta at.kids) (kind.Dir at.meta c.lay_children.new.kids) refl c.in_err-whole-in-Dir-Dir.ensures.err
    ∙ ap map_of (sym at.is-0) ∙ c.lower.view_is)

pub lay_node-returns-in_ok-whole-in-Dir-Dir-clause-ok : goal.lay_node-returns-in_ok-whole-in-Dir-Dir-clause-ok
lay_node-returns-in_ok-whole-in-Dir-Dir-clause-ok t c q =
    let w = c.args.settings.now in
    let at = c.in-Dir-Dir in
    let lower_is = ap map_of (sym at.is-0) ∙ c.lower.view_is in
    let upper_is = ap map_of (sym at.is-1) ∙ c.upper.view_is in
    node_laid w (kind.Dir at.meta at.kids) (kind.Dir at.laid at.list) (kind.Dir c.met.result c.lay_children.new.kids) at.meta at.laid
    (subst (λ k. AreSorted (kids_of k)) at.is-0 (sorted_kids _ c.lower.invariant))
    (subst (λ k. AreSorted (kids_of k)) at.is-1 (sorted_kids _ c.upper.invariant))
    refl refl c.met.ensures
    c.in_ok-whole-in-Dir-Dir.ensures.ok q
    ∙ (λ i. over_at w (finite.get (lower_is i)) (finite.get (upper_is i)) q)

pub lay_node-returns-in_ok-whole-in-Dir-Dir-clause-whole : goal.lay_node-returns-in_ok-whole-in-Dir-Dir-clause-whole
lay_node-returns-in_ok-whole-in-Dir-Dir-clause-whole t c is =
    let at = c.in-Dir-Dir in
    let stand = c.in_ok-whole-in-Dir-Dir.ensures.whole is in
    same_dir (kind.Dir at.laid at.list) (kind.Dir c.met.result c.lay_children.new.kids)
    (c.met.ensures ∙ dir_stays c.args.settings.now stand.settings at.meta at.laid) stand.same
    ∙ ap map_of (sym at.is-1) ∙ c.upper.view_is

pub lay_node-returns-in_ok-lower-inside-in_default-clause-ok : goal.lay_node-returns-in_ok-lower-inside-in_default-clause-ok
lay_node-returns-in_ok-lower-inside-in_default-clause-ok t c q =
    let settings = c.args.settings.now in
    let below = c.args.lower.now in
    let above = c.args.upper.now in
    let lower = finite.get below in
    let upper = finite.get above in
    ap (λ x. finite.get x q) (c.branch.view_is ∙ c.in_ok-lower-inside-in_default.ensures) ∙ get-dress settings above q
    ∙ elim c.in_default.branch as (λ _. option_map (over settings None) (upper q) ≡ over_at settings lower upper q) [
      | lay_node-in_default-via-in-Dir+in_default w ↦
          let file = w.in_default in
          sym (over_file settings lower upper q (lone_file c.upper.inside.kind file.field-0-1 file.field-1-1 above c.upper.view_is file.is-1))
      | lay_node-in_default-via-in_default w ↦
          let file = w.in_default in
          let lone = lone_file c.lower.inside.kind file.field-0-0 file.field-1-0 below c.lower.view_is file.is-0 in
          sym (under_file settings lower upper q _ lone (root_there c.upper.inside.kind above c.upper.view_is))
    ]

pub lay_node-returns-in_ok-lower-inside-in_default-clause-whole : goal.lay_node-returns-in_ok-lower-inside-in_default-clause-whole
lay_node-returns-in_ok-lower-inside-in_default-clause-whole t c is =
    c.branch.view_is ∙ c.in_ok-lower-inside-in_default.ensures ∙ dress_same c.args.settings.now c.args.upper.now (c.gives_nothing.ensures is)
