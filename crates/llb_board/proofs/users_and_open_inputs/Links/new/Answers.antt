use Rattle.std.proofs.Common.{◌≡◌, ◌∙◌, ◌<◌, ◌+◌, [], map, get_or, sym, ap, subst, rules, arith}
use Rattle.std.specs.Prelude.{All, false}
use Rattle.std.proofs.lemmas.List.{length-map, get_or_default}
use Rattle.llb_loader.specs.declared.graph.Vertex.{Vertex}
use Rattle.llb_board.specs.UsersAndOpenInputs.{IsLinked, IsEntered}
use Rattle.llb_board.proofs.DownstreamMarks.{got_mapped}
use Rattle.llb_board.proofs.UserListConstruction.{Linking, linking_next, linking_end, linking_below}
use Rattle.llb_board.proofs.users_and_open_inputs.Links.new.Goals as goal

pub enter-requires-clause-above : goal.enter-requires-clause-above
enter-requires-clause-above c =
    λ k d low.
    let us = c.loop-v.users.items in
    let so = c.loop-v.invariant.0 in
    let is : get_or (map (λ u. u.items) us) k [] ≡ (get_or us k d).items
    = got_mapped (λ u. u.items) us k (get_or us k d) [] low (get_or_default us k d (get_or us k d) low) in
    subst (All (λ y. y < c.loop-v.v)) is
    (linking_below c.args.vertices.now c.loop-v.v (map (λ u. u.items) us) c.loop-v.counts.items k c.loop-v-test.true so
    (omega (arith, low, so.same_users, length-map us (λ u. u.items))))

pub loop-v-preserved : goal.loop-v-preserved
loop-v-preserved c =
    let us = c.loop-v.users.items in
    let later = map (λ u. u.items) c.enter.new.users.items in
    let x = c.index-vertices-v.result in
    let entered : IsEntered x.inputs c.loop-v.v (map (λ u. u.items) us) later c.in_ok-more.more
    = subst (λ es. IsEntered es c.loop-v.v (map (λ u. u.items) us) later c.in_ok-more.more)
    (c.as_slice.ensures ∙ ap (λ (y : Vertex). y.inputs) (sym c.index-vertices-v.is)) c.in_ok-more.ensures in (
      subst (Linking c.args.vertices.now (c.loop-v.v + 1) later) (sym c.push_reserved.ensures.items)
          (linking_next c.args.vertices.now c.loop-v.v x (map (λ u. u.items) us) later c.loop-v.counts.items c.in_ok-more.more c.loop-v-test.true
          c.index-vertices-v.is c.loop-v.invariant.0 entered),
      search rules,
    )

pub returns : goal.returns
returns c =
    let so = linking_end c.args.vertices.now c.loop-v.v (map (λ u. u.items) c.loop-v.users.items) c.loop-v.counts.items c.loop-v.invariant.0 (search rules) in
    subst (λ l. IsLinked c.args.vertices.now (λ u. false) (record { users = map (λ u. u.items) l.items; counts = c.loop-v.counts.items })) (sym
    c.in_ok-new.ensures.ok) so
