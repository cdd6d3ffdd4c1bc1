use Rattle.std.proofs.Common.{◌≡◌, ◌∙◌, ◌<◌, [], length, map, get_or, sym, ap, subst, arith}
use Rattle.std.specs.Prelude.{All}
use Rattle.std.proofs.lemmas.List.{length-map, get_or_default}
use Rattle.llb_board.specs.UsersAndOpenInputs.{Linked}
use Rattle.llb_board.proofs.DownstreamMarks.{got_mapped}
use Rattle.llb_board.proofs.users_and_open_inputs.Links.spread.Goals as goal

pub spread-requires-clause-below : goal.spread-requires-clause-below
spread-requires-clause-below c =
    λ k d low.
    let us = c.deref-2.result.now in
    let seen : c.args.self.now.users ≡ map (λ u. u.items) us
    = ap (λ (l : Linked). l.users) (sym c.self.view_is) ∙ ap (λ l. map (λ u. u.items) l) (sym (c.deref-2.ensures.value ∙ ap (λ v. v.items) c.deref.ensures)) in
    let is : get_or (map (λ u. u.items) us) k [] ≡ (get_or us k d).items
    = got_mapped (λ u. u.items) us k (get_or us k d) [] low (get_or_default us k d (get_or us k d) low) in
    let below : All (λ l. All (λ x. x < length c.args.marks.now) l) (map (λ u. u.items) us)
    = subst (All (λ l. All (λ x. x < length c.args.marks.now) l)) seen c.requires.below in
    subst (All (λ x. x < length c.args.marks.now)) is (below k [] (omega (arith, low, length-map us (λ u. u.items))))
