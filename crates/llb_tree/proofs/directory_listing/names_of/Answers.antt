use Rattle.std.proofs.Common.{◌≡◌, ◌+◌, [], ◌∷◌, ◌++◌, Ok, sym, ap, ◌∙◌, take, add-one}
use Rattle.std.proofs.lemmas.List.{take_all}
use Rattle.llb_tree.specs.Nodes.{flat, name_of, left_in}
use Rattle.llb_tree.proofs.ChildCursor.{at_start, at_next, at_end, fewer}
use Rattle.llb_tree.proofs.Entries.{entries-root}
use Rattle.llb_tree.proofs.DirectoryListing.{tops, tops_more}
use Rattle.llb_tree.proofs.directory_listing.names_of.Goals as goal

pub loop-kid-init : goal.loop-kid-init
loop-kid-init c = (0, at_start (left_in c.args.kids), c.new-names.ensures.items)

pub loop-kid-smaller : goal.loop-kid-smaller
loop-kid-smaller c = fewer _ _ _ c.in-Some.ensures

pub loop-kid-preserved : goal.loop-kid-preserved
loop-kid-preserved c =
    let all = left_in c.args.kids in
    let so_far = c.loop-kid.invariant in
    let kid = c.in-Some.kid.now in
    let next = at_next all (left_in c.loop-kid.left) (left_in c.in-Some.rest) kid so_far.0 so_far.1 c.in-Some.ensures in
    let entries = entries-root kid.node _ (sym c.entry-entry.ensures) in
    let same : c.in_ok-copy.field-0 ≡ name_of kid = cc (c.in_ok-copy.ensures, c.deref.ensures) in (
      so_far.0 + 1,
      next.at,
      c.in_ok-push.ensures.items
          ∙ (λ i. so_far.2 i ++ same i ∷ [])
          ∙ tops_more all so_far.0 kid _ entries.0 next.within next.here entries.1
          ∙ ap (λ n. tops (flat (take n all))) (sym (add-one so_far.0)),
    )

pub returns : goal.returns
returns c =
    let all = left_in c.args.kids in
    let so_far = c.loop-kid.invariant in
    let past = at_end all (left_in c.loop-kid.left) so_far.0 so_far.1 c.in_default.ensures in
    ap (λ o. Ok o) (sym (so_far.2 ∙ ap (λ ks. tops (flat ks)) (take_all so_far.0 all past)))
