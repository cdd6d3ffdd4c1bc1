use Rattle.std.proofs.Common.{◌+◌, arith, map, sym, ap, subst, ◌∙◌, refl}
use Rattle.std.specs.Arc.{arc_value}
use Rattle.llb_tree.specs.Tree as tree
use Rattle.llb_tree.specs.Nodes.{kids_of, kids_in, left_in, map_of, pair_of, AreSorted}
use Rattle.llb_tree.specs.Laying.{dress, dress_pair}
use Rattle.llb_tree.specs.declared.node.Kind.TheVariants as kind
use Rattle.llb_tree.proofs.ChildLookup.{kids_below}
use Rattle.llb_tree.proofs.ChildCursor.{at_start, at_next, at_end, fewer}
use Rattle.llb_tree.proofs.NodeDepths.{next_below}
use Rattle.llb_tree.proofs.PiecesAroundName.{sorted_kids}
use Rattle.llb_tree.proofs.PieceEdits.{some_pieced}
use Rattle.llb_tree.proofs.overlay.+dress.Goals.{dressed-in-File+in_ok-try_clone-in-File, dressed-in-Dir+in_ok-list-in-Dir+in_ok-in_pieces-in-Dir}
use Rattle.llb_tree.proofs.overlay.+dress.Goals as goal
use Rattle.llb_tree.proofs.ModeAndOwnerSetting.{dressed_pushed, pairs_taken, if_ok, dress_same, AreSorted-dressed, node_dressed}

pub all_dressed-loop-kid-init : goal.all_dressed-loop-kid-init
all_dressed-loop-kid-init t c = (0, at_start (left_in c.args.kids), ap (map pair_of) c.new-list.ensures.items)

pub all_dressed-loop-kid-smaller : goal.all_dressed-loop-kid-smaller
all_dressed-loop-kid-smaller t c = fewer _ _ _ c.in-Some.ensures

pub all_dressed-dressed-requires : goal.all_dressed-dressed-requires
all_dressed-dressed-requires t c =
    let all = left_in c.args.kids in
    let so_far = c.loop-kid.invariant in
    let kid = c.in-Some.kid.now in
    let next = at_next all (left_in c.loop-kid.left) (left_in c.in-Some.rest) kid so_far.0 so_far.1 c.in-Some.ensures in
    let low = next_below all (left_in c.in-Some.rest) so_far.0 kid next in
    (omega (arith, low, c.decreases), tt)

pub all_dressed-returns : goal.all_dressed-returns
all_dressed-returns t c =
    let all = left_in c.args.kids in
    let so_far = c.loop-kid.invariant in
    pairs_taken c.args.settings.now all c.loop-kid.list.items so_far.0 (at_end all (left_in c.loop-kid.left) so_far.0 so_far.1 c.in_default.ensures) so_far.2

pub all_dressed-loop-kid-preserved : goal.all_dressed-loop-kid-preserved
all_dressed-loop-kid-preserved t c =
    let all = left_in c.args.kids in
    let so_far = c.loop-kid.invariant in
    let kid = c.in-Some.kid.now in
    let next = at_next all (left_in c.loop-kid.left) (left_in c.in-Some.rest) kid so_far.0 so_far.1 c.in-Some.ensures in (
      so_far.0 + 1,
      next.at,
      dressed_pushed c.args.settings.now all c.loop-kid.list.items c.push.new.self.items so_far.0 _ kid
          so_far.2 c.in_ok-push.ensures.items next.here (λ i. (c.in_ok-name.ensures i, c.in_ok-node.ensures i)) next.within,
    )

pub dressed-returns-then-gives_nothing : goal.dressed-returns-then-gives_nothing
dressed-returns-then-gives_nothing t c =
    let same = dress_same c.args.settings.now c.args.node.now (c.gives_nothing.ensures c.if-gives_nothing.true) in
    if_ok c.copy.result (λ n is. is ∙ sym same) c.copy.ensures

pub dressed-all_dressed-requires : goal.dressed-all_dressed-requires
dressed-all_dressed-requires t c =
    let kids = c.of.ensures ∙ ap kids_in (c.as_slice.ensures.value ∙ ap (λ v. v.items) c.deref.ensures) in
    let low = kids_below c.node.inside.kind c.in-Dir.meta c.in-Dir.kids c.args.node.now (left_in c.of.result) c.node.view_is c.in-Dir.is kids in
    (omega (arith, low, c.decreases), tt)

pub dressed-invariant_of-result : goal.dressed-invariant_of-result
dressed-invariant_of-result t c = elim c.match-node.branch [
  | dressed-in-File+in_ok-try_clone-in-File w ↦ rw w.kind-is (record { sorted = tt; full = tt })
  | dressed-in-Dir+in_ok-list-in-Dir+in_ok-in_pieces-in-Dir w ↦
      let settings = c.args.settings.now in
      let was = (arc_value w.in-Dir.kids).items in
      let ps = (arc_value w.in_ok-in_pieces-in-Dir.field-0).items in
      let kids = w.of.ensures ∙ ap kids_in (w.as_slice.ensures.value ∙ ap (λ v. v.items) w.deref.ensures) in
      let listed = w.in_ok-list-in-Dir.ensures ∙ ap (λ ks. map (dress_pair settings) (map pair_of ks)) kids in
      let made = ap (map pair_of) w.in_ok-in_pieces-in-Dir.ensures.same ∙ listed in
      let sorted = subst (λ k. AreSorted (kids_of k)) w.in-Dir.is (sorted_kids _ c.node.invariant) in
      rw w.kind-is (some_pieced ps (AreSorted-dressed settings (kids_in was) (kids_in ps) made sorted) w.in_ok-in_pieces-in-Dir.ensures.full)
]

pub dressed-returns : goal.dressed-returns
dressed-returns t c = elim c.match-node.branch [
  | dressed-in-File+in_ok-try_clone-in-File w ↦
      let settings = c.args.settings.now in
      let was = kind.File w.in-File.meta w.in-File.content in
      ap map_of w.kind-is
      ∙ node_dressed settings was (kind.File w.laid_meta.result w.in_ok-try_clone-in-File.field-0) tt
      (λ i. tree.File (w.laid_meta.ensures i) (w.in_ok-try_clone-in-File.ensures i)) refl
      ∙ ap (dress settings) (ap map_of (sym w.in-File.is) ∙ c.node.view_is)
  | dressed-in-Dir+in_ok-list-in-Dir+in_ok-in_pieces-in-Dir w ↦
      let settings = c.args.settings.now in
      let was = kind.Dir w.in-Dir.meta w.in-Dir.kids in
      let kids = w.of.ensures ∙ ap kids_in (w.as_slice.ensures.value ∙ ap (λ v. v.items) w.deref.ensures) in
      let listed = w.in_ok-list-in-Dir.ensures ∙ ap (λ ks. map (dress_pair settings) (map pair_of ks)) kids in
      let made = ap (map pair_of) w.in_ok-in_pieces-in-Dir.ensures.same ∙ listed in
      let sorted = subst (λ k. AreSorted (kids_of k)) w.in-Dir.is (sorted_kids _ c.node.invariant) in
      ap map_of w.kind-is
      ∙ node_dressed settings was (kind.Dir w.laid_meta-in-Dir.result w.in_ok-in_pieces-in-Dir.field-0) sorted (ap tree.Dir w.laid_meta-in-Dir.ensures) made
      ∙ ap (dress settings) (ap map_of (sym w.in-Dir.is) ∙ c.node.view_is)
]
