use Rattle.std.proofs.Common.{◌≡◌, refl, sym, ap, subst, ◌∙◌, is_some, true≢false, arith}
use Rattle.llb_tree.specs.Nodes.{kids_of, own_entry, kids_in, left_in, AreSorted}
use Rattle.llb_tree.proofs.NodeComparison.{dirs_same, files_same, file_no_dir, differ, agree}
use Rattle.llb_tree.proofs.NodeComparison.{all_alike, none_yet, one_more, one_less, same_name, same_node, one_further, equal, unequal}
use Rattle.llb_tree.proofs.ChildLookup.{kids_below}
use Rattle.llb_tree.proofs.ChildCursor.{fewer}
use Rattle.llb_tree.proofs.NodeDepths.{first_below}
use Rattle.llb_tree.proofs.PiecesAroundName.{sorted_kids}
use Rattle.llb_tree.proofs.node.Node.+same.Goals as goal

pub returns-then-not-same : goal.returns-then-not-same
returns-then-not-same t c =
    let dirs = dirs_same c.self.inside.kind c.other.inside.kind _ _ c.self.view_is c.other.view_is _ _ _ _
    (ap own_entry c.in-Dir-Dir.is-0) (ap own_entry c.in-Dir-Dir.is-1) refl refl in
    differ (λ same. true≢false (sym (c.same-in-Dir-Dir.ensures.1 (dirs.0 same).0) ∙ c.if-not-same.true))

pub loop-kid-init : goal.loop-kid-init
loop-kid-init t c = record {
  low = omega arith;
  so_far = none_yet (left_in c.of-left.result) (left_in c.of-others.result)
      (subst AreSorted (ap kids_of c.in-Dir-Dir.is-0
      ∙ sym (c.of-left.ensures ∙ ap kids_in (c.as_slice.ensures.value ∙ ap (λ v. v.items) c.deref-in-Dir-Dir.ensures))) (sorted_kids _ c.self.invariant))
      (subst AreSorted (ap kids_of c.in-Dir-Dir.is-1
      ∙ sym (c.of-others.ensures ∙ ap kids_in (c.as_slice-in-Dir-Dir.ensures.value ∙ ap (λ v. v.items) c.deref-in-Dir-Dir-2.ensures)))
      (sorted_kids _ c.other.invariant));
}

pub loop-kid-smaller : goal.loop-kid-smaller
loop-kid-smaller t c = fewer _ _ _ c.in-Some.ensures

pub returns-in_default-split_first-2 : goal.returns-in_default-split_first-2
returns-in_default-split_first-2 t c =
    let dirs = dirs_same c.self.inside.kind c.other.inside.kind _ _ c.self.view_is c.other.view_is _ _ _ _
    (ap own_entry c.in-Dir-Dir.is-0) (ap own_entry c.in-Dir-Dir.is-1)
    (ap kids_of c.in-Dir-Dir.is-0 ∙ sym (c.of-left.ensures ∙ ap kids_in (c.as_slice.ensures.value ∙ ap (λ v. v.items) c.deref-in-Dir-Dir.ensures)))
    (ap kids_of c.in-Dir-Dir.is-1
    ∙ sym (c.of-others.ensures ∙ ap kids_in (c.as_slice-in-Dir-Dir.ensures.value ∙ ap (λ v. v.items) c.deref-in-Dir-Dir-2.ensures))) in
    differ (λ same. one_more _ _ _ _ c.loop-kid.invariant.so_far _ _ c.in-Some.ensures c.in_default-split_first-2.ensures
    (sym (ap is_some c.entry-kid.ensures)) (dirs.0 same).1)

pub returns-then-ne : goal.returns-then-ne
returns-then-ne t c =
    let dirs = dirs_same c.self.inside.kind c.other.inside.kind _ _ c.self.view_is c.other.view_is _ _ _ _
    (ap own_entry c.in-Dir-Dir.is-0) (ap own_entry c.in-Dir-Dir.is-1)
    (ap kids_of c.in-Dir-Dir.is-0 ∙ sym (c.of-left.ensures ∙ ap kids_in (c.as_slice.ensures.value ∙ ap (λ v. v.items) c.deref-in-Dir-Dir.ensures)))
    (ap kids_of c.in-Dir-Dir.is-1
    ∙ sym (c.of-others.ensures ∙ ap kids_in (c.as_slice-in-Dir-Dir.ensures.value ∙ ap (λ v. v.items) c.deref-in-Dir-Dir-2.ensures))) in
    differ (λ same.
    let names = same_name _ _ _ _ c.loop-kid.invariant.so_far _ _ _ _ c.in-Some.ensures c.in-Some-split_first.ensures
    (sym (ap is_some c.entry-kid.ensures)) (sym (ap is_some c.entry-other.ensures)) (dirs.0 same).1 in
    unequal _ _ (sym c.if-ne.true ∙ c.ne.ensures) (c.deref-in-Some.ensures ∙ names ∙ sym c.deref-in-Some-2.ensures))

pub returns-then-not-same-2 : goal.returns-then-not-same-2
returns-then-not-same-2 t c =
    let dirs = dirs_same c.self.inside.kind c.other.inside.kind _ _ c.self.view_is c.other.view_is _ _ _ _
    (ap own_entry c.in-Dir-Dir.is-0) (ap own_entry c.in-Dir-Dir.is-1)
    (ap kids_of c.in-Dir-Dir.is-0 ∙ sym (c.of-left.ensures ∙ ap kids_in (c.as_slice.ensures.value ∙ ap (λ v. v.items) c.deref-in-Dir-Dir.ensures)))
    (ap kids_of c.in-Dir-Dir.is-1
    ∙ sym (c.of-others.ensures ∙ ap kids_in (c.as_slice-in-Dir-Dir.ensures.value ∙ ap (λ v. v.items) c.deref-in-Dir-Dir-2.ensures))) in
    let k = c.in-Some.kid.now in
    let l = c.in-Some-split_first.other.now in
    let names : k.name.value ≡ l.name.value =
    sym c.deref-in-Some.ensures ∙ equal _ _ (sym c.if-ne.false ∙ c.ne.ensures) ∙ c.deref-in-Some-2.ensures in
    differ (λ same.
    let nodes = same_node _ _ _ _ c.loop-kid.invariant.so_far _ _ _ _ c.in-Some.ensures c.in-Some-split_first.ensures names (dirs.0 same).1 in
    true≢false (sym (c.same-in-Some.ensures.1 nodes) ∙ c.if-not-same-2.true))

pub loop-kid-preserved : goal.loop-kid-preserved
loop-kid-preserved t c =
    let k = c.in-Some.kid.now in
    let l = c.in-Some-split_first.other.now in
    let names : k.name.value ≡ l.name.value =
    sym c.deref-in-Some.ensures ∙ equal _ _ (sym c.if-ne.false ∙ c.ne.ensures) ∙ c.deref-in-Some-2.ensures in
    let first = first_below (left_in c.loop-kid.left) (left_in c.in-Some.rest) k c.in-Some.ensures in
    record {
      low = omega (arith, first.1, c.loop-kid.invariant.low);
      so_far = one_further _ _ _ _ c.loop-kid.invariant.so_far _ _ _ _ c.in-Some.ensures c.in-Some-split_first.ensures names
          (c.same-in-Some.ensures.0 c.if-not-same-2.false);
    }

pub returns-in-Some-split_first-2 : goal.returns-in-Some-split_first-2
returns-in-Some-split_first-2 t c =
    let dirs = dirs_same c.self.inside.kind c.other.inside.kind _ _ c.self.view_is c.other.view_is _ _ _ _
    (ap own_entry c.in-Dir-Dir.is-0) (ap own_entry c.in-Dir-Dir.is-1)
    (ap kids_of c.in-Dir-Dir.is-0 ∙ sym (c.of-left.ensures ∙ ap kids_in (c.as_slice.ensures.value ∙ ap (λ v. v.items) c.deref-in-Dir-Dir.ensures)))
    (ap kids_of c.in-Dir-Dir.is-1
    ∙ sym (c.of-others.ensures ∙ ap kids_in (c.as_slice-in-Dir-Dir.ensures.value ∙ ap (λ v. v.items) c.deref-in-Dir-Dir-2.ensures))) in
    differ (λ same. one_less _ _ _ _ c.loop-kid.invariant.so_far _ _ c.in-Some-split_first-2.ensures c.in_default-split_first.ensures
    (sym (ap is_some c.entry-other-in-Some-split_first-2.ensures)) (dirs.0 same).1)

pub returns-then-same : goal.returns-then-same
returns-then-same t c =
    let files = files_same c.self.inside.kind c.other.inside.kind _ _ c.self.view_is c.other.view_is _ _ _ _
    (ap own_entry c.in-File-File.is-0) (ap own_entry c.in-File-File.is-1) (ap kids_of c.in-File-File.is-0) (ap kids_of c.in-File-File.is-1) in
    let meta = c.same.ensures.0 c.if-same.true in (
      λ is. files.1 (meta, sym c.deref.ensures ∙ c.same-then-same.ensures.0 is ∙ c.deref-then-same.ensures),
      λ same. c.same-then-same.ensures.1 (c.deref.ensures ∙ (files.0 same).1 ∙ sym c.deref-then-same.ensures),
    )

pub returns-else-same : goal.returns-else-same
returns-else-same t c =
    let files = files_same c.self.inside.kind c.other.inside.kind _ _ c.self.view_is c.other.view_is _ _ _ _
    (ap own_entry c.in-File-File.is-0) (ap own_entry c.in-File-File.is-1) (ap kids_of c.in-File-File.is-0) (ap kids_of c.in-File-File.is-1) in
    (λ is. absurd (true≢false (sym is ∙ c.if-same.false)), λ same. c.same.ensures.1 (files.0 same).0)

pub returns-in-None : goal.returns-in-None
returns-in-None t c =
    let dirs = dirs_same c.self.inside.kind c.other.inside.kind _ _ c.self.view_is c.other.view_is _ _ _ _
    (ap own_entry c.in-Dir-Dir.is-0) (ap own_entry c.in-Dir-Dir.is-1)
    (ap kids_of c.in-Dir-Dir.is-0 ∙ sym (c.of-left.ensures ∙ ap kids_in (c.as_slice.ensures.value ∙ ap (λ v. v.items) c.deref-in-Dir-Dir.ensures)))
    (ap kids_of c.in-Dir-Dir.is-1
    ∙ sym (c.of-others.ensures ∙ ap kids_in (c.as_slice-in-Dir-Dir.ensures.value ∙ ap (λ v. v.items) c.deref-in-Dir-Dir-2.ensures))) in
    let meta = c.same-in-Dir-Dir.ensures.0 c.if-not-same.false in
    agree (dirs.1 (meta, all_alike _ _ _ _ c.loop-kid.invariant.so_far c.in_default-split_first.ensures c.in-None.ensures))

pub returns-in_default : goal.returns-in_default
returns-in_default t c =
    differ (λ same. file_no_dir c.self.inside.kind c.other.inside.kind _ _ c.self.view_is c.other.view_is _ _ _
    (ap own_entry c.in_default.is-0) (ap own_entry c.in_default.is-1) same)

pub returns-in_default-2 : goal.returns-in_default-2
returns-in_default-2 t c =
    differ (λ same. file_no_dir c.other.inside.kind c.self.inside.kind _ _ c.other.view_is c.self.view_is _ _ _
    (ap own_entry c.in_default.is-1) (ap own_entry c.in_default.is-0) (sym same))

pub same-requires-in-Some : goal.same-requires-in-Some
same-requires-in-Some t c =
    let first = first_below (left_in c.loop-kid.left) (left_in c.in-Some.rest) c.in-Some.kid.now c.in-Some.ensures in
    let all = kids_below c.self.inside.kind c.in-Dir-Dir.meta c.in-Dir-Dir.kids c.args.self.now (left_in c.of-left.result) c.self.view_is c.in-Dir-Dir.is-0
    (c.of-left.ensures ∙ ap kids_in (c.as_slice.ensures.value ∙ ap (λ v. v.items) c.deref-in-Dir-Dir.ensures)) in
    (omega (arith, first.0, all, c.loop-kid.invariant.low, c.decreases), tt)
