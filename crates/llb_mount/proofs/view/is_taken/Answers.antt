use Rattle.std.proofs.Common.{◌≡◌, refl, sym, ap, ◌∙◌, below_more, true≢false}
use Rattle.std.proofs.lemmas.List.{get_or_default}
use Rattle.std.specs.Cmp.Lexicographic.{pointwise_decides, bytes_decides}
use Rattle.llb_mount.specs.declared.shown_tree.Shown.{Shown}
use Rattle.llb_mount.specs.View.{mount_at, no_mount}
use Rattle.llb_mount.proofs.DistinctDests.{taken, not_taken}
use Rattle.llb_mount.proofs.view.is_taken.Goals as goal

pub returns-then-eq : goal.returns-then-eq
returns-then-eq c =
    let same = sym c.names.ensures.all ∙ (pointwise_decides bytes_decides c.names.result.now c.args.names.now).0 (sym c.eq.ensures ∙ c.if-eq.true) in
    (λ _. taken c.args.mounts.now c.args.names.now c.loop-shown.shown-index c.shown-item.result c.loop-shown-test.true c.shown-item.is same, λ _. refl)

pub loop-shown-preserved : goal.loop-shown-preserved
loop-shown-preserved c =
    let mounts = c.args.mounts.now in
    let at_hand : (mount_at mounts c.loop-shown.shown-index).dest ≡ c.names.result.now =
    ap (λ (m : Shown). m.dest) (get_or_default mounts c.loop-shown.shown-index no_mount c.shown-item.result c.loop-shown-test.true
    ∙ sym c.shown-item.is) ∙ sym c.names.ensures.all in
    let differ : (mount_at mounts c.loop-shown.shown-index).dest ≡ c.args.names.now → ⊥ =
    λ same. true≢false (sym ((pointwise_decides bytes_decides c.names.result.now c.args.names.now).1 (sym at_hand ∙ same))
    ∙ sym c.eq.ensures ∙ c.if-eq.false) in
    below_more (λ k. (mount_at mounts k).dest ≡ c.args.names.now → ⊥) c.loop-shown.shown-index c.loop-shown.invariant differ

pub returns : goal.returns
returns c =
    let none = not_taken c.args.mounts.now c.args.names.now c.loop-shown.shown-index c.loop-shown-test.false c.loop-shown.invariant in
    (λ no. absurd (true≢false (sym no)), λ there. absurd (none there))
