use Rattle.std.proofs.Common.{◌↔◌, List, ℕ, IsTrue, take, refl, sym, ap, ◌∙◌, subst, true≢false}
use Rattle.std.proofs.lemmas.List.{take_all}
use Rattle.std.specs.List.{Contains}
use Rattle.llb_mount.specs.declared.shown_tree.Shown.{Shown}
use Rattle.llb_mount.specs.View.{dests}
use Rattle.llb_mount.proofs.DistinctDests.{Differ, one_more, twice}
use Rattle.llb_mount.proofs.view.all_differ.Goals as goal
use Rattle.llb_mount.proofs.view.all_differ.Goals.{After-is_taken}

-- whether the dest at hand is taken before
is_taken_before : (c : After-is_taken) → IsTrue c.is_taken.result ↔ Contains (dests (take c.loop-i.i c.args.mounts.now)) c.index-mounts-i.result.dest
is_taken_before c =
    let Before : List Shown → Type 0 = λ ms. IsTrue c.is_taken.result ↔ Contains (dests ms) c.names.result.now in
    let Named : List (List ℕ) → Type 0 = λ d. IsTrue c.is_taken.result ↔ Contains (dests (take c.loop-i.i c.args.mounts.now)) d in
    subst Named (c.names.ensures.all ∙ ap (λ (m : Shown). m.dest) (sym c.index-mounts-i.is)) (subst Before c.split_at.ensures.front c.is_taken.ensures)

pub returns-then-is_taken : goal.returns-then-is_taken
returns-then-is_taken c =
    let there = (is_taken_before (goal.at.returns-then-is_taken c).After-is_taken).0 c.if-is_taken.true in (
      λ no. absurd (true≢false (sym no)),
      λ differ. absurd (twice c.args.mounts.now c.loop-i.i c.index-mounts-i.result c.loop-i-test.true c.index-mounts-i.is there differ),
    )

pub loop-i-preserved : goal.loop-i-preserved
loop-i-preserved c =
    let free : Contains (dests (take c.loop-i.i c.args.mounts.now)) c.index-mounts-i.result.dest → ⊥ =
    λ there. true≢false (sym ((is_taken_before (goal.at.loop-i-preserved c).After-is_taken).1 there) ∙ c.if-is_taken.false) in
    one_more c.args.mounts.now c.loop-i.i c.index-mounts-i.result c.loop-i-test.true c.index-mounts-i.is c.loop-i.invariant free

pub returns : goal.returns
returns c = (λ _. subst Differ (take_all c.loop-i.i c.args.mounts.now c.loop-i-test.false) c.loop-i.invariant, λ _. refl)
