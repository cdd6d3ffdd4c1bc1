use Rattle.std.proofs.Common.{List, ℕ, subst, sym, ◌∙◌}
use Rattle.std.specs.List.{Contains}
use Rattle.llb_fileop.specs.Copying.{EachMatch}
use Rattle.llb_fileop.proofs.MatchedSubtrees.{sources_are}
use Rattle.llb_loader.proofs.OutputNumbers.{false_when}
use Rattle.llb_laws.specs.CopiedPaths.{AgreeBelowEach, AgreeOn}
use Rattle.llb_laws.proofs.TokenPlans.{differ}
use Rattle.llb_laws.proofs.TreesBelow.{agree_on_both, agree_on_each, with_ok}
use Rattle.llb_laws.proofs.copies.agree_on_matches.Goals as goal

pub returns-then-not-branch : goal.returns-then-not-branch
returns-then-not-branch c =
    let t = c.args.first.now in
    let found = sources_are c.args.pattern.now c.parts.result.now t c.in-Ok.paths.items c.parts.ensures c.in-Ok.ensures in
    false_when (λ agree. differ c.in_ok-agree_below_each.field-0 c.if-not-branch.true (c.in_ok-agree_below_each.ensures.1 (λ p there.
    agree_on_each t c.args.second.now t c.args.pattern.now agree p
    (subst (λ (ps : List (List (List ℕ))). Contains ps p) (c.as_slice.ensures.value ∙ found) there))))

pub returns : goal.returns
returns c =
    let t = c.args.first.now in
    let u = c.args.second.now in
    let pattern = c.args.pattern.now in
    let first = sources_are pattern c.parts.result.now t c.in-Ok.paths.items c.parts.ensures c.in-Ok.ensures in
    let second = sources_are pattern c.parts-2.result.now u c.in-Ok-passing.others.items c.parts-2.ensures c.in-Ok-passing.ensures in
    with_ok c.agree_below_each-2.result (AgreeBelowEach t u c.as_slice-2.result.now) (AgreeOn t u (EachMatch pattern)) (
      λ each. agree_on_both t u pattern c.is_tree.ensures c.is_tree-2.ensures
          (λ p there. c.in_ok-agree_below_each.ensures.0 c.if-not-branch.false p
          (subst (λ (ps : List (List (List ℕ))). Contains ps p) (sym (c.as_slice.ensures.value ∙ first)) there))
          (λ p there. each p (subst (λ (ps : List (List (List ℕ))). Contains ps p) (sym (c.as_slice-2.ensures.value ∙ second)) there)),
      λ agree p there. agree_on_each t u u pattern agree p
          (subst (λ (ps : List (List (List ℕ))). Contains ps p) (c.as_slice-2.ensures.value ∙ second) there),
    ) c.agree_below_each-2.ensures
