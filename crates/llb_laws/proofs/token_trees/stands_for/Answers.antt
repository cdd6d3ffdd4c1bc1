use Rattle.std.proofs.Common.{◌∙◌, ap}
use Rattle.llb_laws.specs.ContentLaws.{has_mark}
use Rattle.llb_laws.proofs.TokenPlans.{differ}
use Rattle.llb_laws.proofs.TokenTrees.{equal_stands, other_stands}
use Rattle.llb_laws.proofs.token_trees.stands_for.Goals as goal

pub returns-then-same : goal.returns-then-same
returns-then-same c =
    equal_stands c.args.contents.now c.args.by_value c.has_mark.result c.args.first.now c.args.second.now c.if-by_value.true
    (c.same.ensures.0 c.if-same.true) (c.has_mark.ensures ∙ ap has_mark c.as_slice.ensures)

pub returns-else-same : goal.returns-else-same
returns-else-same c = (
  λ yes. absurd (differ c.same.result c.if-same.false yes),
  λ h. absurd (other_stands c.args.contents.now c.args.by_value c.args.first.now c.args.second.now c.if-by_value.true
      (λ e. differ c.same.result c.if-same.false (c.same.ensures.1 e)) h),
)
