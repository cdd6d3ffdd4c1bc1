use Rattle.llb_findings.proofs.BrokenRules.{of_no_kind, added_first, pushed_first}
use Rattle.llb_findings.proofs.op_rules.rules_broken.Goals as goal

pub returns-in_default : goal.returns-in_default
returns-in_default c = of_no_kind c.args.op.now.inputs c.args.op.now.kind _ c.in_default.is (pushed_first _ _ _ c.new-found.ensures.items
    c.in_ok-push.ensures.items)

pub returns : goal.returns
returns c = added_first c.args.op.now.inputs c.args.op.now.kind c.in-Some.kind _ _ c.in-Some.is c.new-found.ensures.items
    (rw c.as_slice.ensures at c.in_ok-add_by_kind.ensures)
