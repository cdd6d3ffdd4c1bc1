use Rattle.std.proofs.Common.{sym, ◌∙◌, ap}
use Rattle.llb_applet.specs.Scripts.{script_of}
use Rattle.llb_findings.proofs.BrokenRules.{script_met, script_broken, script_unasked, no_words, no_meta, has_words}
use Rattle.llb_findings.proofs.op_rules.add_script.Goals as goal

pub returns-in_default : goal.returns-in_default
returns-in_default c = λ inputs. script_unasked inputs c.args.exec.now _ (no_meta c.args.exec.now c.in_default.is)

pub returns-then-is_empty : goal.returns-then-is_empty
returns-then-is_empty c = λ inputs. script_unasked inputs c.args.exec.now _
    (no_words c.args.exec.now c.in-Some.meta c.is_empty.result c.in-Some.is c.is_empty.ensures c.if-is_empty.true)

pub returns-in-Ok : goal.returns-in-Ok
returns-in-Ok c = λ inputs. script_met inputs c.args.exec.now c.in-Some.meta c.in-Ok.field-0 _ c.in-Some.is
    (ap script_of (sym c.as_slice.ensures) ∙ c.in-Ok.ensures.gives)

pub returns : goal.returns
returns c = λ inputs. script_broken inputs c.args.exec.now c.in-Some.meta c.in-Err.fault _ _ c.in-Some.is
    (has_words c.in-Some.meta c.is_empty.result c.is_empty.ensures c.if-is_empty.false)
    (ap script_of (sym c.as_slice.ensures) ∙ c.in-Err.ensures.gives (sym c.is_memory.ensures ∙ c.if-is_memory.false)) c.in_ok-push.ensures.items
